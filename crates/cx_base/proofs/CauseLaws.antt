-- What a call did to the count of faults, and the calls that failed.
use Rattle.std.proofs.Common.{◌≡◌, ℕ, ◌+◌, ◌≤◌, true, false, List, [], ◌∷◌, ◌++◌, length, arith, refl, ap, ◌∙◌, map, Result, Ok, Err}
use Rattle.std.proofs.lemmas.List.{append-nil, length-append, map-append}
use Rattle.std.proofs.lemmas.List.Elements.{filter-append}
use Rattle.std.specs.List.{filter}
use Rattle.cx_base.specs.declared.errors.Lost.{Lost}
use Rattle.cx_base.specs.declared.errors.Lost.TheVariants.{Failed, NoMemory}
use Rattle.cx_base.specs.declared.file_calls.FileCall.{FileCall}
use Rattle.cx_base.specs.declared.file_calls.FileRequest.{FileRequest}
use Rattle.cx_base.specs.Faults.{HasCause, Rose}
use Rattle.cx_base.specs.Memory.{MemoryFilesState}
use Rattle.cx_base.specs.Outside.{failed_paths}
use Rattle.cx_base.specs.Shapes.MemoryCalls.{with_call, FailsAt}

-- a count never falls
pub cause_later : {T : Type 0} (before now : ℕ) (result : Result T Lost) → HasCause before now result → before ≤ now
cause_later before now (Ok x) h = omega (arith, h)
cause_later before now (Err Failed) h = h.0
cause_later before now (Err NoMemory) h = omega (arith, h)

-- a call that failed raised the count
pub cause_rose : {T : Type 0} (before now : ℕ) (result : Result T Lost) → HasCause before now result → result ≡ Err Failed → Rose before now
cause_rose before now (Ok x) h e = absurd (cc)
cause_rose before now (Err Failed) h e = h.1
cause_rose before now (Err NoMemory) h e = absurd (cc)

-- the failed paths of calls one behind the other
pub failed_paths_append : (calls more : List FileCall) → failed_paths (calls ++ more) ≡ failed_paths calls ++ failed_paths more
failed_paths_append calls more =
    ap (map (λ call. call.path)) (filter-append (λ call. call.failed) calls more)
    ∙ map-append (λ call. call.path) (filter (λ call. call.failed) calls) (filter (λ call. call.failed) more)

-- a call that is to fail has its cause
pub fail_cause : (before after : MemoryFilesState) (path : List ℕ) (request : FileRequest) (lost : Lost)
    → FailsAt before after path request lost
    → HasCause {T = ℕ} (length (failed_paths before.told.calls)) (length (failed_paths after.told.calls)) (Err lost)
fail_cause before after path request Failed h =
    let more = failed_paths_append before.told.calls (record { path = path; request = request; failed = true } ∷ []) in
    let e : length (failed_paths after.told.calls) ≡ length (failed_paths before.told.calls) + 1 =
    rw (h, more) (length-append (failed_paths before.told.calls) (path ∷ [])) in
    (omega (arith, e), omega (arith, e))
fail_cause before after path request NoMemory h = rw h refl

-- a call that is answered well raises no count
pub note_cause : (before after : MemoryFilesState) (path : List ℕ) (request : FileRequest)
    → after ≡ with_call before path request false
    → length (failed_paths after.told.calls) ≡ length (failed_paths before.told.calls)
note_cause before after path request h =
    let more = failed_paths_append before.told.calls (record { path = path; request = request; failed = false } ∷ []) in
    rw (h, more, append-nil) refl
