-- The calls that files answered, one after another.
use Rattle.std.proofs.Common.{◌≡◌, ℕ, ◌+◌, true, false, List, [], ◌∷◌, ◌++◌, length, Option, Some, None, Result, Ok, Err, IfSome, refl, sym, ap, subst, ◌∙◌, append_assoc, append-nil, length-append, arith}
use Rattle.cx_base.proofs.CauseLaws.{failed_paths_append}
use Rattle.cx_base.specs.declared.errors.Lost.{Lost}
use Rattle.cx_base.specs.declared.errors.Lost.TheVariants.{Failed, NoMemory}
use Rattle.cx_base.specs.declared.file_calls.FileCall.{FileCall}
use Rattle.cx_base.specs.declared.file_calls.FileRequest.{FileRequest}
use Rattle.cx_base.specs.Faults.{HasCause, RoseBy}
use Rattle.cx_base.specs.Outside.{FilesState, FilesTold, Notes, failed_paths}
use Rattle.cx_asking.specs.Calls.{Answered}

-- what holds where a value is told, of a value that is told later
pub some_then : {X : Type 0} (o : Option X) (P Q : X → Type 0) → ((x : X) → P x → Q x) → IfSome o P → IfSome o Q
some_then None P Q f h = tt
some_then (Some x) P Q f h = f x h

pub some_along : {X : Type 0} (before after : Option X) (f : X → X) (P : X → Type 0)
    → IfSome before (λ x. after ≡ Some (f x)) → IfSome after P → IfSome before (λ x. P (f x))
some_along None after f P e h = tt
some_along (Some x) None f P e h = absurd cc
some_along (Some x) (Some y) f P e h = let same : y ≡ f x = cc in subst P same h

-- the call that a result is of: none where memory ran out
abbrev pub call_of : {T : Type 0} → List ℕ → FileRequest → Result T Lost → List FileCall
call_of path request (Ok x) = record { path = path; request = request; failed = false } ∷ []
call_of path request (Err Failed) = record { path = path; request = request; failed = true } ∷ []
call_of path request (Err NoMemory) = []

told_one : {T : Type 0} (before : Option FilesTold) (after : FilesState) (path : List ℕ) (request : FileRequest) (result : Result T Lost)
    → IfSome before (λ told. Notes told after path request result)
    → IfSome before (λ told. after.told ≡ Some (record told { calls = told.calls ++ call_of path request result }))
told_one None after path request result h = tt
told_one (Some told) after path request (Ok x) h = h
told_one (Some told) after path request (Err Failed) h = h
told_one (Some told) after path request (Err NoMemory) h =
    h ∙ ap (λ calls. Some (record { stored = told.stored; calls = calls })) (sym (append-nil told.calls))

-- a call was answered
pub answered_one : {T : Type 0} (before after : FilesState) (path : List ℕ) (request : FileRequest) (result : Result T Lost)
    → IfSome before.told (λ told. Notes told after path request result) → HasCause before.faults after.faults result
    → Answered before after (call_of path request result)
answered_one {T} before after path request (Ok x) h cause = record {
  told = told_one {T = T} before.told after path request (Ok x) h;
  unfailed = λ e. cause;
  failed = omega (arith, cause);
}
answered_one {T} before after path request (Err Failed) h cause = record {
  told = told_one {T = T} before.told after path request (Err Failed) h;
  unfailed = λ e. absurd cc;
  failed = cause.1;
}
answered_one {T} before after path request (Err NoMemory) h cause = record {
  told = told_one {T = T} before.told after path request (Err NoMemory) h;
  unfailed = λ e. cause;
  failed = omega (arith, cause);
}

told_both : (before middle after : Option FilesTold) (front back : List FileCall)
    → IfSome before (λ told. middle ≡ Some (record told { calls = told.calls ++ front }))
    → IfSome middle (λ told. after ≡ Some (record told { calls = told.calls ++ back }))
    → IfSome before (λ told. after ≡ Some (record told { calls = told.calls ++ (front ++ back) }))
told_both before middle after front back p q =
    some_then before
    (λ told. after ≡ Some (record told { calls = (told.calls ++ front) ++ back }))
    (λ told. after ≡ Some (record told { calls = told.calls ++ (front ++ back) }))
    (λ told h. h ∙ ap (λ calls. Some (record { stored = told.stored; calls = calls })) (append_assoc told.calls front back))
    (some_along before middle (λ told. record told { calls = told.calls ++ front })
    (λ told. after ≡ Some (record told { calls = told.calls ++ back })) p q)

nil_left : {X : Type 0} (xs ys : List X) → xs ++ ys ≡ [] → xs ≡ []
nil_left [] ys e = refl
nil_left (x ∷ xs) ys e = absurd cc

nil_right : {X : Type 0} (xs ys : List X) → xs ++ ys ≡ [] → ys ≡ []
nil_right [] ys e = e
nil_right (x ∷ xs) ys e = absurd cc

rose_both : (m n before middle after : ℕ) → RoseBy m before middle → RoseBy n middle after → RoseBy (m + n) before after
rose_both m n before middle after p q = omega (arith, p, q)

-- calls one after another
pub answered_both : (before middle after : FilesState) (front back : List FileCall)
    → Answered before middle front → Answered middle after back → Answered before after (front ++ back)
answered_both before middle after front back p q =
    let paths = failed_paths_append front back in
    let count : length (failed_paths (front ++ back)) ≡ length (failed_paths front) + length (failed_paths back) =
    ap length paths ∙ length-append (failed_paths front) (failed_paths back) in
    record {
      told = told_both before.told middle.told after.told front back p.told q.told;
      unfailed = λ e. let none = sym paths ∙ e in
          q.unfailed (nil_right (failed_paths front) (failed_paths back) none)
          ∙ p.unfailed (nil_left (failed_paths front) (failed_paths back) none);
      failed = subst (λ n. RoseBy n before.faults after.faults) (sym count)
          (rose_both (length (failed_paths front)) (length (failed_paths back)) before.faults middle.faults after.faults p.failed q.failed);
    }

-- no call was made
pub answered_none : (files : FilesState) → Answered files files []
answered_none files = record { told = told_none files.told; unfailed = λ e. refl; failed = omega arith }
  where
    told_none : (told : Option FilesTold) → IfSome told (λ t. told ≡ Some (record t { calls = t.calls ++ [] }))
    told_none None = tt
    told_none (Some t) = ap (λ calls. Some (record { stored = t.stored; calls = calls })) (sym (append-nil t.calls))
