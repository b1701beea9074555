-- Where the files of a unit could be read and have no fault, each that is there has pieces.
use Rattle.std.proofs.Common.{◌≡◌, ℕ, ◌+◌, List, [], ◌∷◌, Bool, true, false, cond, ◌&&◌, not, Contains, Option, Some, None, codes, filter, is_some, length, map, nat_le, nat_lt, option_map, refl, ap}
use Rattle.std.specs.List.{AllByRecursion}
use Rattle.std.specs.Option.{option_or}
use Rattle.std.proofs.lemmas.List.Elements.{All-contains, All-from_recursion}
use Rattle.cx_base.specs.declared.answers.Answer.{Answer}
use Rattle.cx_base.specs.declared.answers.Answer.TheVariants.{Present, Absent, Folder, Unreadable, TooLarge}
use Rattle.cx_base.specs.declared.finding.Finding.{Finding}
use Rattle.cx_asking.specs.declared.text_fault.TextFault.{TextFault}
use Rattle.cx_asking.specs.Asking.{is_present}
use Rattle.cx_asking.specs.Includes.{is_taken}
use Rattle.cx_asking.specs.Wishes.{answer_in, is_there, is_unreadable}
use Rattle.cx_finding.specs.Kinds.{limit_passed}
use Rattle.cx_unit.specs.declared.closure_fault.Counted.{Counted}
use Rattle.cx_unit.specs.declared.limits.UnitLimits.{UnitLimits}
use Rattle.cx_unit.specs.Closures.{closure_fault, file_fault, nothing, number_in, present_fault, top_of, with_file}
use Rattle.cx_unit.specs.Faults.{text_finding}
use Rattle.cx_unit.specs.Units.{Ground, files_fault, unit_files, unreadable_files}
use Rattle.cx_input.specs.Inputs.{fault_in, has_pieces}

-- where nothing passes a test
none_pass : (P : List ℕ → Finding) (test : List ℕ → Bool) (paths : List (List ℕ))
    → map P (filter test paths) ≡ [] → AllByRecursion (λ p. test p ≡ false) paths
none_pass P test [] e = tt
none_pass P test (path ∷ paths) e = by (test path) refl e (none_pass P test paths)
  where
    by : (b : Bool) → test path ≡ b
        → map P (cond b (path ∷ filter test paths) (filter test paths)) ≡ []
        → (map P (filter test paths) ≡ [] → AllByRecursion (λ p. test p ≡ false) paths)
        → (test path ≡ false) × AllByRecursion (λ p. test p ≡ false) paths
    by true t e rest = absurd cc
    by false t e rest = (t, rest e)

no_fault : (limits : UnitLimits) (unit : ℕ) (before : Counted) (fault : Option TextFault)
    (bytes : List ℕ) → present_fault limits unit before fault bytes ≡ None
    → is_some fault ≡ false
no_fault limits unit before fault bytes =
    by (nat_le limits.files before.files) (nat_lt limits.bytes (before.bytes + length bytes)) fault
  where
    by : (many long : Bool) (fault : Option TextFault)
        → cond many
        (Some (limit_passed (codes "files") limits.files (limits.files + 1) (top_of unit)))
        (cond long (Some (limit_passed (codes "closure bytes") limits.bytes
        (before.bytes + length bytes) (top_of unit))) (option_map text_finding fault)) ≡ None
        → is_some fault ≡ false
    by true long fault e = absurd cc
    by false true fault e = absurd cc
    by false false None e = refl
    by false false (Some fault) e = absurd cc

module _ (limits : UnitLimits) (unit number : ℕ) (before : Counted) (fault : Option TextFault)
  where
    -- a file with no fault that is there, and could be read, has pieces
    sound_pieces : (answer : Answer)
        → file_fault limits unit number before fault answer ≡ None
        → is_unreadable answer ≡ false → is_there answer ≡ true
        → (is_present answer && not (is_some fault)) ≡ true
    sound_pieces (Present bytes) e r t = ap not (no_fault limits unit before fault bytes e)
    sound_pieces Absent e r t = absurd cc
    sound_pieces (Folder entries) e r t = absurd cc
    sound_pieces Unreadable e r t = absurd cc
    sound_pieces TooLarge e r t = absurd cc

module _ (g : Ground) (path : List ℕ) where
  -- the file at a path has pieces where something stands there
  abbrev IsClean : List ℕ → Type 0
  IsClean file = is_taken g.seen file ≡ true → has_pieces g file ≡ true

  none_both : (some other : Option Finding) → option_or some other ≡ None
      → (some ≡ None) × (other ≡ None)
  none_both None other e = (refl, e)
  none_both (Some found) other e = absurd cc

  all_clean : (before : Counted) (files : List (List ℕ))
      → AllByRecursion (λ p. is_unreadable (answer_in g.seen p) ≡ false) files
      → closure_fault g.limits g.seen g.faults (number_in g.seen path) before files ≡ None
      → AllByRecursion IsClean files
  unfolding closure_fault
  all_clean before [] h e = tt
  all_clean before (file ∷ files) h e =
      let both = none_both
      (file_fault g.limits (number_in g.seen path) (number_in g.seen file) before
      (fault_in g file) (answer_in g.seen file))
      (closure_fault g.limits g.seen g.faults (number_in g.seen path)
      (with_file (answer_in g.seen file) before) files) e in (
        λ t. sound_pieces g.limits (number_in g.seen path) (number_in g.seen file) before
            (fault_in g file) (answer_in g.seen file) both.0 h.0 t,
        all_clean (with_file (answer_in g.seen file) before) files h.1 both.1,
      )

  pub clean : unreadable_files g path ≡ [] → files_fault g path ≡ None → (file : List ℕ)
      → Contains (unit_files g path) file → is_taken g.seen file ≡ true
      → has_pieces g file ≡ true
  clean read sound file c =
      All-contains IsClean (unit_files g path) file
      (All-from_recursion IsClean (unit_files g path)
      (all_clean nothing (unit_files g path)
      (none_pass _ (λ p. is_unreadable (answer_in g.seen p)) (unit_files g path) read) sound)) c
