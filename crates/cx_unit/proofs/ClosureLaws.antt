-- The faults of the files of a unit, one after another.
use Rattle.std.proofs.Common.{◌≡◌, ℕ, ◌+◌, ◌<◌, ◌≤◌, Bool, true, false, cond, not, nat_lt, List, [], ◌∷◌, Option, Some, None, refl, sym, ap, ◌∙◌, add-one, arith, drop, drop-cons, get_or, length, position}
use Rattle.std.specs.List.{position_or_len}
use Rattle.std.specs.Option.{option_or}
use Rattle.std.proofs.lemmas.Bool.{ltb-false}
use Rattle.std.proofs.lemmas.List.{drop_all}
use Rattle.std.proofs.lemmas.List.Sums.{prefix_len-le-length}
use Rattle.cx_base.specs.declared.answers.SeenEntry.{SeenEntry}
use Rattle.cx_base.specs.declared.finding.Finding.{Finding}
use Rattle.cx_asking.specs.declared.text_fault.TextFault.{TextFault}
use Rattle.cx_asking.specs.Wishes.{answer_in}
use Rattle.cx_unit.specs.declared.closure_fault.Counted.{Counted}
use Rattle.cx_unit.specs.declared.limits.UnitLimits.{UnitLimits}
use Rattle.cx_unit.specs.Closures.{closure_fault, file_fault, number_in, with_file}

-- where something stands, by its position if it has one

module _ {A : Type 0} (p : A → Bool) (xs : List A) where
  pub found_number : (n : ℕ) → Some n ≡ position p xs → n ≡ position_or_len p xs
  found_number n e = by (nat_lt (position_or_len p xs) (length xs)) e
    where
      by : (b : Bool) → Some n ≡ cond b (Some (position_or_len p xs)) None → n ≡ position_or_len p xs
      by true e = cc
      by false e = absurd cc

  pub no_number : None ≡ position p xs → length xs ≡ position_or_len p xs
  no_number e = by (nat_lt (position_or_len p xs) (length xs)) refl e
    where
      by : (b : Bool) → nat_lt (position_or_len p xs) (length xs) ≡ b → None ≡ cond b (Some (position_or_len p xs)) None
          → length xs ≡ position_or_len p xs
      by true t e = absurd cc
      by false t e =
          let past : length xs ≤ position_or_len p xs = ltb-false _ _ t in
          omega (arith, past, prefix_len-le-length (λ x. not (p x)) xs)

-- the next member of a list, and the others

pub drop_next : {A : Type 0} (xs : List A) (n : ℕ) (d : A) → n < length xs → drop n xs ≡ get_or xs n d ∷ drop (n + 1) xs
drop_next xs n d below = drop-cons xs n d below ∙ ap (λ k. get_or xs n d ∷ drop k xs) (sym (add-one n))

module _ (limits : UnitLimits) (seen : List SeenEntry) (faults : List (Option TextFault)) (unit : ℕ) (before : Counted) (files : List (List ℕ)) (n : ℕ) where
  module _ (path : List ℕ) (below : n < length files) (at : path ≡ get_or files n path) where
    step_is : closure_fault limits seen faults unit before (drop n files)
        ≡ option_or (file_fault limits unit (number_in seen path) before (get_or faults (number_in seen path) None) (answer_in seen path))
        (closure_fault limits seen faults unit (with_file (answer_in seen path) before) (drop (n + 1) files))
    unfolding closure_fault
    step_is = ap (closure_fault limits seen faults unit before) (drop_next files n path below ∙ ap (λ p. p ∷ drop (n + 1) files) (sym at))

    pub fault_here : (found : Finding)
        → Some found ≡ file_fault limits unit (number_in seen path) before (get_or faults (number_in seen path) None) (answer_in seen path)
        → closure_fault limits seen faults unit before (drop n files) ≡ Some found
    fault_here found e =
        step_is ∙ ap (λ o. option_or o (closure_fault limits seen faults unit (with_file (answer_in seen path) before) (drop (n + 1) files))) (sym e)

    pub fault_later : None ≡ file_fault limits unit (number_in seen path) before (get_or faults (number_in seen path) None) (answer_in seen path)
        → closure_fault limits seen faults unit before (drop n files)
        ≡ closure_fault limits seen faults unit (with_file (answer_in seen path) before) (drop (n + 1) files)
    fault_later e =
        step_is ∙ ap (λ o. option_or o (closure_fault limits seen faults unit (with_file (answer_in seen path) before) (drop (n + 1) files))) (sym e)

  pub fault_end : length files ≤ n → closure_fault limits seen faults unit before (drop n files) ≡ None
  unfolding closure_fault
  fault_end past = ap (closure_fault limits seen faults unit before) (drop_all n files past)
