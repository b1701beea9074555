-- Marks of the files of two shelves, each file by its path.
use Rattle.std.proofs.Common.{◌≡◌, ℕ, ◌<◌, ◌≤◌, ◌&&◌, List, Bool, true, false, cond, not, nat_eq, nat_lt, get_or, length, replicate, set, sym, ap, ◌∙◌, subst, ⊎_elim, arith}
use Rattle.std.specs.Str.{bytes_eq}
use Rattle.std.proofs.lemmas.Bool.{cases_eq, cases_lt}
use Rattle.std.proofs.lemmas.Bool.Decides.{nat_tests}
use Rattle.std.proofs.lemmas.List.{get_or-replicate, get_or-set_other, get_or-set_same, get_or_past, length-replicate, length-set}
use Rattle.cx_shelf.specs.declared.shelf.Shelf.{Shelf}
use Rattle.cx_unit.specs.Units.{number_among}
use Rattle.cx_input.specs.Inputs.{is_shelved}
use Rattle.cx_input.proofs.NumberLaws.{number_below, numbers_are_equal}

-- a mark more, at each place
mark_set : (marks : List Bool) (i j : ℕ)
    → get_or (set marks i true) j false
    ≡ cond (nat_eq i j && nat_lt i (length marks)) true (get_or marks j false)
mark_set marks i j =
    ⊎_elim
    (λ (same : i ≡ j).
    ⊎_elim (λ (below : i < length marks). here same below)
    (λ (past : length marks ≤ i). nowhere same past) (cases_lt i (length marks)))
    (λ (other : i ≡ j → ⊥). elsewhere other)
    (cases_eq i j)
  where
    here : i ≡ j → i < length marks → get_or (set marks i true) j false
        ≡ cond (nat_eq i j && nat_lt i (length marks)) true (get_or marks j false)
    here same below =
        let t : (nat_eq i j && nat_lt i (length marks)) ≡ true =
        grind (arith, nat_tests, same, below) in
        subst (λ k. get_or (set marks i true) k false ≡ true) same
        (get_or-set_same marks i true false below)
        ∙ sym (ap (λ b. cond b true (get_or marks j false)) t)

    nowhere : i ≡ j → length marks ≤ i → get_or (set marks i true) j false
        ≡ cond (nat_eq i j && nat_lt i (length marks)) true (get_or marks j false)
    nowhere same past =
        let t : (nat_eq i j && nat_lt i (length marks)) ≡ false =
        grind (arith, nat_tests, same, past) in
        get_or_past (set marks i true) j false (omega (arith, same, past, length-set marks i true))
        ∙ sym (get_or_past marks j false (omega (arith, same, past)))
        ∙ sym (ap (λ b. cond b true (get_or marks j false)) t)

    elsewhere : (i ≡ j → ⊥) → get_or (set marks i true) j false
        ≡ cond (nat_eq i j && nat_lt i (length marks)) true (get_or marks j false)
    elsewhere other =
        let apart : j ≡ i → ⊥ = λ e. other (sym e) in
        let t : nat_eq i j ≡ false = grind (arith, nat_tests, other) in
        get_or-set_other marks i j true false apart
        ∙ sym (ap (λ b. cond (b && nat_lt i (length marks)) true (get_or marks j false)) t)

-- the files of these paths are marked alike, and each shelf has a mark for each file
pub record AreMarked (a b : Shelf) (Inside : List ℕ → Type 0) (marks others : List Bool)
    : Type 0 where
  pub all : length marks ≡ length a.files
  pub others_all : length others ≡ length b.files
  pub same : (path : List ℕ) → Inside path
      → get_or marks (number_among a path) false ≡ get_or others (number_among b path) false

module _ (a b : Shelf) (Inside : List ℕ → Type 0)
    (shelved : (path : List ℕ) → Inside path → is_shelved a path ≡ is_shelved b path) where
  -- two files of one number on one shelf are so on the other
  pub numbers_agree : (path other : List ℕ) → Inside path → Inside other
      → nat_eq (number_among a path) (number_among a other)
      ≡ nat_eq (number_among b path) (number_among b other)
  numbers_agree path other p q =
      let first = shelved path p in
      let second = shelved other q in
      let same : cond (is_shelved a path) (bytes_eq path other) (not (is_shelved a other))
      ≡ cond (is_shelved b path) (bytes_eq path other) (not (is_shelved b other)) =
      λ i. cond (first i) (bytes_eq path other) (not (second i)) in
      numbers_are_equal a path other ∙ same ∙ sym (numbers_are_equal b path other)

  pub none_marked : AreMarked a b Inside (replicate (length a.files) false)
      (replicate (length b.files) false)
  none_marked = record {
    all = length-replicate (length a.files) false;
    others_all = length-replicate (length b.files) false;
    same = λ path p. unmarked (length a.files) (number_among a path)
        ∙ sym (unmarked (length b.files) (number_among b path));
  }
    where
      unmarked : (n i : ℕ) → get_or (replicate n false) i false ≡ false
      unmarked n i =
          ⊎_elim (λ (below : i < n). get_or-replicate n i false false below)
          (λ (past : n ≤ i).
          get_or_past (replicate n false) i false
          (omega (arith, past, length-replicate n false)))
          (cases_lt i n)

  pub one_marked : (marks others : List Bool) (path : List ℕ) → AreMarked a b Inside marks others
      → Inside path
      → AreMarked a b Inside (set marks (number_among a path) true)
      (set others (number_among b path) true)
  one_marked marks others path m p = record {
    all = length-set marks (number_among a path) true ∙ m.all;
    others_all = length-set others (number_among b path) true ∙ m.others_all;
    same = λ other q.
        let equal = numbers_agree path other p q in
        let there = there path p in
        let before = m.same other q in
        let same : cond (nat_eq (number_among a path) (number_among a other)
        && nat_lt (number_among a path) (length marks)) true
        (get_or marks (number_among a other) false)
        ≡ cond (nat_eq (number_among b path) (number_among b other)
        && nat_lt (number_among b path) (length others)) true
        (get_or others (number_among b other) false) =
        λ i. cond (equal i && there i) true (before i) in
        mark_set marks (number_among a path) (number_among a other) ∙ same
        ∙ sym (mark_set others (number_among b path) (number_among b other));
  }
    where
      there : (path : List ℕ) → Inside path
          → nat_lt (number_among a path) (length marks)
          ≡ nat_lt (number_among b path) (length others)
      there path p =
          ap (nat_lt (number_among a path)) m.all ∙ number_below a path ∙ shelved path p
          ∙ sym (number_below b path) ∙ sym (ap (nat_lt (number_among b path)) m.others_all)
