-- The files that includes lead to, one within another, until there are no more.
use Rattle.std.proofs.Common.{◌≡◌, ◌⊎◌, inl, inr, ⊎_elim, ℕ, zero, suc, ◌+◌, ◌<◌, ◌≤◌, Bool, true, false, ◌||◌, nat_eq, List, [], ◌∷◌, ◌++◌, Some, All, Contains, fold, flat_map, get_or, length, take, drop, slice_get, refl, sym, ap, ◌∙◌, subst, arith, eq-eqb}
use Rattle.std.specs.List.{IsDistinct, list_any}
use Rattle.std.proofs.lemmas.Bool.{both_ways, eqb-true, or_left, or_right}
use Rattle.std.proofs.lemmas.List.{append-nil, length-append, take-append-drop, take-append-le, take_all, take_more}
use Rattle.std.proofs.lemmas.List.Concat.{flat_map-append}
use Rattle.std.proofs.lemmas.List.Elements.{All-contains, All-from_recursion}
use Rattle.std.proofs.lemmas.List.Folds.{list_any-append}
use Rattle.std.proofs.lemmas.List.Sums.{fold-append}
use Rattle.std.proofs.lemmas.Map.Keys.{IsDistinct-head, IsDistinct-tail}
use Rattle.std.proofs.lemmas.Map.Steps.{length-le_from_distinct_below}
use Rattle.cx_shelf.specs.declared.shelf.Shelf.{Shelf}
use Rattle.cx_shelf.specs.Closures.{closure_of, included, reached, with_file, with_included}
use Rattle.cx_shelf.proofs.FollowLaws.{included_below}
use Rattle.cx_shelf.proofs.FileLists.{Begins, all_apart, all_are_in, begins_itself, begins_through, contains_from, from_one, grows, in_one, is_in, parted}

-- Files that were found, of which so many were followed, in order: what these include was found, and
-- they stand in the closure in that order.
pub record AreFound (shelf : Shelf) (unit next : ℕ) (files : List ℕ) : Type 0 where
  pub followed : files ≡ with_included shelf unit (take next files)
  pub front : Begins (closure_of shelf unit) files

same_both_ways : (files others : List ℕ) → Begins files others → Begins others files → files ≡ others
same_both_ways files others ([], e) k = e ∙ append-nil others
same_both_ways files others (file ∷ rest, e) k = absurd (omega (arith, ap length e, length-append others (file ∷ rest), ap length k.1, length-append files k.0))

module _ (shelf : Shelf) (unit : ℕ) where
  begins_with_unit : (files : List ℕ) → Begins (with_included shelf unit files) (unit ∷ [])
  begins_with_unit files = grows (unit ∷ []) (flat_map (included shelf) files)

  -- more files add to what is included
  pub adds : (files more : List ℕ) → with_included shelf unit (files ++ more) ≡ fold with_file (with_included shelf unit files) (flat_map (included shelf) more)
  adds files more =
      ap (fold with_file (unit ∷ [])) (flat_map-append (included shelf) files more)
      ∙ fold-append with_file (unit ∷ []) (flat_map (included shelf) files) (flat_map (included shelf) more)

  pub keeps_order : (all front : List ℕ) → Begins all front → Begins (with_included shelf unit all) (with_included shelf unit front)
  keeps_order all front h =
      let more = grows (with_included shelf unit front) (flat_map (included shelf) h.0) in
      (more.0, ap (with_included shelf unit) h.1 ∙ adds front h.0 ∙ more.1)

  each_round_adds : (n : ℕ) → Begins (reached shelf unit (suc n)) (reached shelf unit n)
  unfolding reached
  each_round_adds zero = begins_with_unit (unit ∷ [])
  each_round_adds (suc n) = keeps_order (reached shelf unit (suc n)) (reached shelf unit n) (each_round_adds n)

  pub reached_begins : (n : ℕ) → Begins (reached shelf unit n) (unit ∷ [])
  unfolding reached
  reached_begins zero = begins_itself (unit ∷ [])
  reached_begins (suc n) = begins_with_unit (reached shelf unit n)

  pub reached_apart : (n : ℕ) → IsDistinct nat_eq (reached shelf unit n)
  unfolding reached IsDistinct
  reached_apart zero = (tt, tt)
  reached_apart (suc n) = all_apart (unit ∷ []) (flat_map (included shelf) (reached shelf unit n)) (tt, tt)

  -- a round adds something, or nothing is added from then on
  rounds : (n : ℕ) → (n < length (reached shelf unit n)) ⊎ (reached shelf unit (suc n) ≡ reached shelf unit n)
  unfolding reached
  rounds zero = inl (omega arith)
  rounds (suc n) = ⊎_elim (λ (h : n < length (reached shelf unit n)). by h (each_round_adds n)) (λ (e : reached shelf unit (suc n) ≡ reached shelf unit n). inr (ap (with_included shelf unit) e)) (rounds n)
    where
      by : n < length (reached shelf unit n) → Begins (reached shelf unit (suc n)) (reached shelf unit n)
          → (suc n < length (reached shelf unit (suc n))) ⊎ (reached shelf unit (suc (suc n)) ≡ reached shelf unit (suc n))
      by h ([], e) = inr (ap (with_included shelf unit) (e ∙ append-nil (reached shelf unit n)))
      by h (file ∷ rest, e) = inl (omega (arith, ap length e, length-append (reached shelf unit n) (file ∷ rest)))

  -- what is reached is the unit, or one of the files that others include
  is_reached : (n other : ℕ) → list_any (nat_eq other) (reached shelf unit (suc n)) ≡ true
      → (other ≡ unit) ⊎ (list_any (nat_eq other) (flat_map (included shelf) (reached shelf unit n)) ≡ true)
  unfolding reached
  is_reached n other h = by (nat_eq other unit) refl (sym (all_are_in (unit ∷ []) (flat_map (included shelf) (reached shelf unit n)) other) ∙ h)
    where
      by : (b : Bool) → nat_eq other unit ≡ b
          → ((b || false) || list_any (nat_eq other) (flat_map (included shelf) (reached shelf unit n))) ≡ true
          → (other ≡ unit) ⊎ (list_any (nat_eq other) (flat_map (included shelf) (reached shelf unit n)) ≡ true)
      by true e h = inl (eqb-true other unit e)
      by false e h = inr h

  -- each file that is reached is the unit, or included by one before it
  reached_after : (n : ℕ) (front back : List ℕ) (file : ℕ) → reached shelf unit n ≡ front ++ file ∷ back
      → (file ≡ unit) ⊎ (list_any (nat_eq file) (flat_map (included shelf) front) ≡ true)
  unfolding reached
  reached_after zero [] back file e = inl cc
  reached_after zero (x ∷ []) back file e = absurd cc
  reached_after zero (x ∷ y ∷ front) back file e = absurd cc
  reached_after (suc n) front back file e = by (each_round_adds n) (reached_after n)
    where
      inside : list_any (nat_eq file) (reached shelf unit (suc n)) ≡ true
      inside = ap (list_any (nat_eq file)) e ∙ list_any-append (nat_eq file) front (file ∷ back) ∙ or_right _ _ (or_left _ _ (eq-eqb file file refl))

      by : Begins (reached shelf unit (suc n)) (reached shelf unit n)
          → ((front back : List ℕ) (file : ℕ) → reached shelf unit n ≡ front ++ file ∷ back
          → (file ≡ unit) ⊎ (list_any (nat_eq file) (flat_map (included shelf) front) ≡ true))
          → (file ≡ unit) ⊎ (list_any (nat_eq file) (flat_map (included shelf) front) ≡ true)
      by more before =
          ⊎_elim (λ (h : (rest : List ℕ) × (reached shelf unit n ≡ front ++ file ∷ rest)). before front h.0 file h.1)
          (λ (h : (rest : List ℕ) × (front ≡ reached shelf unit n ++ rest)).
          ⊎_elim (λ (u : file ≡ unit). inl u)
          (λ (i : list_any (nat_eq file) (flat_map (included shelf) (reached shelf unit n)) ≡ true).
          inr (ap (λ l. list_any (nat_eq file) (flat_map (included shelf) l)) h.1 ∙ ap (list_any (nat_eq file)) (flat_map-append (included shelf) (reached shelf unit n) h.0)
          ∙ list_any-append (nat_eq file) (flat_map (included shelf) (reached shelf unit n)) _ ∙ or_left _ _ i))
          (is_reached n file inside))
          (parted (reached shelf unit n) more.0 front back file (sym more.1 ∙ e))

  pub first_is_unit : slice_get (closure_of shelf unit) 0 ≡ Some unit
  unfolding closure_of
  first_is_unit = ap (λ files. slice_get files 0) (reached_begins (length shelf.files)).1

  pub closure_apart : IsDistinct nat_eq (closure_of shelf unit)
  unfolding closure_of
  closure_apart = reached_apart (length shelf.files)

  pub closure_after : (front back : List ℕ) (file : ℕ) → closure_of shelf unit ≡ front ++ file ∷ back
      → (file ≡ unit) ⊎ Contains (flat_map (included shelf) front) file
  unfolding closure_of
  closure_after front back file e =
      ⊎_elim (λ (u : file ≡ unit). inl u)
      (λ (i : list_any (nat_eq file) (flat_map (included shelf) front) ≡ true). inr (contains_from (flat_map (included shelf) front) file i))
      (reached_after (length shelf.files) front back file e)

  -- besides the unit, only numbers of files are reached
  others_below : (n other : ℕ) → list_any (nat_eq other) (reached shelf unit n) ≡ true → (other ≡ unit) ⊎ (other < length shelf.files)
  unfolding reached
  others_below zero other h = by (nat_eq other unit) refl h
    where
      by : (b : Bool) → nat_eq other unit ≡ b → (b || false) ≡ true → (other ≡ unit) ⊎ (other < length shelf.files)
      by true e h = inl (eqb-true other unit e)
      by false e h = absurd cc
  others_below (suc n) other h =
      ⊎_elim (λ (e : other ≡ unit). inl e)
      (λ (e : list_any (nat_eq other) (flat_map (included shelf) (reached shelf unit n)) ≡ true).
      let from = from_one (included shelf) (reached shelf unit n) other e in inr (included_below shelf from.0 other from.2))
      (is_reached n other h)

  few : (n : ℕ) → length (reached shelf unit n) ≤ length shelf.files + 1
  few n = by (reached_begins n) (reached_apart n)
    where
      by : Begins (reached shelf unit n) (unit ∷ []) → IsDistinct nat_eq (reached shelf unit n) → length (reached shelf unit n) ≤ length shelf.files + 1
      by (rest, e) d =
          let apart : IsDistinct nat_eq (unit ∷ rest) = subst (IsDistinct nat_eq) e d in
          let heads : All (λ other. nat_eq unit other ≡ false) rest = All-from_recursion (λ other. nat_eq unit other ≡ false) rest (IsDistinct-head nat_eq unit rest apart) in
          let short : length rest ≤ length shelf.files = length-le_from_distinct_below rest (length shelf.files) (IsDistinct-tail nat_eq unit rest apart)
          (λ other h. ⊎_elim
          (λ (same : other ≡ unit). absurd (both_ways _ (All-contains (λ other. nat_eq unit other ≡ false) rest other heads (contains_from rest other h)) (eq-eqb unit other (sym same))))
          (λ (less : other < length shelf.files). less)
          (others_below n other (ap (list_any (nat_eq other)) e ∙ or_right (nat_eq other unit) _ h))) in
          omega (arith, ap length e)

  -- after as many rounds as there are files, nothing is added
  still : reached shelf unit (suc (length shelf.files)) ≡ reached shelf unit (length shelf.files)
  still =
      ⊎_elim (λ (h : length shelf.files < length (reached shelf unit (length shelf.files))). by h (each_round_adds (length shelf.files)))
      (λ (e : reached shelf unit (suc (length shelf.files)) ≡ reached shelf unit (length shelf.files)). e) (rounds (length shelf.files))
    where
      by : length shelf.files < length (reached shelf unit (length shelf.files))
          → Begins (reached shelf unit (suc (length shelf.files))) (reached shelf unit (length shelf.files))
          → reached shelf unit (suc (length shelf.files)) ≡ reached shelf unit (length shelf.files)
      by h ([], e) = e ∙ append-nil (reached shelf unit (length shelf.files))
      by h (file ∷ rest, e) =
          absurd (omega (arith, ap length e, length-append (reached shelf unit (length shelf.files)) (file ∷ rest), few (suc (length shelf.files))))

  pub closure_stays : with_included shelf unit (closure_of shelf unit) ≡ closure_of shelf unit
  unfolding closure_of reached
  closure_stays = still

  pub closed : (file other : ℕ) → Contains (closure_of shelf unit) file → Contains (included shelf file) other → Contains (closure_of shelf unit) other
  closed file other f o =
      contains_from (closure_of shelf unit) other (ap (list_any (nat_eq other)) (sym closure_stays)
      ∙ all_are_in (unit ∷ []) (flat_map (included shelf) (closure_of shelf unit)) other
      ∙ or_right (list_any (nat_eq other) (unit ∷ [])) _
      (in_one (included shelf) (closure_of shelf unit) file other (is_in (closure_of shelf unit) file f) (is_in (included shelf file) other o)))

  -- the files found so far, of which so many were followed

  pub none_followed : (files : List ℕ) → files ≡ unit ∷ [] → AreFound shelf unit 0 files
  unfolding closure_of
  none_followed files e = record { followed = e; front = subst (Begins (closure_of shelf unit)) (sym e) (reached_begins (length shelf.files)) }

  pub one_followed : (next file : ℕ) (files new : List ℕ) → AreFound shelf unit next files → next < length files → file ≡ get_or files next file
      → new ≡ fold with_file files (included shelf file) → AreFound shelf unit (next + 1) new
  one_followed next file files new found inside at e =
      let upto : take (next + 1) files ≡ take next files ++ file ∷ [] = take_more files next file inside ∙ ap (λ f. take next files ++ f ∷ []) (sym at) in
      let more = grows files (included shelf file) in
      let same : take (next + 1) new ≡ take (next + 1) files = ap (take (next + 1)) (e ∙ more.1) ∙ take-append-le (next + 1) files more.0 (omega arith) in
      let one : flat_map (included shelf) (file ∷ []) ≡ included shelf file = append-nil (included shelf file) in
      let made : new ≡ with_included shelf unit (take (next + 1) files) =
      e ∙ ap (λ l. fold with_file l (included shelf file)) found.followed
      ∙ ap (fold with_file (with_included shelf unit (take next files))) (sym one)
      ∙ sym (adds (take next files) (file ∷ [])) ∙ ap (with_included shelf unit) (sym upto) in
      let before : Begins (closure_of shelf unit) (take (next + 1) files) =
      begins_through (closure_of shelf unit) files (take (next + 1) files) found.front (drop (next + 1) files, sym (take-append-drop (next + 1) files)) in
      record {
        followed = made ∙ ap (with_included shelf unit) (sym same);
        front = subst (λ l. Begins l new) closure_stays
            (subst (Begins (with_included shelf unit (closure_of shelf unit))) (sym made) (keeps_order (closure_of shelf unit) (take (next + 1) files) before));
      }

  -- where each was followed, there are no more

  holds_rounds : (files : List ℕ) → with_included shelf unit files ≡ files → (n : ℕ) → Begins files (reached shelf unit n)
  unfolding reached
  holds_rounds files e zero = subst (λ l. Begins l (unit ∷ [])) e (begins_with_unit files)
  holds_rounds files e (suc n) = subst (λ l. Begins l (with_included shelf unit (reached shelf unit n))) e (keeps_order files (reached shelf unit n) (holds_rounds files e n))

  pub all_followed : (next : ℕ) (files : List ℕ) → AreFound shelf unit next files → length files ≤ next → files ≡ closure_of shelf unit
  unfolding closure_of
  all_followed next files found past =
      let e : with_included shelf unit files ≡ files = ap (with_included shelf unit) (sym (take_all next files past)) ∙ sym found.followed in
      same_both_ways files (closure_of shelf unit) (holds_rounds files e (length shelf.files)) found.front
