-- To go through a list that grows, and to reach files by rounds.
use Rattle.std.proofs.Common.{◌≡◌, ◌⊎◌, inl, inr, ⊎_elim, ℕ, zero, suc, ◌+◌, ◌<◌, ◌≤◌, List, [], ◌∷◌, ◌++◌, None, Some, All, Contains, flat_map, get_or, length, take, slice_get, refl, sym, ap, ◌∙◌, subst, arith}
use Rattle.std.specs.List.{IsDistinct}
use Rattle.std.proofs.Math.Nat.{eq-or-lt_of_le}
use Rattle.std.specs.Str.{bytes_eq}
use Rattle.std.proofs.lemmas.List.{append-nil, length-append, take-append-le, take-take, take_all, take_more}
use Rattle.std.proofs.lemmas.List.Concat.{flat_map-append}
use Rattle.std.proofs.lemmas.List.Elements.{All-take}
use Rattle.std.proofs.lemmas.List.Sums.{fold-append}
use Rattle.std.proofs.lemmas.Option.{get_or_from_slice_get, slice_get_cases, slice_get_within}
use Rattle.indexmap.specs.IndexSet.{insert_all, insert_key}
use Rattle.cx_asking.specs.Includes.{reached, with_next}
use Rattle.cx_asking.proofs.PathLists.{Begins, all_apart, all_within, begins_taken, begins_through, few, grows, led_to_alike, led_to_within, same_both_ways, taken_begins}

-- Files that were found, of which so many were gone through, in order: found are the starts and what
-- those lead to, and each was found before its turn.
pub record AreFound (next : List ℕ → List (List ℕ)) (starts : List (List ℕ)) (k : ℕ) (found : List (List ℕ)) : Type 0 where
  pub followed : found ≡ with_next next starts (take k found)
  pub in_turn : (j : ℕ) → j < k → j < length (with_next next starts (take j found))

pub past_from_none : (found : List (List ℕ)) (k : ℕ) → slice_get found k ≡ None → length found ≤ k
past_from_none found k e =
    ⊎_elim (λ (h : (file : List ℕ) × (k < length found) × (slice_get found k ≡ Some file) × (get_or found k file ≡ file)). absurd (none h.0 (sym e ∙ h.2)))
    (λ (h : (length found ≤ k) × (slice_get found k ≡ None)). h.0) (slice_get_cases found k).1
  where
    none : (file : List ℕ) → None ≡ Some file → ⊥
    none file h = cc

module _ (next : List ℕ → List (List ℕ)) (starts : List (List ℕ)) where
  -- more files add to what is found
  adds : (files more : List (List ℕ)) → with_next next starts (files ++ more) ≡ insert_all bytes_eq (with_next next starts files) (flat_map next more)
  adds files more =
      ap (insert_all bytes_eq starts) (flat_map-append next files more)
      ∙ fold-append (insert_key bytes_eq) starts (flat_map next files) (flat_map next more)

  keeps_order : (all front : List (List ℕ)) → Begins all front → Begins (with_next next starts all) (with_next next starts front)
  keeps_order all front h =
      let more = grows (with_next next starts front) (flat_map next h.0) in
      (more.0, ap (with_next next starts) h.1 ∙ adds front h.0 ∙ more.1)

  adds_one : (files : List (List ℕ)) (k : ℕ) (d : List ℕ) → k < length files
      → with_next next starts (take (k + 1) files) ≡ insert_all bytes_eq (with_next next starts (take k files)) (next (get_or files k d))
  adds_one files k d inside =
      ap (with_next next starts) (take_more files k d inside)
      ∙ adds (take k files) (get_or files k d ∷ [])
      ∙ ap (insert_all bytes_eq (with_next next starts (take k files))) (append-nil (next (get_or files k d)))

  -- how files are found

  pub none_followed : AreFound next starts 0 starts
  none_followed = record { followed = refl; in_turn = λ j h. absurd (omega arith) }

  pub one_followed : (k : ℕ) (found : List (List ℕ)) (file : List ℕ) → AreFound next starts k found → slice_get found k ≡ Some file
      → AreFound next starts (k + 1) (insert_all bytes_eq found (next file))
  one_followed k found file are at =
      let inside : k < length found = slice_get_within found k file at in
      let made : insert_all bytes_eq found (next file) ≡ with_next next starts (take (k + 1) found) =
      ap (λ f. insert_all bytes_eq found (next f)) (sym (get_or_from_slice_get found k file [] at))
      ∙ ap (λ l. insert_all bytes_eq l (next (get_or found k []))) are.followed
      ∙ sym (adds_one found k [] inside) in
      let last : k < length (with_next next starts (take k found)) = subst (λ l. k < length l) are.followed inside in
      record {
        followed = made ∙ ap (with_next next starts) (sym (same (k + 1) (omega arith)));
        in_turn = λ j h. subst (λ l. j < length (with_next next starts l)) (sym (same j (omega arith))) (turn j last (eq-or-lt_of_le (omega arith)));
      }
    where
      same : (j : ℕ) → j ≤ length found → take j (insert_all bytes_eq found (next file)) ≡ take j found
      same j h = let more = grows found (next file) in ap (take j) more.1 ∙ take-append-le j found more.0 h

      turn : (j : ℕ) → k < length (with_next next starts (take k found)) → (j ≡ k) ⊎ (j < k) → j < length (with_next next starts (take j found))
      turn j last (inl e) = subst (λ m. m < length (with_next next starts (take m found))) (sym e) last
      turn j last (inr l) = are.in_turn j l

  pub gone_no_further : (k : ℕ) (found : List (List ℕ)) → AreFound next starts k found → k ≤ length found
  gone_no_further k found are = by k refl
    where
      by : (m : ℕ) → m ≡ k → k ≤ length found
      by zero e = omega arith
      by (suc j) e =
          let last : j < length (with_next next starts (take j found)) = are.in_turn j (omega arith) in
          let more = keeps_order (take k found) (take j found) (taken_begins found j k (omega arith)) in
          omega (arith, ap length are.followed, ap length more.1, length-append (with_next next starts (take j found)) more.0)

  -- what was found stays apart, and within what holds the starts and all that is led to

  pub found_apart : (k : ℕ) (found : List (List ℕ)) → AreFound next starts k found → IsDistinct bytes_eq starts → IsDistinct bytes_eq found
  found_apart k found are apart = subst (IsDistinct bytes_eq) (sym are.followed) (all_apart starts (flat_map next (take k found)) apart)

  pub found_within : (k : ℕ) (found all : List (List ℕ)) → AreFound next starts k found → All (Contains all) starts
      → ((path : List ℕ) → All (Contains all) (next path)) → All (Contains all) found
  found_within k found all are inside ends =
      subst (All (Contains all)) (sym are.followed) (all_within all starts (flat_map next (take k found)) inside (led_to_within next all (take k found) ends))

  pub few_found : (k : ℕ) (found all : List (List ℕ)) → AreFound next starts k found → IsDistinct bytes_eq starts → All (Contains all) starts
      → ((path : List ℕ) → All (Contains all) (next path)) → length found ≤ length all
  few_found k found all are apart inside ends = few all found (found_apart k found are apart) (found_within k found all are inside ends)

  -- files to which following adds nothing

  holds_found : (closed : List (List ℕ)) → with_next next starts closed ≡ closed → (k : ℕ) (found : List (List ℕ)) → AreFound next starts k found
      → (j : ℕ) → j ≤ k → Begins closed (with_next next starts (take j found))
  holds_found closed stays k found are zero h = subst (λ l. Begins l starts) stays (grows starts (flat_map next closed))
  holds_found closed stays k found are (suc j) h = by (holds_found closed stays k found are j (omega arith))
    where
      by : Begins closed (with_next next starts (take j found)) → Begins closed (with_next next starts (take (suc j) found))
      by before =
          let turn : j < length (with_next next starts (take j found)) = are.in_turn j (omega arith) in
          let more = keeps_order (take k found) (take j found) (taken_begins found j k (omega arith)) in
          let same : take (suc j) found ≡ take (suc j) (with_next next starts (take j found)) =
          ap (take (suc j)) (are.followed ∙ more.1) ∙ take-append-le (suc j) (with_next next starts (take j found)) more.0 (omega arith) in
          let front : Begins closed (take (suc j) found) =
          subst (Begins closed) (sym same)
          (begins_through closed (with_next next starts (take j found)) (take (suc j) (with_next next starts (take j found))) before
          (begins_taken (with_next next starts (take j found)) (suc j))) in
          subst (λ l. Begins l (with_next next starts (take (suc j) found))) stays (keeps_order closed (take (suc j) found) front)

  holds_rounds : (closed : List (List ℕ)) → with_next next starts closed ≡ closed → (n : ℕ) → Begins closed (reached next starts n)
  unfolding reached
  holds_rounds closed stays zero = subst (λ l. Begins l starts) stays (grows starts (flat_map next closed))
  holds_rounds closed stays (suc n) =
      subst (λ l. Begins l (with_next next starts (reached next starts n))) stays (keeps_order closed (reached next starts n) (holds_rounds closed stays n))

  -- rounds

  each_round_adds : (n : ℕ) → Begins (reached next starts (suc n)) (reached next starts n)
  unfolding reached
  each_round_adds zero = grows starts (flat_map next starts)
  each_round_adds (suc n) = keeps_order (reached next starts (suc n)) (reached next starts n) (each_round_adds n)

  -- a round adds something, or nothing is added from then on
  rounds : (n : ℕ) → (length starts + n ≤ length (reached next starts n)) ⊎ (reached next starts (suc n) ≡ reached next starts n)
  unfolding reached
  rounds zero = inl (omega arith)
  rounds (suc n) =
      ⊎_elim (λ (h : length starts + n ≤ length (reached next starts n)). by h (each_round_adds n))
      (λ (e : reached next starts (suc n) ≡ reached next starts n). inr (ap (with_next next starts) e)) (rounds n)
    where
      by : length starts + n ≤ length (reached next starts n) → Begins (reached next starts (suc n)) (reached next starts n)
          → (length starts + suc n ≤ length (reached next starts (suc n))) ⊎ (reached next starts (suc (suc n)) ≡ reached next starts (suc n))
      by h ([], e) = inr (ap (with_next next starts) (e ∙ append-nil (reached next starts n)))
      by h (file ∷ rest, e) = inl (omega (arith, ap length e, length-append (reached next starts n) (file ∷ rest)))

  pub reached_apart : (n : ℕ) → IsDistinct bytes_eq starts → IsDistinct bytes_eq (reached next starts n)
  unfolding reached
  reached_apart zero apart = apart
  reached_apart (suc n) apart = all_apart starts (flat_map next (reached next starts n)) apart

  pub reached_within : (n : ℕ) (all : List (List ℕ)) → All (Contains all) starts → ((path : List ℕ) → All (Contains all) (next path))
      → All (Contains all) (reached next starts n)
  unfolding reached
  reached_within zero all inside leads = inside
  reached_within (suc n) all inside leads = all_within all starts (flat_map next (reached next starts n)) inside (led_to_within next all (reached next starts n) leads)

  module _ (all : List (List ℕ)) (n : ℕ) (enough : length all ≤ length starts + n) (apart : IsDistinct bytes_eq starts) (inside : All (Contains all) starts)
      (leads : (path : List ℕ) → All (Contains all) (next path)) where
    -- after as many rounds as there are other files than the starts, nothing is added
    pub reached_stays : with_next next starts (reached next starts n) ≡ reached next starts n
    unfolding reached
    reached_stays =
        ⊎_elim (λ (h : length starts + n ≤ length (reached next starts n)). by h (each_round_adds n))
        (λ (e : reached next starts (suc n) ≡ reached next starts n). e) (rounds n)
      where
        by : length starts + n ≤ length (reached next starts n) → Begins (reached next starts (suc n)) (reached next starts n)
            → reached next starts (suc n) ≡ reached next starts n
        by h ([], e) = e ∙ append-nil (reached next starts n)
        by h (file ∷ rest, e) =
            absurd (omega (
              arith,
              enough,
              ap length e,
              length-append (reached next starts n) (file ∷ rest),
              few all (reached next starts (suc n)) (reached_apart (suc n) apart) (reached_within (suc n) all inside leads),
            ))

    -- what was found is what the rounds begin with
    pub found_begins : (k : ℕ) (found : List (List ℕ)) → AreFound next starts k found → Begins (reached next starts n) found
    found_begins k found are =
        subst (Begins (reached next starts n)) (sym are.followed) (holds_found (reached next starts n) reached_stays k found are k (omega arith))

    -- where each was gone through, they are what the rounds reach
    pub all_reached : (k : ℕ) (found : List (List ℕ)) → AreFound next starts k found → length found ≤ k → found ≡ reached next starts n
    all_reached k found are past =
        let stays : with_next next starts found ≡ found = ap (with_next next starts) (sym (take_all k found past)) ∙ sym are.followed in
        same_both_ways found (reached next starts n) (holds_rounds found stays n) (found_begins k found are)

-- what files lead to that were not gone through does not matter
pub next_only_matters_on_found : (next other : List ℕ → List (List ℕ)) (starts : List (List ℕ)) (k : ℕ) (found : List (List ℕ)) → AreFound next starts k found
    → All (λ path. next path ≡ other path) (take k found) → AreFound other starts k found
next_only_matters_on_found next other starts k found are alike = record {
  followed = are.followed ∙ ap (insert_all bytes_eq starts) (led_to_alike next other (take k found) alike);
  in_turn = λ j h. subst (λ l. j < length (insert_all bytes_eq starts l)) (led_to_alike next other (take j found) (fewer j (omega arith))) (are.in_turn j h);
}
  where
    fewer : (j : ℕ) → j ≤ k → All (λ path. next path ≡ other path) (take j found)
    fewer j h = subst (All (λ path. next path ≡ other path)) (take-take j k found h) (All-take (λ path. next path ≡ other path) j (take k found) alike)
