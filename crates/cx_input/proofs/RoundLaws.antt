-- To reach paths by rounds: what is reached, when nothing is added, and what it depends on.
use Rattle.std.proofs.Common.{◌≡◌, ◌⊎◌, inl, inr, ⊎_elim, ℕ, zero, suc, ◌+◌, ◌≤◌, List, [], ◌∷◌, ◌++◌, All, Contains, flat_map, length, refl, sym, ap, ◌∙◌, subst, arith}
use Rattle.std.specs.List.{IsDistinct}
use Rattle.std.specs.Str.{bytes_eq}
use Rattle.std.proofs.lemmas.Cmp.{nat_list_eq_equiv}
use Rattle.std.proofs.lemmas.List.{append-nil, length-append}
use Rattle.std.proofs.lemmas.List.Concat.{flat_map-append}
use Rattle.std.proofs.lemmas.List.Elements.{All-append, All-cons, All-contains, All-contains_itself, All-head, All-nil, All-tail}
use Rattle.std.proofs.lemmas.List.Sums.{fold-append}
use Rattle.std.proofs.lemmas.Map.Made.{is_member-Decides, length-le_from_is_member}
use Rattle.std.proofs.lemmas.Slice.Eq.{bytes_eq-Decides}
use Rattle.indexmap.specs.IndexSet.{insert_all, insert_key}
use Rattle.cx_asking.specs.Includes.{reached, with_next}
use Rattle.cx_input.proofs.PathLists.{Begins, all_added, all_apart, all_behind, all_hold, all_in_front, grows}

-- paths of which no two are the same are at most as many as those among which they are
few : (all paths : List (List ℕ)) → IsDistinct bytes_eq paths → All (Contains all) paths
    → length paths ≤ length all
few all paths apart inside =
    length-le_from_is_member nat_list_eq_equiv paths all apart
    (λ path h. (is_member-Decides bytes_eq-Decides all path).1
    (All-contains (Contains all) paths path inside
    ((is_member-Decides bytes_eq-Decides paths path).0 h)))

module _ (next : List ℕ → List (List ℕ)) where
  -- what holds of all that paths lead to

  led_to_hold : (P : List ℕ → Type 0) → ((path : List ℕ) → All P (next path))
      → (paths : List (List ℕ)) → All P (flat_map next paths)
  led_to_hold P h [] = All-nil P
  led_to_hold P h (path ∷ paths) =
      All-append P (next path) (flat_map next paths) (h path) (led_to_hold P h paths)

  led_to_back : (P : List ℕ → Type 0) (paths : List (List ℕ)) → All P (flat_map next paths)
      → (path : List ℕ) → Contains paths path → All P (next path)
  led_to_back P paths all path c = All-contains (λ p. All P (next p)) paths path (each paths all) c
    where
      each : (paths : List (List ℕ)) → All P (flat_map next paths)
          → All (λ p. All P (next p)) paths
      each [] all = All-nil (λ p. All P (next p))
      each (p ∷ ps) all =
          All-cons (λ q. All P (next q)) p ps (all_in_front P (next p) (flat_map next ps) all)
          (each ps (all_behind P (next p) (flat_map next ps) all))

-- paths that lead to the same by two ways
led_to_alike : (next other : List ℕ → List (List ℕ)) (paths : List (List ℕ))
    → All (λ p. next p ≡ other p) paths → flat_map next paths ≡ flat_map other paths
led_to_alike next other [] alike = refl
led_to_alike next other (path ∷ paths) alike =
    let here : next path ≡ other path = All-head (λ p. next p ≡ other p) path paths alike in
    let rest = led_to_alike next other paths (All-tail (λ p. next p ≡ other p) path paths alike) in
    (λ i. here i ++ rest i)

module _ (next : List ℕ → List (List ℕ)) (starts : List (List ℕ)) where
  -- more paths add to what is reached
  keeps_order : (all front : List (List ℕ)) → Begins all front
      → Begins (with_next next starts all) (with_next next starts front)
  keeps_order all front h =
      let more = grows (with_next next starts front) (flat_map next h.0) in (
        more.0,
        ap (with_next next starts) h.1
            ∙ ap (insert_all bytes_eq starts) (flat_map-append next front h.0)
            ∙ fold-append (insert_key bytes_eq) starts (flat_map next front) (flat_map next h.0)
            ∙ more.1,
      )

  each_round_adds : (n : ℕ) → Begins (reached next starts (suc n)) (reached next starts n)
  unfolding reached
  each_round_adds zero = grows starts (flat_map next starts)
  each_round_adds (suc n) =
      keeps_order (reached next starts (suc n)) (reached next starts n) (each_round_adds n)

  -- a round adds something, or nothing is added from then on
  rounds : (n : ℕ) → (length starts + n ≤ length (reached next starts n))
      ⊎ (reached next starts (suc n) ≡ reached next starts n)
  unfolding reached
  rounds zero = inl (omega arith)
  rounds (suc n) =
      ⊎_elim (λ (h : length starts + n ≤ length (reached next starts n)). by h (each_round_adds n))
      (λ (e : reached next starts (suc n) ≡ reached next starts n).
      inr (ap (with_next next starts) e)) (rounds n)
    where
      by : length starts + n ≤ length (reached next starts n)
          → Begins (reached next starts (suc n)) (reached next starts n)
          → (length starts + suc n ≤ length (reached next starts (suc n)))
          ⊎ (reached next starts (suc (suc n)) ≡ reached next starts (suc n))
      by h ([], e) = inr (ap (with_next next starts) (e ∙ append-nil (reached next starts n)))
      by h (path ∷ rest, e) =
          inl (omega (arith, ap length e, length-append (reached next starts n) (path ∷ rest)))

  reached_apart : (n : ℕ) → IsDistinct bytes_eq starts → IsDistinct bytes_eq (reached next starts n)
  unfolding reached
  reached_apart zero apart = apart
  reached_apart (suc n) apart = all_apart starts (flat_map next (reached next starts n)) apart

  reached_hold : (P : List ℕ → Type 0) → All P starts → ((path : List ℕ) → All P (next path))
      → (n : ℕ) → All P (reached next starts n)
  unfolding reached
  reached_hold P h leads zero = h
  reached_hold P h leads (suc n) =
      all_hold P starts (flat_map next (reached next starts n)) h
      (led_to_hold next P leads (reached next starts n))

  -- after as many rounds as there are other paths than the starts, nothing is added
  pub reached_stays : (all : List (List ℕ)) (n : ℕ) → length all ≤ length starts + n
      → IsDistinct bytes_eq starts → All (Contains all) starts
      → ((path : List ℕ) → All (Contains all) (next path))
      → with_next next starts (reached next starts n) ≡ reached next starts n
  unfolding reached
  reached_stays all n enough apart inside leads =
      ⊎_elim (λ (h : length starts + n ≤ length (reached next starts n)). by h (each_round_adds n))
      (λ (e : reached next starts (suc n) ≡ reached next starts n). e) (rounds n)
    where
      by : length starts + n ≤ length (reached next starts n)
          → Begins (reached next starts (suc n)) (reached next starts n)
          → reached next starts (suc n) ≡ reached next starts n
      by h ([], e) = e ∙ append-nil (reached next starts n)
      by h (path ∷ rest, e) =
          absurd (omega (
            arith,
            enough,
            ap length e,
            length-append (reached next starts n) (path ∷ rest),
            few all (reached next starts (suc n)) (reached_apart (suc n) apart)
                (reached_hold (Contains all) inside leads (suc n)),
          ))

  module _ (n : ℕ) (stays : with_next next starts (reached next starts n) ≡ reached next starts n)
    where
      -- and so in no later round
      pub reached_later : (k : ℕ) → reached next starts (k + n) ≡ reached next starts n
      unfolding reached
      reached_later zero = let e : zero + n ≡ n = omega arith in ap (reached next starts) e
      reached_later (suc k) =
          let e : suc k + n ≡ suc (k + n) = omega arith in
          ap (reached next starts) e ∙ ap (with_next next starts) (reached_later k) ∙ stays

      -- the starts, and what is led to, are all reached then
      pub starts_reached : Begins (reached next starts n) starts
      starts_reached =
          subst (λ l. Begins l starts) stays (grows starts (flat_map next (reached next starts n)))

      pub led_to_reached : (path : List ℕ) → Contains (reached next starts n) path
          → All (Contains (reached next starts n)) (next path)
      led_to_reached path c =
          led_to_back next (Contains (reached next starts n)) (reached next starts n)
          (all_added (Contains (reached next starts n)) starts
          (flat_map next (reached next starts n))
          (subst (λ l. All (Contains (reached next starts n)) l) (sym stays)
          (All-contains_itself (reached next starts n)))) path c

      -- each round is a front of it
      front_of_all : (k : ℕ) → Begins (reached next starts n) (reached next starts k)
      unfolding reached
      front_of_all zero = starts_reached
      front_of_all (suc k) =
          subst (λ l. Begins l (with_next next starts (reached next starts k))) stays
          (keeps_order (reached next starts n) (reached next starts k) (front_of_all k))

      -- in each round the same is reached by another way that leads from all of it to the same
      pub same_rounds : (other : List ℕ → List (List ℕ))
          → All (λ p. next p ≡ other p) (reached next starts n)
          → (k : ℕ) → reached next starts k ≡ reached other starts k
      unfolding reached
      same_rounds other alike zero = refl
      same_rounds other alike (suc k) =
          ap (insert_all bytes_eq starts) (led_to_alike next other (reached next starts k) front)
          ∙ ap (with_next other starts) (same_rounds other alike k)
        where
          front : All (λ p. next p ≡ other p) (reached next starts k)
          front =
              all_in_front (λ p. next p ≡ other p) (reached next starts k) (front_of_all k).0
              (subst (All (λ p. next p ≡ other p)) (front_of_all k).1 alike)
