-- What includes take, where what is tried for them is answered alike.
use Rattle.std.proofs.Common.{◌≡◌, ℕ, List, [], ◌∷◌, ◌++◌, All, Bool, true, false, cond, Contains, Option, Some, None, if◌then◌else◌, flat_map, is_some, map, option_map, unwrap_or, refl, sym, ap, ◌∙◌, arith}
use Rattle.std.specs.List.{cons_option, filter_map, find}
use Rattle.std.specs.Str.{bytes_eq}
use Rattle.std.proofs.lemmas.List.Elements.{All-cons, All-head, All-nil, All-tail, Contains-append_right}
use Rattle.std.proofs.lemmas.Slice.Eq.{bytes_eq-Decides}
use Rattle.cx_base.specs.declared.answers.Answer.{Answer}
use Rattle.cx_base.specs.declared.answers.Answer.TheVariants.{Absent}
use Rattle.cx_base.specs.declared.answers.SeenEntry.{SeenEntry}
use Rattle.cx_asking.specs.Includes.{is_taken, wishes_of}
use Rattle.cx_asking.specs.Wishes.{Wish, answer_in, is_there, look_up, wish}
use Rattle.cx_asking.specs.declared.purpose.Purpose.TheVariants as purpose

-- what holds of all wishes holds of a front, and of those behind it

module _ (P : Wish → Type 0) where
  pub wishes_in_front : (front rest : List Wish) → All P (front ++ rest) → All P front
  wishes_in_front [] rest all = All-nil P
  wishes_in_front (w ∷ front) rest all =
      All-cons P w front (All-head P w (front ++ rest) all)
      (wishes_in_front front rest (All-tail P w (front ++ rest) all))

  pub wishes_behind : (front rest : List Wish) → All P (front ++ rest) → All P rest
  wishes_behind [] rest all = all
  wishes_behind (w ∷ front) rest all =
      wishes_behind front rest (All-tail P w (front ++ rest) all)

module _ (seen other : List SeenEntry) where
  -- a wish has one answer in both
  abbrev pub IsAlike : Wish → Type 0
  IsAlike w = answer_in seen w.path ≡ answer_in other w.path

  taken_alike : (path : List ℕ) → answer_in seen path ≡ answer_in other path
      → is_taken seen path ≡ is_taken other path
  taken_alike path e = ap is_there e

  -- the first path, and those behind it where nothing stands there
  pub first_alike : (path : List ℕ) (paths : List (List ℕ))
      → All IsAlike (wishes_of seen (path ∷ paths)) → answer_in seen path ≡ answer_in other path
  unfolding wishes_of
  first_alike path paths all =
      All-head IsAlike (wish purpose.File path)
      (if is_taken seen path then [] else wishes_of seen paths) all

  pub later_alike : (path : List ℕ) (paths : List (List ℕ))
      → All IsAlike (wishes_of seen (path ∷ paths)) → is_taken seen path ≡ false
      → All IsAlike (wishes_of seen paths)
  unfolding wishes_of
  later_alike path paths all =
      by (is_taken seen path)
      (All-tail IsAlike (wish purpose.File path)
      (if is_taken seen path then [] else wishes_of seen paths) all)
    where
      by : (b : Bool) → All IsAlike (if b then [] else wishes_of seen paths) → b ≡ false
          → All IsAlike (wishes_of seen paths)
      by true rest e = absurd cc
      by false rest e = rest

  pub find_alike : (paths : List (List ℕ)) → All IsAlike (wishes_of seen paths)
      → find (is_taken seen) paths ≡ find (is_taken other) paths
  find_alike [] all = refl
  find_alike (path ∷ paths) all =
      by (is_taken seen path) refl
      (λ e. find_alike paths (later_alike path paths all e))
    where
      by : (b : Bool) → is_taken seen path ≡ b
          → (is_taken seen path ≡ false
          → find (is_taken seen) paths ≡ find (is_taken other) paths)
          → cond b (Some path) (find (is_taken seen) paths)
          ≡ cond (is_taken other path) (Some path) (find (is_taken other) paths)
      by true e rest =
          ap (λ c. cond c (Some path) (find (is_taken other) paths))
          (sym e ∙ taken_alike path (first_alike path paths all))
      by false e rest =
          rest e
          ∙ ap (λ c. cond c (Some path) (find (is_taken other) paths))
          (sym e ∙ taken_alike path (first_alike path paths all))

  pub wishes_alike : (paths : List (List ℕ)) → All IsAlike (wishes_of seen paths)
      → wishes_of seen paths ≡ wishes_of other paths
  unfolding wishes_of
  wishes_alike [] all = refl
  wishes_alike (path ∷ paths) all =
      by (is_taken seen path) refl (λ e. wishes_alike paths (later_alike path paths all e))
    where
      by : (b : Bool) → is_taken seen path ≡ b
          → (is_taken seen path ≡ false → wishes_of seen paths ≡ wishes_of other paths)
          → wish purpose.File path ∷ (if b then [] else wishes_of seen paths)
          ≡ wish purpose.File path ∷ (if is_taken other path then [] else wishes_of other paths)
      by true e rest =
          ap (λ c. wish purpose.File path ∷ (if c then [] else wishes_of other paths))
          (sym e ∙ taken_alike path (first_alike path paths all))
      by false e rest =
          ap (λ ws. wish purpose.File path ∷ ws) (rest e)
          ∙ ap (λ c. wish purpose.File path ∷ (if c then [] else wishes_of other paths))
          (sym e ∙ taken_alike path (first_alike path paths all))

  -- for several includes

  pub all_found_alike : (tried : List (List (List ℕ)))
      → All IsAlike (flat_map (wishes_of seen) tried)
      → filter_map (find (is_taken seen)) tried ≡ filter_map (find (is_taken other)) tried
  all_found_alike [] all = refl
  all_found_alike (paths ∷ tried) all =
      let here = find_alike paths
      (wishes_in_front IsAlike (wishes_of seen paths) (flat_map (wishes_of seen) tried) all) in
      let rest = all_found_alike tried
      (wishes_behind IsAlike (wishes_of seen paths) (flat_map (wishes_of seen) tried) all) in
      (λ i. cons_option (here i) (rest i))

  pub all_wishes_alike : (tried : List (List (List ℕ)))
      → All IsAlike (flat_map (wishes_of seen) tried)
      → flat_map (wishes_of seen) tried ≡ flat_map (wishes_of other) tried
  all_wishes_alike [] all = refl
  all_wishes_alike (paths ∷ tried) all =
      let here = wishes_alike paths
      (wishes_in_front IsAlike (wishes_of seen paths) (flat_map (wishes_of seen) tried) all) in
      let rest = all_wishes_alike tried
      (wishes_behind IsAlike (wishes_of seen paths) (flat_map (wishes_of seen) tried) all) in
      (λ i. here i ++ rest i)

-- what is taken was seen

abbrev pub paths_seen : List SeenEntry → List (List ℕ)
paths_seen seen = map (λ e. e.path) seen

known_seen : (seen : List SeenEntry) (path : List ℕ) → is_some (look_up seen path) ≡ true
    → Contains (paths_seen seen) path
unfolding look_up
known_seen [] path h = absurd cc
known_seen (e ∷ seen) path h = by (bytes_eq e.path path) refl h (known_seen seen path)
  where
    by : (b : Bool) → bytes_eq e.path path ≡ b
        → is_some (option_map (λ e. e.answer)
        (cond b (Some e) (find (λ e. bytes_eq e.path path) seen))) ≡ true
        → (is_some (look_up seen path) ≡ true → Contains (paths_seen seen) path)
        → Contains (e.path ∷ paths_seen seen) path
    by true t h rest = (0, omega arith, (bytes_eq-Decides e.path path).0 t)
    by false t h rest = Contains-append_right (e.path ∷ []) (paths_seen seen) path (rest h)

taken_seen : (seen : List SeenEntry) (path : List ℕ) → is_taken seen path ≡ true
    → Contains (paths_seen seen) path
taken_seen seen path t = known_seen seen path (was_asked (look_up seen path) t)
  where
    was_asked : (o : Option Answer) → is_there (unwrap_or o Absent) ≡ true → is_some o ≡ true
    was_asked None e = absurd cc
    was_asked (Some a) e = refl

pub found_passes : (test : List ℕ → Bool) (paths : List (List ℕ)) (path : List ℕ)
    → find test paths ≡ Some path → test path ≡ true
found_passes test [] path e = absurd cc
found_passes test (p ∷ paths) path e = by (test p) refl e (found_passes test paths path)
  where
    by : (b : Bool) → test p ≡ b → cond b (Some p) (find test paths) ≡ Some path
        → (find test paths ≡ Some path → test path ≡ true) → test path ≡ true
    by true t e rest = let same : p ≡ path = cc in ap test (sym same) ∙ t
    by false t e rest = rest e

pub all_taken_seen : (seen : List SeenEntry) (tried : List (List (List ℕ)))
    → All (Contains (paths_seen seen)) (filter_map (find (is_taken seen)) tried)
all_taken_seen seen [] = All-nil (Contains (paths_seen seen))
all_taken_seen seen (paths ∷ tried) = by (find (is_taken seen) paths) refl (all_taken_seen seen tried)
  where
    by : (o : Option (List ℕ)) → find (is_taken seen) paths ≡ o
        → All (Contains (paths_seen seen)) (filter_map (find (is_taken seen)) tried)
        → All (Contains (paths_seen seen)) (cons_option o (filter_map (find (is_taken seen)) tried))
    by None t rest = rest
    by (Some path) t rest =
        All-cons (Contains (paths_seen seen)) path (filter_map (find (is_taken seen)) tried)
        (taken_seen seen path (found_passes (is_taken seen) paths path t)) rest
