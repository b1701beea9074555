-- Lists of paths that grow, each path once.
use Rattle.std.proofs.Common.{◌≡◌, Bool, true, false, cond, ℕ, List, [], ◌∷◌, ◌++◌, All, Contains, refl, sym, ap, subst, ◌∙◌, append_assoc}
use Rattle.std.specs.List.{IsDistinct, list_any}
use Rattle.std.specs.Str.{bytes_eq}
use Rattle.std.proofs.lemmas.Cmp.{nat_list_eq_equiv}
use Rattle.std.proofs.lemmas.List.{append-nil}
use Rattle.std.proofs.lemmas.List.Elements.{All-contains, All-contains_itself, All-cons, All-head, All-nil, All-push, All-tail}
use Rattle.std.proofs.lemmas.Map.Keys.{IsDistinct-push}
use Rattle.std.proofs.lemmas.Map.Made.{is_member-Decides}
use Rattle.std.proofs.lemmas.Slice.Eq.{bytes_eq-Decides}
use Rattle.indexmap.specs.IndexSet.{insert_all, insert_key}

-- a list that begins with another
abbrev pub Begins : List (List ℕ) → List (List ℕ) → Type 0
Begins all front = (rest : List (List ℕ)) × (all ≡ front ++ rest)

begins_through : (all middle front : List (List ℕ)) → Begins all middle → Begins middle front
    → Begins all front
begins_through all middle front h k =
    (k.0 ++ h.0, h.1 ∙ ap (λ l. l ++ h.0) k.1 ∙ append_assoc front k.0 h.0)

-- what holds of all holds of a front, and of what stands behind it

module _ (P : List ℕ → Type 0) where
  pub all_in_front : (front rest : List (List ℕ)) → All P (front ++ rest) → All P front
  all_in_front [] rest all = All-nil P
  all_in_front (path ∷ front) rest all =
      All-cons P path front (All-head P path (front ++ rest) all)
      (all_in_front front rest (All-tail P path (front ++ rest) all))

  pub all_behind : (front rest : List (List ℕ)) → All P (front ++ rest) → All P rest
  all_behind [] rest all = all
  all_behind (path ∷ front) rest all =
      all_behind front rest (All-tail P path (front ++ rest) all)

-- one path more

module _ (paths : List (List ℕ)) (path : List ℕ) where
  one_more : Begins (insert_key bytes_eq paths path) paths
  one_more = at (list_any (bytes_eq path) paths)
    where
      at : (b : Bool) → Begins (cond b paths (paths ++ path ∷ [])) paths
      at true = ([], sym (append-nil paths))
      at false = (path ∷ [], refl)

  one_apart : IsDistinct bytes_eq paths → IsDistinct bytes_eq (insert_key bytes_eq paths path)
  one_apart d = at (list_any (bytes_eq path) paths) refl
    where
      at : (b : Bool) → list_any (bytes_eq path) paths ≡ b
          → IsDistinct bytes_eq (cond b paths (paths ++ path ∷ []))
      at true e = d
      at false e = IsDistinct-push nat_list_eq_equiv paths path d e

  one_holds : (P : List ℕ → Type 0) → All P paths → P path
      → All P (insert_key bytes_eq paths path)
  one_holds P h p = at (list_any (bytes_eq path) paths)
    where
      at : (b : Bool) → All P (cond b paths (paths ++ path ∷ []))
      at true = h
      at false = All-push P paths path h p

  one_back : (P : List ℕ → Type 0) → All P (insert_key bytes_eq paths path) → P path
  one_back P = at (list_any (bytes_eq path) paths) refl
    where
      at : (b : Bool) → list_any (bytes_eq path) paths ≡ b
          → All P (cond b paths (paths ++ path ∷ [])) → P path
      at true e all =
          All-contains P paths path all ((is_member-Decides bytes_eq-Decides paths path).0 e)
      at false e all =
          All-contains P (paths ++ path ∷ []) path all
          (All-head (Contains (paths ++ path ∷ [])) path []
          (all_behind (Contains (paths ++ path ∷ [])) paths (path ∷ [])
          (All-contains_itself (paths ++ path ∷ []))))

-- more paths

pub grows : (paths more : List (List ℕ)) → Begins (insert_all bytes_eq paths more) paths
grows paths [] = ([], sym (append-nil paths))
grows paths (path ∷ more) =
    begins_through (insert_all bytes_eq (insert_key bytes_eq paths path) more)
    (insert_key bytes_eq paths path) paths
    (grows (insert_key bytes_eq paths path) more) (one_more paths path)

pub all_apart : (paths more : List (List ℕ)) → IsDistinct bytes_eq paths
    → IsDistinct bytes_eq (insert_all bytes_eq paths more)
all_apart paths [] d = d
all_apart paths (path ∷ more) d =
    all_apart (insert_key bytes_eq paths path) more (one_apart paths path d)

pub all_hold : (P : List ℕ → Type 0) (paths more : List (List ℕ)) → All P paths → All P more
    → All P (insert_all bytes_eq paths more)
all_hold P paths [] h k = h
all_hold P paths (path ∷ more) h k =
    all_hold P (insert_key bytes_eq paths path) more
    (one_holds paths path P h (All-head P path more k)) (All-tail P path more k)

-- what holds of all with more paths holds of each of these
pub all_added : (P : List ℕ → Type 0) (paths more : List (List ℕ))
    → All P (insert_all bytes_eq paths more) → All P more
all_added P paths [] all = All-nil P
all_added P paths (path ∷ more) all =
    let front = grows (insert_key bytes_eq paths path) more in
    All-cons P path more
    (one_back paths path P
    (all_in_front P (insert_key bytes_eq paths path) front.0 (subst (All P) front.1 all)))
    (all_added P (insert_key bytes_eq paths path) more all)
