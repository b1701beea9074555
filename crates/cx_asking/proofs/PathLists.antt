-- Lists of paths that grow, and what is in them.
use Rattle.std.proofs.Common.{◌≡◌, ℕ, suc, ◌≤◌, Bool, true, false, cond, List, [], ◌∷◌, ◌++◌, All, Contains, flat_map, length, take, drop, refl, sym, ap, ◌∙◌, arith, append_assoc}
use Rattle.std.specs.List.{IsDistinct, list_any}
use Rattle.std.specs.Str.{bytes_eq}
use Rattle.std.proofs.lemmas.Cmp.{nat_list_eq_equiv}
use Rattle.std.proofs.lemmas.List.{append-nil, length-append, take-append-drop, take-take}
use Rattle.std.proofs.lemmas.List.Elements.{All-append, All-contains, All-contains_itself, All-nil, All-push}
use Rattle.std.proofs.lemmas.Map.Keys.{IsDistinct-push}
use Rattle.std.proofs.lemmas.Map.Made.{is_member-Decides, length-le_from_is_member}
use Rattle.std.proofs.lemmas.Slice.Eq.{bytes_eq-Decides}
use Rattle.indexmap.specs.IndexSet.{insert_all, insert_key}

-- a list that begins with another
abbrev pub Begins : List (List ℕ) → List (List ℕ) → Type 0
Begins all front = (rest : List (List ℕ)) × (all ≡ front ++ rest)

pub begins_itself : (paths : List (List ℕ)) → Begins paths paths
begins_itself paths = ([], sym (append-nil paths))

pub begins_through : (all middle front : List (List ℕ)) → Begins all middle → Begins middle front → Begins all front
begins_through all middle front h k = (k.0 ++ h.0, h.1 ∙ ap (λ l. l ++ h.0) k.1 ∙ append_assoc front k.0 h.0)

pub same_both_ways : (paths others : List (List ℕ)) → Begins paths others → Begins others paths → paths ≡ others
same_both_ways paths others ([], e) k = e ∙ append-nil others
same_both_ways paths others (path ∷ rest, e) k = absurd (omega (arith, ap length e, length-append others (path ∷ rest), ap length k.1, length-append paths k.0))

pub begins_taken : (paths : List (List ℕ)) (n : ℕ) → Begins paths (take n paths)
begins_taken paths n = (drop n paths, sym (take-append-drop n paths))

pub taken_begins : (paths : List (List ℕ)) (m n : ℕ) → m ≤ n → Begins (take n paths) (take m paths)
taken_begins paths m n h = (drop m (take n paths), sym (take-append-drop m (take n paths)) ∙ ap (λ l. l ++ drop m (take n paths)) (take-take m n paths h))

-- a list with more paths

grows_by_one : (paths : List (List ℕ)) (path : List ℕ) → Begins (insert_key bytes_eq paths path) paths
grows_by_one paths path = at (list_any (bytes_eq path) paths)
  where
    at : (b : Bool) → Begins (cond b paths (paths ++ path ∷ [])) paths
    at true = begins_itself paths
    at false = (path ∷ [], refl)

one_apart : (paths : List (List ℕ)) (path : List ℕ) → IsDistinct bytes_eq paths → IsDistinct bytes_eq (insert_key bytes_eq paths path)
one_apart paths path d = at (list_any (bytes_eq path) paths) refl
  where
    at : (b : Bool) → list_any (bytes_eq path) paths ≡ b → IsDistinct bytes_eq (cond b paths (paths ++ path ∷ []))
    at true e = d
    at false e = IsDistinct-push nat_list_eq_equiv paths path d e

one_within : (all paths : List (List ℕ)) (path : List ℕ) → All (Contains all) paths → Contains all path → All (Contains all) (insert_key bytes_eq paths path)
one_within all paths path h c = at (list_any (bytes_eq path) paths)
  where
    at : (b : Bool) → All (Contains all) (cond b paths (paths ++ path ∷ []))
    at true = h
    at false = All-push (Contains all) paths path h c

all_head : (P : List ℕ → Type 0) (path : List ℕ) (more : List (List ℕ)) → All P (path ∷ more) → P path
all_head P path more h = h 0 path (omega arith)

all_tail : (P : List ℕ → Type 0) (path : List ℕ) (more : List (List ℕ)) → All P (path ∷ more) → All P more
all_tail P path more h = λ k d less. h (suc k) d (omega arith)

pub grows : (paths more : List (List ℕ)) → Begins (insert_all bytes_eq paths more) paths
grows paths [] = begins_itself paths
grows paths (path ∷ more) =
    begins_through (insert_all bytes_eq (insert_key bytes_eq paths path) more) (insert_key bytes_eq paths path) paths
    (grows (insert_key bytes_eq paths path) more) (grows_by_one paths path)

pub all_apart : (paths more : List (List ℕ)) → IsDistinct bytes_eq paths → IsDistinct bytes_eq (insert_all bytes_eq paths more)
all_apart paths [] d = d
all_apart paths (path ∷ more) d = all_apart (insert_key bytes_eq paths path) more (one_apart paths path d)

pub all_within : (all paths more : List (List ℕ)) → All (Contains all) paths → All (Contains all) more → All (Contains all) (insert_all bytes_eq paths more)
all_within all paths [] h k = h
all_within all paths (path ∷ more) h k =
    all_within all (insert_key bytes_eq paths path) more (one_within all paths path h (all_head (Contains all) path more k)) (all_tail (Contains all) path more k)

-- what each of several paths leads to

pub led_to_within : (next : List ℕ → List (List ℕ)) (all paths : List (List ℕ)) → ((path : List ℕ) → All (Contains all) (next path)) → All (Contains all) (flat_map next paths)
led_to_within next all [] h = All-nil (Contains all)
led_to_within next all (path ∷ paths) h = All-append (Contains all) (next path) (flat_map next paths) (h path) (led_to_within next all paths h)

pub led_to_alike : (next other : List ℕ → List (List ℕ)) (paths : List (List ℕ)) → All (λ path. next path ≡ other path) paths → flat_map next paths ≡ flat_map other paths
led_to_alike next other [] h = refl
led_to_alike next other (path ∷ paths) h =
    let here : next path ≡ other path = all_head (λ path. next path ≡ other path) path paths h in
    let rest = led_to_alike next other paths (all_tail (λ path. next path ≡ other path) path paths h) in
    (λ j. here j ++ rest j)

-- a list within another, from each of its paths
pub within : (all paths : List (List ℕ)) → ((path : List ℕ) → Contains paths path → Contains all path) → All (Contains all) paths
within all paths h = λ k d less. h _ (All-contains_itself paths k d less)

-- paths of which no two are the same are at most as many as those among which they are
pub few : (all paths : List (List ℕ)) → IsDistinct bytes_eq paths → All (Contains all) paths → length paths ≤ length all
few all paths apart inside =
    length-le_from_is_member nat_list_eq_equiv paths all apart
    (λ path h. (is_member-Decides bytes_eq-Decides all path).1
    (All-contains (Contains all) paths path inside ((is_member-Decides bytes_eq-Decides paths path).0 h)))

-- one path alone
pub one_alone : (path : List ℕ) → IsDistinct bytes_eq (path ∷ [])
unfolding IsDistinct
one_alone path = (tt, tt)

pub none_apart : IsDistinct bytes_eq []
unfolding IsDistinct
none_apart = tt

-- what holds of paths holds of each that is there once

one_holds : (P : List ℕ → Type 0) (found : List (List ℕ)) (path : List ℕ) → All P found → P path → All P (insert_key bytes_eq found path)
one_holds P found path h p = at (list_any (bytes_eq path) found)
  where
    at : (b : Bool) → All P (cond b found (found ++ path ∷ []))
    at true = h
    at false = All-push P found path h p

pub all_hold : (P : List ℕ → Type 0) (found more : List (List ℕ)) → All P found → All P more → All P (insert_all bytes_eq found more)
all_hold P found [] h k = h
all_hold P found (path ∷ more) h k = all_hold P (insert_key bytes_eq found path) more (one_holds P found path h (all_head P path more k)) (all_tail P path more k)
