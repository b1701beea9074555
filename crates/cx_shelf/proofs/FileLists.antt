-- Lists of files that grow, and what is in them.
use Rattle.std.proofs.Common.{◌≡◌, ◌⊎◌, inl, inr, ⊎_elim, ℕ, Bool, true, false, cond, ◌||◌, nat_eq, List, [], ◌∷◌, ◌++◌, Contains, fold, flat_map, refl, sym, ap, ◌∙◌, append_assoc, eq-eqb}
use Rattle.std.specs.Cmp.{nat_eq_equiv}
use Rattle.std.specs.List.{IsDistinct, list_any}
use Rattle.std.proofs.lemmas.Bool.{eqb-true, or_cases, or_left, or_right}
use Rattle.std.proofs.lemmas.List.{append-nil}
use Rattle.std.proofs.lemmas.List.Folds.{list_any-append, list_any_at}
use Rattle.std.proofs.lemmas.Map.Keys.{IsDistinct-push}
use Rattle.std.proofs.lemmas.Map.Steps.{list_any_congr}
use Rattle.indexmap.proofs.CallerLemmas.{Contains-list_any}
use Rattle.cx_shelf.specs.Closures.{with_file}

-- a list that begins with another
abbrev pub Begins : List ℕ → List ℕ → Type 0
Begins all front = (rest : List ℕ) × (all ≡ front ++ rest)

pub begins_itself : (files : List ℕ) → Begins files files
begins_itself files = ([], sym (append-nil files))

pub begins_through : (all middle front : List ℕ) → Begins all middle → Begins middle front → Begins all front
begins_through all middle front h k = (k.0 ++ h.0, h.1 ∙ ap (λ l. l ++ h.0) k.1 ∙ append_assoc front k.0 h.0)

-- membership, and the test of it

pub is_in : (files : List ℕ) (file : ℕ) → Contains files file → list_any (nat_eq file) files ≡ true
is_in files file c = list_any_at (nat_eq file) files c.0 file c.1 (eq-eqb _ _ (sym c.2))

pub contains_from : (files : List ℕ) (file : ℕ) → list_any (nat_eq file) files ≡ true → Contains files file
contains_from files file h = Contains-list_any nat_eq eqb-true files file h

-- files with one more

grows_by_one : (files : List ℕ) (file : ℕ) → Begins (with_file files file) files
grows_by_one files file = at (list_any (nat_eq file) files)
  where
    at : (b : Bool) → Begins (cond b files (files ++ file ∷ [])) files
    at true = begins_itself files
    at false = (file ∷ [], refl)

one_is_in : (files : List ℕ) (file other : ℕ) → list_any (nat_eq other) (with_file files file) ≡ (list_any (nat_eq other) files || nat_eq other file)
one_is_in files file other = at (list_any (nat_eq file) files) refl
  where
    same : (a : Bool) → (a ≡ false → nat_eq other file ≡ false) → a ≡ (a || nat_eq other file)
    same true h = refl
    same false h = sym (h refl)

    there : list_any (nat_eq file) files ≡ true → (c : Bool) → nat_eq other file ≡ c → list_any (nat_eq other) files ≡ false → nat_eq other file ≡ false
    there e true c n = absurd cc (list_any_congr nat_eq_equiv other file files c, e, n)
    there e false c n = c

    last : (a b : Bool) → (a || (b || false)) ≡ (a || b)
    last true b = refl
    last false true = refl
    last false false = refl

    at : (b : Bool) → list_any (nat_eq file) files ≡ b
        → list_any (nat_eq other) (cond b files (files ++ file ∷ [])) ≡ (list_any (nat_eq other) files || nat_eq other file)
    at true e = same (list_any (nat_eq other) files) (there e (nat_eq other file) refl)
    at false e = list_any-append (nat_eq other) files (file ∷ []) ∙ last (list_any (nat_eq other) files) (nat_eq other file)

one_apart : (files : List ℕ) (file : ℕ) → IsDistinct nat_eq files → IsDistinct nat_eq (with_file files file)
one_apart files file d = at (list_any (nat_eq file) files) refl
  where
    at : (b : Bool) → list_any (nat_eq file) files ≡ b → IsDistinct nat_eq (cond b files (files ++ file ∷ []))
    at true e = d
    at false e = IsDistinct-push nat_eq_equiv files file d e

-- files with more

pub grows : (files more : List ℕ) → Begins (fold with_file files more) files
grows files [] = begins_itself files
grows files (file ∷ more) =
    begins_through (fold with_file (with_file files file) more) (with_file files file) files (grows (with_file files file) more) (grows_by_one files file)

pub all_are_in : (files more : List ℕ) (other : ℕ) → list_any (nat_eq other) (fold with_file files more) ≡ (list_any (nat_eq other) files || list_any (nat_eq other) more)
all_are_in files [] other = none (list_any (nat_eq other) files)
  where
    none : (b : Bool) → b ≡ (b || false)
    none true = refl
    none false = refl
all_are_in files (file ∷ more) other =
    all_are_in (with_file files file) more other ∙ ap (λ b. b || list_any (nat_eq other) more) (one_is_in files file other)
    ∙ regroup (list_any (nat_eq other) files) (nat_eq other file) (list_any (nat_eq other) more)
  where
    regroup : (a b c : Bool) → ((a || b) || c) ≡ (a || (b || c))
    regroup true b c = refl
    regroup false b c = refl

pub all_apart : (files more : List ℕ) → IsDistinct nat_eq files → IsDistinct nat_eq (fold with_file files more)
all_apart files [] d = d
all_apart files (file ∷ more) d = all_apart (with_file files file) more (one_apart files file d)

-- what is in one of several lists

pub in_one : (lists : ℕ → List ℕ) (files : List ℕ) (file other : ℕ) → list_any (nat_eq file) files ≡ true → list_any (nat_eq other) (lists file) ≡ true
    → list_any (nat_eq other) (flat_map lists files) ≡ true
in_one lists [] file other f o = absurd cc
in_one lists (x ∷ xs) file other f o =
    list_any-append (nat_eq other) (lists x) (flat_map lists xs)
    ∙ at (nat_eq file x) refl (λ e. in_one lists xs file other e o) f
  where
    at : (b : Bool) → nat_eq file x ≡ b → (list_any (nat_eq file) xs ≡ true → list_any (nat_eq other) (flat_map lists xs) ≡ true)
        → (b || list_any (nat_eq file) xs) ≡ true → (list_any (nat_eq other) (lists x) || list_any (nat_eq other) (flat_map lists xs)) ≡ true
    at true e rest f = or_left _ _ (ap (λ y. list_any (nat_eq other) (lists y)) (sym (eqb-true file x e)) ∙ o)
    at false e rest f = or_right _ _ (rest f)

pub from_one : (lists : ℕ → List ℕ) (files : List ℕ) (other : ℕ) → list_any (nat_eq other) (flat_map lists files) ≡ true
    → (file : ℕ) × (list_any (nat_eq file) files ≡ true) × (list_any (nat_eq other) (lists file) ≡ true)
from_one lists [] other o = absurd cc
from_one lists (x ∷ xs) other o =
    ⊎_elim (λ (e : list_any (nat_eq other) (lists x) ≡ true). (x, or_left _ _ (eq-eqb x x refl), e))
    (λ (e : list_any (nat_eq other) (flat_map lists xs) ≡ true). let r = from_one lists xs other e in (r.0, or_right _ _ r.1, r.2))
    (or_cases _ _ (sym (list_any-append (nat_eq other) (lists x) (flat_map lists xs)) ∙ o))

-- where a list goes on to others: in the first of two, or behind it
pub parted : (first second front back : List ℕ) (file : ℕ) → first ++ second ≡ front ++ file ∷ back
    → ((rest : List ℕ) × (first ≡ front ++ file ∷ rest)) ⊎ ((rest : List ℕ) × (front ≡ first ++ rest))
parted [] second front back file e = inr (front, refl)
parted (x ∷ xs) second [] back file e = inl (xs, cc)
parted (x ∷ xs) second (y ∷ front) back file e =
    let same : y ≡ x = cc in
    let next : xs ++ second ≡ front ++ file ∷ back = cc in
    ⊎_elim (λ (h : (rest : List ℕ) × (xs ≡ front ++ file ∷ rest)). inl (h.0, (λ j. sym same j ∷ h.1 j)))
    (λ (h : (rest : List ℕ) × (front ≡ xs ++ rest)). inr (h.0, (λ j. same j ∷ h.1 j)))
    (parted xs second front back file next)
