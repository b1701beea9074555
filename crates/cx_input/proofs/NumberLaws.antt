-- The numbers of files on a shelf, by their paths.
use Rattle.std.proofs.Common.{◌≡◌, ℕ, ◌+◌, ◌≤◌, ◌||◌, List, [], ◌∷◌, Bool, true, false, cond, not, nat_eq, nat_lt, Some, None, length, refl, sym, ap, ◌∙◌, arith, eq-eqb, ne_eqb}
use Rattle.std.specs.List.{find, list_any, position_or_len}
use Rattle.std.specs.Str.{bytes_eq}
use Rattle.std.proofs.lemmas.Bool.Decides.{nat_tests}
use Rattle.std.proofs.lemmas.List.Folds.{find_at}
use Rattle.std.proofs.lemmas.Slice.Eq.{bytes_eq-Decides}
use Rattle.cx_asking.specs.Asking.{text_of}
use Rattle.cx_shelf.specs.declared.shelf.Shelf.{Shelf}
use Rattle.cx_shelf.specs.declared.shelf.Shelved.{Shelved}
use Rattle.cx_shelf.specs.Shelves.{number_of, path_in, path_of, pieces_in, pieces_of}
use Rattle.cx_unit.specs.Units.{number_among}
use Rattle.cx_input.specs.Inputs.{is_shelved}

-- the first file that passes a test

module _ (test : Shelved → Bool) where
  below_if_any : (files : List Shelved)
      → nat_lt (position_or_len test files) (length files) ≡ list_any test files
  below_if_any [] = refl
  below_if_any (f ∷ files) = by (test f) (below_if_any files)
    where
      by : (b : Bool) → nat_lt (position_or_len test files) (length files) ≡ list_any test files
          → nat_lt (cond (not b) (1 + position_or_len test files) 0) (length (f ∷ files))
          ≡ (b || list_any test files)
      by true rest = grind (arith, nat_tests)
      by false rest = grind (arith, nat_tests, rest)

  at_most_all : (files : List Shelved) → position_or_len test files ≤ length files
  at_most_all [] = omega arith
  at_most_all (f ∷ files) = by (test f) (at_most_all files)
    where
      by : (b : Bool) → position_or_len test files ≤ length files
          → cond (not b) (1 + position_or_len test files) 0 ≤ length (f ∷ files)
      by true rest = omega arith
      by false rest = omega (arith, rest)

-- the path of the file that is found by a path
found_path : (path : List ℕ) (files : List Shelved)
    → path_in (find (λ f. bytes_eq f.path path) files)
    ≡ cond (list_any (λ f. bytes_eq f.path path) files) path []
found_path path [] = refl
found_path path (f ∷ files) = by (bytes_eq f.path path) refl (found_path path files)
  where
    by : (b : Bool) → bytes_eq f.path path ≡ b
        → path_in (find (λ f. bytes_eq f.path path) files)
        ≡ cond (list_any (λ f. bytes_eq f.path path) files) path []
        → path_in (cond b (Some f) (find (λ f. bytes_eq f.path path) files))
        ≡ cond (b || list_any (λ f. bytes_eq f.path path) files) path []
    by true e rest = (bytes_eq-Decides f.path path).0 e
    by false e rest = rest

-- a path that is not there has no pieces
no_file : (path : List ℕ) (files : List Shelved)
    → list_any (λ f. bytes_eq f.path path) files ≡ false
    → find (λ f. bytes_eq f.path path) files ≡ None
no_file path [] e = refl
no_file path (f ∷ files) e = by (bytes_eq f.path path) e (no_file path files)
  where
    by : (b : Bool) → (b || list_any (λ f. bytes_eq f.path path) files) ≡ false
        → (list_any (λ f. bytes_eq f.path path) files ≡ false
        → find (λ f. bytes_eq f.path path) files ≡ None)
        → cond b (Some f) (find (λ f. bytes_eq f.path path) files) ≡ None
    by true e rest = absurd cc
    by false e rest = rest e

module _ (shelf : Shelf) where
  -- a path that is there has the number of a file
  pub number_below : (path : List ℕ)
      → nat_lt (number_among shelf path) (length shelf.files) ≡ is_shelved shelf path
  number_below path = below_if_any (λ f. bytes_eq f.path path) shelf.files

  pub number_there : (path : List ℕ) → is_shelved shelf path ≡ true
      → number_of shelf path ≡ Some (number_among shelf path)
  unfolding number_of
  number_there path e =
      ap (λ b. cond b (Some (number_among shelf path)) None) (number_below path ∙ e)

  pub number_nowhere : (path : List ℕ) → is_shelved shelf path ≡ false
      → number_of shelf path ≡ None
  unfolding number_of
  number_nowhere path e =
      ap (λ b. cond b (Some (number_among shelf path)) None) (number_below path ∙ e)

  pub pieces_by_number : (path : List ℕ)
      → pieces_of shelf (number_among shelf path) ≡ text_of shelf.files path
  unfolding pieces_of
  pieces_by_number path = ap pieces_in (sym (find_at (λ f. bytes_eq f.path path) shelf.files))

  pub path_by_number : (path : List ℕ)
      → path_of shelf (number_among shelf path) ≡ cond (is_shelved shelf path) path []
  unfolding path_of
  path_by_number path =
      ap path_in (sym (find_at (λ f. bytes_eq f.path path) shelf.files))
      ∙ found_path path shelf.files

  pub no_text : (path : List ℕ) → is_shelved shelf path ≡ false → text_of shelf.files path ≡ []
  no_text path e = ap pieces_in (no_file path shelf.files e)

  -- where two paths have one number, by what is there: no two paths that are there
  pub numbers_are_equal : (path other : List ℕ)
      → nat_eq (number_among shelf path) (number_among shelf other)
      ≡ cond (is_shelved shelf path) (bytes_eq path other) (not (is_shelved shelf other))
  numbers_are_equal path other =
      by (is_shelved shelf path) refl (is_shelved shelf other) refl (bytes_eq path other) refl
    where
      apart : is_shelved shelf path ≡ true → is_shelved shelf other ≡ true
          → bytes_eq path other ≡ false
          → number_among shelf path ≡ number_among shelf other → ⊥
      apart t u e same =
          let paths : path ≡ other =
          sym (path_by_number path ∙ ap (λ b. cond b path []) t)
          ∙ ap (path_of shelf) same
          ∙ (path_by_number other ∙ ap (λ b. cond b other []) u) in
          let f = (bytes_eq-Decides path other).1 paths in absurd cc

      by : (b : Bool) → is_shelved shelf path ≡ b → (c : Bool) → is_shelved shelf other ≡ c
          → (d : Bool) → bytes_eq path other ≡ d
          → nat_eq (number_among shelf path) (number_among shelf other)
          ≡ cond b d (not c)
      by true t c u true e =
          eq-eqb _ _ (ap (number_among shelf) ((bytes_eq-Decides path other).0 e))
      by true t true u false e = ne_eqb _ _ (apart t u e)
      by true t false u false e = grind (arith, nat_tests, number_below path, number_below other, t, u)
      by false t true u d e = grind (arith, nat_tests, number_below path, number_below other, t, u)
      by false t false u d e =
          grind (
            arith,
            nat_tests,
            number_below path,
            number_below other,
            t,
            u,
            at_most_all (λ f. bytes_eq f.path path) shelf.files,
            at_most_all (λ f. bytes_eq f.path other) shelf.files,
          )
