-- The names that are put into a table are those that it has.
use Rattle.std.proofs.Common.{◌≡◌, ℕ, ◌+◌, ◌<◌, ◌≤◌, List, [], ◌∷◌, ◌++◌, add-one, drop, drop-cons, get_or, length, Bool, true, false, refl, sym, ap, ◌∙◌, subst}
use Rattle.std.specs.Prelude.{◌||◌, not, if◌then◌else◌, bytes_eq, filter, fold, is_some}
use Rattle.std.specs.List.{filter_map, flat_map, list_any}
use Rattle.std.proofs.lemmas.List.Concat.{flat_map-cons}
use Rattle.std.proofs.lemmas.List.{drop_all}
use Rattle.std.proofs.lemmas.List.Sums.{fold-append}
use Rattle.std.proofs.lemmas.Slice.Eq.{bytes_eq-Decides}
use Rattle.cx_table.specs.NameTable.{Entries, value_of}
use Rattle.cx_table.proofs.EntryLaws.{bytes_eq-sym}
use Rattle.cx_table.proofs.TableLaws.{value_of-with_entry, value_of-with_entry_other}
use Rattle.cx_base.specs.declared.define.Define.{Define}
use Rattle.cx_lex.specs.declared.piece.Piece.{Piece}
use Rattle.cx_lines.specs.Lines.{lines_of}
use Rattle.cx_lines.specs.Nesting.{Line}
use Rattle.cx_options.specs.declared.answer.Options.{Options}
use Rattle.cx_shelf.specs.declared.shelf.Shelf.{Shelf}
use Rattle.cx_shelf.specs.Shelves.{pieces_of}
use Rattle.cx_configs.specs.Configurations.{defined_name, lines_in, names_defined, predefined, settled_names}
use Rattle.cx_configs.specs.Questions.{Name}
use Rattle.cx_configs.specs.Shapes.Sets.{is_settled, with_all_settled, with_names, with_settled, with_name}

one_more : (t : Entries (Unit {0})) (m n : Name)
    → is_settled (with_settled t m) n ≡ (bytes_eq n m || is_settled t n)
one_more t m n = by (bytes_eq n m) refl
  where
    by : (b : Bool) → bytes_eq n m ≡ b → is_settled (with_settled t m) n ≡ (b || is_settled t n)
    by true e =
        subst (λ k. is_settled (with_settled t m) k ≡ true) (sym ((bytes_eq-Decides n m).0 e))
        (ap is_some (value_of-with_entry m tt t))
    by false e = ap is_some (value_of-with_entry_other m n tt t (bytes_eq-sym m n ∙ e))

settled_after : (names : List Name) (t : Entries (Unit {0})) (n : Name)
    → is_settled (fold with_settled t names) n ≡ (list_any (bytes_eq n) names || is_settled t n)
settled_after [] t n = refl
settled_after (m ∷ ms) t n =
    settled_after ms (with_settled t m) n
    ∙ ap (λ b. list_any (bytes_eq n) ms || b) (one_more t m n)
    ∙ shuffled (list_any (bytes_eq n) ms) (bytes_eq n m) (is_settled t n)
  where
    shuffled : (a b c : Bool) → (a || (b || c)) ≡ ((b || a) || c)
    shuffled true true c = refl
    shuffled true false c = refl
    shuffled false true c = refl
    shuffled false false c = refl

or_false : (b : Bool) → (b || false) ≡ b
or_false true = refl
or_false false = refl

pub settled_are : (names : List Name) (n : Name)
    → is_settled (with_all_settled [] names) n ≡ list_any (bytes_eq n) names
unfolding with_all_settled value_of
settled_are names n = settled_after names [] n ∙ or_false (list_any (bytes_eq n) names)

filter_same : {A : Type 0} (p q : A → Bool) → ((x : A) → p x ≡ q x) → (xs : List A) → filter p xs ≡ filter q xs
filter_same p q same [] = refl
filter_same {A} p q same (x ∷ xs) =
    ap (λ b. if b then x ∷ filter p xs else filter p xs) (same x)
    ∙ ap (λ ys. if q x then x ∷ ys else ys) (filter_same p q same xs)

-- what the names that are not settled make of a set
pub open_names_are : (names : List Name) (set asked : List Name)
    → with_names (with_all_settled [] names) set asked
    ≡ fold with_name set (filter (λ n. not (list_any (bytes_eq n) names)) asked)
unfolding with_names
open_names_are names set asked =
    ap (fold with_name set)
    (filter_same (λ n. not (is_settled (with_all_settled [] names) n)) (λ n. not (list_any (bytes_eq n) names))
    (λ n. ap not (settled_are names n)) asked)

-- names that are put in one after others
pub settled_append : (t : Entries (Unit {0})) (a b : List Name)
    → with_all_settled t (a ++ b) ≡ with_all_settled (with_all_settled t a) b
unfolding with_all_settled
settled_append t a b = fold-append with_settled t a b

pub settled_none : (t : Entries (Unit {0})) → with_all_settled t [] ≡ t
unfolding with_all_settled
settled_none t = refl

-- a file more
pub settled_file : (shelf : Shelf) (t : Entries (Unit {0})) (file : ℕ) (files : List ℕ)
    → with_all_settled t (flat_map (λ lines. filter_map defined_name lines) (lines_in shelf (file ∷ files)))
    ≡ with_all_settled (with_all_settled t (filter_map defined_name (lines_of (pieces_of shelf file))))
    (flat_map (λ lines. filter_map defined_name lines) (lines_in shelf files))
settled_file shelf t file files =
    ap (with_all_settled t) (flat_map-cons (λ lines. filter_map defined_name lines) (lines_of (pieces_of shelf file)) (lines_in shelf files))
    ∙ settled_append t (filter_map defined_name (lines_of (pieces_of shelf file)))
    (flat_map (λ lines. filter_map defined_name lines) (lines_in shelf files))

-- no lines are left
pub settled_end : (t : Entries (Unit {0})) (pieces : List Piece) → pieces ≡ []
    → with_all_settled t (filter_map defined_name (lines_of pieces)) ≡ t
unfolding lines_of with_all_settled
settled_end t pieces e = ap (λ ps. fold with_settled t (filter_map defined_name (lines_of ps))) e

-- the names that are settled for a unit, one sort after another
pub settled_in_turn : (files : List (List Line)) (library : List Define) (options : Options)
    → with_all_settled (with_all_settled (with_all_settled (with_all_settled (with_all_settled [] predefined)
    (flat_map (λ lines. filter_map defined_name lines) files)) (names_defined library))
    (names_defined options.defines)) options.undefined
    ≡ with_all_settled [] (settled_names files library options)
unfolding settled_names
settled_in_turn files library options =
    let a = flat_map (λ lines. filter_map defined_name lines) files in
    let b = names_defined library in
    let c = names_defined options.defines in
    let d = options.undefined in
    sym (settled_append [] (((predefined ++ a) ++ b) ++ c) d
    ∙ ap (λ t. with_all_settled t d) (settled_append [] ((predefined ++ a) ++ b) c
    ∙ ap (λ t. with_all_settled t c) (settled_append [] (predefined ++ a) b
    ∙ ap (λ t. with_all_settled t b) (settled_append [] predefined a))))

-- the first of the rest of a list
pub drop_next : {A : Type 0} (xs : List A) (i : ℕ) (d : A) → i < length xs
    → drop i xs ≡ get_or xs i d ∷ drop (i + 1) xs
drop_next xs i d below = drop-cons xs i d below ∙ ap (λ k. get_or xs i d ∷ drop k xs) (sym (add-one i))

pub settled_files_next : (shelf : Shelf) (t u : Entries (Unit {0})) (files : List ℕ) (i : ℕ) → i < length files
    → u ≡ with_all_settled t (filter_map defined_name (lines_of (pieces_of shelf (get_or files i 0))))
    → with_all_settled u (flat_map (λ lines. filter_map defined_name lines) (lines_in shelf (drop (i + 1) files)))
    ≡ with_all_settled t (flat_map (λ lines. filter_map defined_name lines) (lines_in shelf (drop i files)))
settled_files_next shelf t u files i below e =
    ap (λ v. with_all_settled v (flat_map (λ lines. filter_map defined_name lines) (lines_in shelf (drop (i + 1) files)))) e
    ∙ sym (settled_file shelf t (get_or files i 0) (drop (i + 1) files))
    ∙ ap (λ fs. with_all_settled t (flat_map (λ lines. filter_map defined_name lines) (lines_in shelf fs)))
    (sym (drop_next files i 0 below))

pub settled_files_end : (shelf : Shelf) (t : Entries (Unit {0})) (files : List ℕ) (i : ℕ) → length files ≤ i
    → with_all_settled t (flat_map (λ lines. filter_map defined_name lines) (lines_in shelf (drop i files))) ≡ t
settled_files_end shelf t files i past =
    ap (λ fs. with_all_settled t (flat_map (λ lines. filter_map defined_name lines) (lines_in shelf fs))) (drop_all i files past)
    ∙ settled_none t
