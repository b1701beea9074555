-- The files of a unit and its configurations are the same on two shelves that are alike for them.
use Rattle.std.proofs.Common.{◌≡◌, ℕ, zero, suc, ◌+◌, List, [], ◌∷◌, ◌++◌, Bool, true, false, cond, ◌||◌, nat_eq, Option, Some, None, flat_map, fold, length, map, option_and_then, refl, sym, ap, subst, ◌∙◌, arith}
use Rattle.std.specs.List.{AllByRecursion, AllZip, cons_option, filter_map, list_any}
use Rattle.cx_base.specs.declared.define.Define.{Define}
use Rattle.cx_lines.specs.Kinds.{kind_of}
use Rattle.cx_lines.specs.Lines.{lines_of}
use Rattle.cx_lines.specs.Nesting.{Line}
use Rattle.cx_lines.specs.declared.kind.LineKind.{LineKind}
use Rattle.cx_lines.specs.declared.kind.LineKind.TheVariants.{Include}
use Rattle.cx_directive.specs.declared.include.Target.{Target}
use Rattle.cx_directive.specs.Operands.{operands, target_of}
use Rattle.cx_options.specs.declared.answer.Options.{Options}
use Rattle.cx_configs.specs.Configurations.{bound_of, configurations, defines_of, lines_in, name_lists, names_of_unit, settled_names}
use Rattle.cx_shelf.specs.declared.shelf.Shelf.{Shelf}
use Rattle.cx_shelf.specs.Closures.{closure_of, included, led_to, led_to_by, reached, with_file, with_included}
use Rattle.cx_shelf.specs.Searches.{found}
use Rattle.cx_shelf.specs.Shelves.{path_of, pieces_of}
use Rattle.cx_shelf.proofs.ReachLaws.{closure_stays}
use Rattle.cx_unit.specs.Units.{number_among}
use Rattle.cx_input.proofs.AlikeLaws.{AreAlike, FoundAlike, IsOneFile, LeadsAlike, led_alike, lines_lead, pieces_agree}
use Rattle.cx_input.proofs.MarkLaws.{numbers_agree}

-- as many rounds as there are files reach all
reached_later : (shelf : Shelf) (unit k : ℕ)
    → reached shelf unit (k + length shelf.files) ≡ closure_of shelf unit
unfolding closure_of reached
reached_later shelf unit zero =
    let e : zero + length shelf.files ≡ length shelf.files = omega arith in
    ap (reached shelf unit) e
reached_later shelf unit (suc k) =
    let e : suc k + length shelf.files ≡ suc (k + length shelf.files) = omega arith in
    ap (reached shelf unit) e ∙ ap (with_included shelf unit) (reached_later shelf unit k)
    ∙ closure_stays shelf unit

module _ (a b : Shelf) (Inside : List ℕ → Type 0) (alike : AreAlike a b Inside) where
  -- the same files, each by its number on the shelf
  abbrev AreFiles : List ℕ → List ℕ → Type 0
  AreFiles files others = AllZip (IsOneFile a b Inside) files others

  equal_alike : (n m i j : ℕ) → IsOneFile a b Inside n m → IsOneFile a b Inside i j
      → nat_eq n i ≡ nat_eq m j
  equal_alike n m i j one other =
      let n_is = one.here in
      let m_is = one.there in
      let i_is = other.here in
      let j_is = other.there in
      let first : nat_eq n i ≡ nat_eq (number_among a one.path) (number_among a other.path) =
      λ k. nat_eq (n_is k) (i_is k) in
      let last : nat_eq m j ≡ nat_eq (number_among b one.path) (number_among b other.path) =
      λ k. nat_eq (m_is k) (j_is k) in
      first
      ∙ numbers_agree a b Inside alike.shelved one.path other.path one.inside other.inside
      ∙ sym last

  any_alike : (n m : ℕ) → IsOneFile a b Inside n m → (files others : List ℕ)
      → AreFiles files others → list_any (nat_eq n) files ≡ list_any (nat_eq m) others
  any_alike n m one [] [] all = refl
  any_alike n m one [] (j ∷ others) all = absurd all
  any_alike n m one (i ∷ files) [] all = absurd all
  any_alike n m one (i ∷ files) (j ∷ others) all =
      let here = equal_alike n m i j one all.0 in
      let rest = any_alike n m one files others all.1 in
      λ k. here k || rest k

  append_alike : (files others more rest : List ℕ) → AreFiles files others → AreFiles more rest
      → AreFiles (files ++ more) (others ++ rest)
  append_alike [] [] more rest all also = also
  append_alike [] (j ∷ others) more rest all also = absurd all
  append_alike (i ∷ files) [] more rest all also = absurd all
  append_alike (i ∷ files) (j ∷ others) more rest all also =
      (all.0, append_alike files others more rest all.1 also)

  with_file_alike : (n m : ℕ) → IsOneFile a b Inside n m → (files others : List ℕ)
      → AreFiles files others → AreFiles (with_file files n) (with_file others m)
  with_file_alike n m one files others all =
      subst (λ c. AreFiles (with_file files n) (cond c others (others ++ m ∷ [])))
      (any_alike n m one files others all) (by (list_any (nat_eq n) files))
    where
      by : (c : Bool)
          → AreFiles (cond c files (files ++ n ∷ [])) (cond c others (others ++ m ∷ []))
      by true = all
      by false = append_alike files others (n ∷ []) (m ∷ []) all (one, tt)

  fold_alike : (files others more rest : List ℕ) → AreFiles files others → AreFiles more rest
      → AreFiles (fold with_file files more) (fold with_file others rest)
  fold_alike files others [] [] all also = all
  fold_alike files others [] (j ∷ rest) all also = absurd also
  fold_alike files others (i ∷ more) [] all also = absurd also
  fold_alike files others (i ∷ more) (j ∷ rest) all also =
      fold_alike (with_file files i) (with_file others j) more rest
      (with_file_alike i j also.0 files others all) also.1

  -- what files include

  line_alike : (n m : ℕ) (one : IsOneFile a b Inside n m) (line : Line)
      → LeadsAlike a b Inside one.path line → (kind : LineKind) → kind_of line ≡ kind
      → FoundAlike a b Inside (led_to_by a (path_of a n) kind line)
      (led_to_by b (path_of b m) kind line)
  line_alike n m one line h Include e = by (target_of (operands line)) refl
    where
      by : (t : Option Target) → target_of (operands line) ≡ t
          → FoundAlike a b Inside (option_and_then (found a (path_of a n)) t)
          (option_and_then (found b (path_of b m)) t)
      by None x = tt
      by (Some target) x = led_alike a b Inside n m one line target h e x
  line_alike n m one line h _ e = tt

  option_alike : (some other : Option ℕ) → FoundAlike a b Inside some other
      → (files others : List ℕ) → AreFiles files others
      → AreFiles (cons_option some files) (cons_option other others)
  option_alike None None f files others all = all
  option_alike None (Some m) f files others all = absurd f
  option_alike (Some n) None f files others all = absurd f
  option_alike (Some n) (Some m) f files others all = (f, all)

  lines_alike : (n m : ℕ) (one : IsOneFile a b Inside n m) (lines : List Line)
      → AllByRecursion (LeadsAlike a b Inside one.path) lines
      → AreFiles (filter_map (led_to a (path_of a n)) lines)
      (filter_map (led_to b (path_of b m)) lines)
  lines_alike n m one [] h = tt
  lines_alike n m one (line ∷ lines) h =
      option_alike (led_to a (path_of a n) line) (led_to b (path_of b m) line)
      (line_alike n m one line h.0 (kind_of line) refl)
      (filter_map (led_to a (path_of a n)) lines) (filter_map (led_to b (path_of b m)) lines)
      (lines_alike n m one lines h.1)

  included_alike : (n m : ℕ) → IsOneFile a b Inside n m
      → AreFiles (included a n) (included b m)
  unfolding included
  included_alike n m one =
      subst (λ ps. AreFiles (included a n) (filter_map (led_to b (path_of b m)) (lines_of ps)))
      (pieces_agree a b Inside alike n m one)
      (lines_alike n m one (lines_of (pieces_of a n)) (lines_lead a b Inside alike n m one))

  all_included_alike : (files others : List ℕ) → AreFiles files others
      → AreFiles (flat_map (included a) files) (flat_map (included b) others)
  all_included_alike [] [] all = tt
  all_included_alike [] (j ∷ others) all = absurd all
  all_included_alike (i ∷ files) [] all = absurd all
  all_included_alike (i ∷ files) (j ∷ others) all =
      append_alike (included a i) (included b j) (flat_map (included a) files)
      (flat_map (included b) others) (included_alike i j all.0)
      (all_included_alike files others all.1)

  module _ (n m : ℕ) (one : IsOneFile a b Inside n m) where
    reached_alike : (k : ℕ) → AreFiles (reached a n k) (reached b m k)
    unfolding reached
    reached_alike zero = (one, tt)
    reached_alike (suc k) =
        fold_alike (n ∷ []) (m ∷ []) (flat_map (included a) (reached a n k))
        (flat_map (included b) (reached b m k)) (one, tt)
        (all_included_alike (reached a n k) (reached b m k) (reached_alike k))

    closure_alike : AreFiles (closure_of a n) (closure_of b m)
    closure_alike =
        let e : length b.files + length a.files ≡ length a.files + length b.files =
        omega arith in
        subst (λ files. AreFiles files (closure_of b m)) (reached_later a n (length b.files))
        (subst (λ k. AreFiles (reached a n k) (closure_of b m)) (sym e)
        (subst (AreFiles (reached a n (length a.files + length b.files)))
        (reached_later b m (length a.files))
        (reached_alike (length a.files + length b.files))))

    same_lines : (files others : List ℕ) → AreFiles files others
        → lines_in a files ≡ lines_in b others
    same_lines [] [] all = refl
    same_lines [] (j ∷ others) all = absurd all
    same_lines (i ∷ files) [] all = absurd all
    same_lines (i ∷ files) (j ∷ others) all =
        let here = pieces_agree a b Inside alike i j all.0 in
        let rest = same_lines files others all.1 in
        λ k. lines_of (here k) ∷ rest k

    -- the configurations of a unit
    pub same_configurations : (options : Options) (library : List Define)
        → configurations a n options library ≡ configurations b m options library
    unfolding configurations names_of_unit
    same_configurations options library =
        ap (λ files. map (λ names. record {
          defines = defines_of library options;
          names = names;
        }) (name_lists (bound_of options) (settled_names files library options) files))
        (same_lines (closure_of a n) (closure_of b m) closure_alike)
