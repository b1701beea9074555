-- Two shelves that are alike for the files of some paths, whatever numbers these have on them.
use Rattle.std.proofs.Common.{◌≡◌, ℕ, List, [], Option, Some, None, cond, refl, sym, ap, subst, ◌∙◌}
use Rattle.std.specs.List.{AllByRecursion}
use Rattle.cx_lines.specs.Kinds.{kind_of}
use Rattle.cx_lines.specs.Lines.{lines_of}
use Rattle.cx_lines.specs.Nesting.{Line}
use Rattle.cx_lines.specs.declared.kind.LineKind.TheVariants.{Include}
use Rattle.cx_directive.specs.declared.include.Target.{Target}
use Rattle.cx_directive.specs.Operands.{operands, target_of}
use Rattle.cx_asking.specs.Asking.{text_of}
use Rattle.cx_shelf.specs.declared.shelf.Shelf.{Shelf}
use Rattle.cx_shelf.specs.Searches.{found}
use Rattle.cx_shelf.specs.Shelves.{path_of, pieces_of}
use Rattle.cx_unit.specs.Units.{number_among}
use Rattle.cx_input.specs.Inputs.{is_shelved}
use Rattle.cx_input.proofs.NumberLaws.{path_by_number, pieces_by_number}

-- numbers of one file on two shelves
pub record IsOneFile (a b : Shelf) (Inside : List ℕ → Type 0) (number other : ℕ) : Type 0 where
  pub path : List ℕ
  pub inside : Inside path
  pub here : number ≡ number_among a path
  pub there : other ≡ number_among b path

-- the file that is found on two shelves, or none on either
abbrev pub FoundAlike : Shelf → Shelf → (List ℕ → Type 0) → Option ℕ → Option ℕ → Type 0
FoundAlike a b Inside None None = Unit {0}
FoundAlike a b Inside None (Some other) = ⊥
FoundAlike a b Inside (Some number) None = ⊥
FoundAlike a b Inside (Some number) (Some other) = IsOneFile a b Inside number other

-- where a line of the file with a path is an include, it leads to one file on both
abbrev pub LeadsAlike : Shelf → Shelf → (List ℕ → Type 0) → List ℕ → Line → Type 0
LeadsAlike a b Inside path line =
    (target : Target) → kind_of line ≡ Include → target_of (operands line) ≡ Some target
    → FoundAlike a b Inside (found a (path_of a (number_among a path)) target)
    (found b (path_of b (number_among b path)) target)

-- the files of these paths are on both shelves or on neither, have the same pieces, and include
-- files of these paths alone
pub record AreAlike (a b : Shelf) (Inside : List ℕ → Type 0) : Type 0 where
  pub shelved : (path : List ℕ) → Inside path → is_shelved a path ≡ is_shelved b path
  pub texts : (path : List ℕ) → Inside path → text_of a.files path ≡ text_of b.files path
  pub leads : (path : List ℕ) → Inside path
      → AllByRecursion (LeadsAlike a b Inside path) (lines_of (text_of a.files path))

module _ (a b : Shelf) (Inside : List ℕ → Type 0) where
  pub none_found : (some other : Option ℕ) → FoundAlike a b Inside some other → some ≡ None
      → other ≡ None
  none_found None None f e = e
  none_found None (Some n) f e = absurd f
  none_found (Some n) other f e = absurd cc

  pub some_found : (some other : Option ℕ) → FoundAlike a b Inside some other → (n : ℕ)
      → some ≡ Some n → (m : ℕ) × (other ≡ Some m) × IsOneFile a b Inside n m
  some_found None other f n e = absurd cc
  some_found (Some k) None f n e = absurd f
  some_found (Some k) (Some m) f n e =
      let same : k ≡ n = cc in (
        m,
        refl,
        record {
          path = f.path;
          inside = f.inside;
          here = sym same ∙ f.here;
          there = f.there;
        },
      )

  -- what an include of a file leads to
  pub led_alike : (n m : ℕ) (one : IsOneFile a b Inside n m) (line : Line) (target : Target)
      → LeadsAlike a b Inside one.path line → kind_of line ≡ Include
      → target_of (operands line) ≡ Some target
      → FoundAlike a b Inside (found a (path_of a n) target) (found b (path_of b m) target)
  led_alike n m one line target h e x =
      subst (λ i. FoundAlike a b Inside (found a (path_of a i) target)
      (found b (path_of b m) target)) (sym one.here)
      (subst (λ j. FoundAlike a b Inside (found a (path_of a (number_among a one.path)) target)
      (found b (path_of b j) target)) (sym one.there) (h target e x))

  module _ (alike : AreAlike a b Inside) (number other : ℕ) (one : IsOneFile a b Inside number other)
    where
      pub paths_agree : path_of a number ≡ path_of b other
      paths_agree =
          ap (path_of a) one.here ∙ path_by_number a one.path
          ∙ ap (λ t. cond t one.path []) (alike.shelved one.path one.inside)
          ∙ sym (path_by_number b one.path) ∙ sym (ap (path_of b) one.there)

      pub pieces_agree : pieces_of a number ≡ pieces_of b other
      pieces_agree =
          ap (pieces_of a) one.here ∙ pieces_by_number a one.path
          ∙ alike.texts one.path one.inside
          ∙ sym (pieces_by_number b one.path) ∙ sym (ap (pieces_of b) one.there)

      -- the lines of the file lead alike
      pub lines_lead : AllByRecursion (LeadsAlike a b Inside one.path) (lines_of (pieces_of a number))
      lines_lead =
          subst (λ ps. AllByRecursion (LeadsAlike a b Inside one.path) (lines_of ps))
          (sym (ap (pieces_of a) one.here ∙ pieces_by_number a one.path))
          (alike.leads one.path one.inside)
