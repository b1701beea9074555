-- The paths that are tried for an include, by the form of its name.
use Rattle.std.proofs.Common.{◌≡◌, ℕ, List, [], ◌∷◌, ◌++◌, true, false, refl, ap, ◌∙◌, map}
use Rattle.std.specs.Str.{IsUtf8}
use Rattle.std.specs.Prelude.{if◌then◌else◌}
use Rattle.std.proofs.lemmas.Bool.{false_from_ne_true}
use Rattle.std.proofs.lemmas.Str.{IsUtf8-from_is_utf8, is_utf8-from_IsUtf8}
use Rattle.cx_base.specs.Simple.{is_rooted, simple_path}
use Rattle.cx_directive.specs.declared.include.IncludeName.{IncludeName}
use Rattle.cx_shelf.specs.Searches.{candidates, folder_part, in_folder}
use Rattle.cx_asking.specs.Includes.{tried}

pub none_tried : (folders : List (List ℕ)) (includer : List ℕ) (n : IncludeName) → ¬ IsUtf8 n.name
    → [] ≡ tried folders includer n
none_tried folders includer n lacks =
    rw (false_from_ne_true _ (λ e. lacks (IsUtf8-from_is_utf8 n.name e))) refl

pub rooted_tried : (folders : List (List ℕ)) (includer : List ℕ) (n : IncludeName) (paths : List (List ℕ))
    → IsUtf8 n.name → is_rooted n.name ≡ true → paths ≡ simple_path n.name ∷ []
    → paths ≡ tried folders includer n
unfolding candidates
rooted_tried folders includer n paths u e is = rw (is_utf8-from_IsUtf8 n.name u, e) is

pub relative_tried : (folders : List (List ℕ)) (includer : List ℕ) (n : IncludeName) (own paths : List (List ℕ))
    → IsUtf8 n.name → is_rooted n.name ≡ false
    → own ≡ (if n.quoted then simple_path (folder_part includer ++ n.name) ∷ [] else [])
    → paths ≡ own ++ map (λ folder. simple_path (in_folder folder n.name)) folders
    → paths ≡ tried folders includer n
unfolding candidates
relative_tried folders includer n own paths u e first all =
    rw (is_utf8-from_IsUtf8 n.name u, e)
    (all ∙ ap (λ ps. ps ++ map (λ folder. simple_path (in_folder folder n.name)) folders) first)
