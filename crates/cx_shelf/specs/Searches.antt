-- Where the file of an include is looked for (C11 6.10.2).
use Rattle.std.specs.Prelude.{ℕ, List, [], ◌∷◌, ◌++◌, not, ◌||◌, Option, Some, None, if◌then◌else◌, map}
use Rattle.std.specs.List.{list_any}
use Rattle.std.specs.Str.{is_utf8}
use Rattle.cx_base.specs.Folders.{is_slash}
use Rattle.cx_base.specs.Simple.{is_rooted, simple_path}
use Rattle.cx_directive.specs.declared.include.IncludeName.{IncludeName}
use Rattle.cx_directive.specs.declared.include.Target.{Target}
use Rattle.cx_shelf.specs.declared.shelf.Shelf.{Shelf}
use Rattle.cx_shelf.specs.Shelves.{number_of}

-- the path of a file up to its last `/`
unfoldable pub folder_part : List ℕ → List ℕ
folder_part [] = []
folder_part (b ∷ bs) = if list_any is_slash (b ∷ bs) then b ∷ folder_part bs else []

-- a folder of `-I` before a name; the empty one is the present folder
abbrev pub in_folder : List ℕ → List ℕ → List ℕ
in_folder [] name = name
in_folder (b ∷ bs) name = (b ∷ bs) ++ 47 ∷ name

-- in the folder of the file that includes, where the name stands in `"`
abbrev pub own_candidates : List ℕ → IncludeName → List (List ℕ)
own_candidates includer n =
    if n.quoted then simple_path (folder_part includer ++ n.name) ∷ [] else []

-- The paths that are tried, in order: its own folder, and then each of `-I`; a name that begins
-- with `/` is tried alone.
unfoldable pub candidates : List (List ℕ) → List ℕ → IncludeName → List (List ℕ)
candidates folders includer n =
    if is_rooted n.name then simple_path n.name ∷ []
    else own_candidates includer n ++ map (λ folder. simple_path (in_folder folder n.name)) folders

-- the first of these that is the path of a file
unfoldable pub first_number : Shelf → List (List ℕ) → Option ℕ
first_number shelf [] = None
first_number shelf (path ∷ paths) = or_else (number_of shelf path) (first_number shelf paths)
  where
    or_else : Option ℕ → Option ℕ → Option ℕ
    or_else None other = other
    or_else (Some n) other = Some n

-- The file that an include in a file leads to. Other tokens than the name of a header, and a name
-- that is no UTF-8, lead to none.
unfoldable pub found : Shelf → List ℕ → Target → Option ℕ
found shelf includer t =
    if t.computed || not (is_utf8 t.name.name) then None
    else first_number shelf (candidates shelf.folders includer t.name)
