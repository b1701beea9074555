-- Where the file of an include is looked for, computed.
use Rattle.std.proofs.Common.{◌≡◌, ℕ, List, [], ◌∷◌, true, false, Some, None, codes, refl}
use Rattle.std.specs.Str.{chars, is_utf8}
use lib.Utf8.{encode}
use Rattle.cx_base.specs.declared.place.Place.{Place}
use Rattle.cx_base.specs.Simple.{simple_path}
use Rattle.cx_directive.specs.declared.include.IncludeName.{IncludeName}
use Rattle.cx_directive.specs.declared.include.Target.{Target}
use Rattle.cx_shelf.specs.declared.shelf.Shelf.{Shelf}
use Rattle.cx_shelf.specs.declared.shelf.Shelved.{Shelved}
use Rattle.cx_shelf.specs.Searches.{candidates, first_number, folder_part, found}
use Rattle.cx_shelf.specs.Shelves.{number_of}

-- the folder part ends with the last `/`
folder_of_nested : folder_part (codes "a/b/c.c") ≡ codes "a/b/"
unfolding folder_part
folder_of_nested = refl

folder_of_bare : folder_part (codes "c.c") ≡ []
unfolding folder_part
folder_of_bare = refl

folder_of_root : folder_part (codes "/c.c") ≡ codes "/"
unfolding folder_part
folder_of_root = refl

abbrev somewhere : Place
somewhere = record { file = 0; line = 1; column = 10 }

abbrev quoted : List ℕ → IncludeName
quoted name = record { name = name; quoted = true; at = somewhere }

abbrev angled : List ℕ → IncludeName
angled name = record { name = name; quoted = false; at = somewhere }

abbrev folders : List (List ℕ)
folders = codes "i" ∷ [] ∷ codes "../j/" ∷ []

-- a name in `"` is looked for beside the file first
quoted_candidates : candidates folders (codes "s/a.c") (quoted (codes "x.h"))
    ≡ codes "s/x.h" ∷ codes "i/x.h" ∷ codes "x.h" ∷ codes "../j/x.h" ∷ []
unfolding candidates folder_part simple_path
quoted_candidates = refl

-- one in `<` and `>` in the folders alone
angled_candidates : candidates folders (codes "s/a.c") (angled (codes "x.h")) ≡ codes "i/x.h" ∷ codes "x.h" ∷ codes "../j/x.h" ∷ []
unfolding candidates folder_part simple_path
angled_candidates = refl

-- a `..` cancels the component before it
parent_candidates : candidates (codes "i/k" ∷ []) (codes "s/a.c") (quoted (codes "../x.h")) ≡ codes "x.h" ∷ codes "i/x.h" ∷ []
unfolding candidates folder_part simple_path
parent_candidates = refl

-- a rooted name is tried alone
rooted_candidates : candidates folders (codes "s/a.c") (quoted (codes "/b/../x.h")) ≡ codes "/x.h" ∷ []
unfolding candidates folder_part simple_path
rooted_candidates = refl

no_candidates : candidates [] (codes "s/a.c") (angled (codes "x.h")) ≡ []
unfolding candidates
no_candidates = refl

abbrev stored : List ℕ → Shelved
stored path = record { path = path; lexed = record { pieces = []; comments = [] } }

abbrev shelf : Shelf
shelf = record {
  folders = codes "i" ∷ [];
  files = stored (codes "i/x.h") ∷ stored (codes "s/x.h") ∷ stored (codes "i/x.h") ∷ [];
}

-- of two files with one path the first counts
first_of_two : number_of shelf (codes "i/x.h") ≡ Some 0
unfolding number_of
first_of_two = refl

abbrev leads : IncludeName → Target
leads name = record { name = name; computed = false }

own_found : found shelf (codes "s/a.c") (leads (quoted (codes "x.h"))) ≡ Some 1
unfolding found first_number candidates folder_part simple_path number_of is_utf8 chars encode
own_found = refl

in_folder_found : found shelf (codes "s/a.c") (leads (angled (codes "x.h"))) ≡ Some 0
unfolding found first_number candidates folder_part simple_path number_of is_utf8 chars encode
in_folder_found = refl

not_found : found shelf (codes "a.c") (leads (quoted (codes "../x.h"))) ≡ None
unfolding found first_number candidates folder_part simple_path number_of is_utf8 chars encode
not_found = refl

computed_not_found : found shelf (codes "s/a.c") (record { name = quoted (codes "x.h"); computed = true }) ≡ None
unfolding found
computed_not_found = refl

-- a name that is no UTF-8 leads to none, even where a file has that path
no_text_not_found : found (record { folders = []; files = stored (255 ∷ []) ∷ [] }) (codes "a.c") (leads (quoted (255 ∷ []))) ≡ None
unfolding found is_utf8 chars encode
no_text_not_found = refl
