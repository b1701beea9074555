-- Which paths the includes of files want asked (C11 6.10.2).
use Rattle.std.specs.Prelude.{ℕ, zero, suc, List, [], ◌∷◌, Bool, if◌then◌else◌, map, length, bytes_eq}
use Rattle.std.specs.List.{find, filter_map, flat_map}
use Rattle.std.specs.Str.{is_utf8}
use Rattle.indexmap.specs.IndexSet.{insert_all}
use Rattle.cx_base.specs.declared.answers.SeenEntry.{SeenEntry}
use Rattle.cx_lex.specs.declared.piece.Piece.{Piece}
use Rattle.cx_directive.specs.declared.include.IncludeName.{IncludeName}
use Rattle.cx_shelf.specs.Includes.{includes_of}
use Rattle.cx_shelf.specs.Searches.{candidates}
use Rattle.cx_asking.specs.declared.purpose.Purpose.TheVariants as purpose
use Rattle.cx_asking.specs.Wishes.{Wish, answer_in, is_there, wish}

-- the pieces of each file, by its path
abbrev pub Texts : Type 0
Texts = List ℕ → List Piece

-- the paths that are tried for an include in a file; a name that is not UTF-8 has none
abbrev pub tried : List (List ℕ) → List ℕ → IncludeName → List (List ℕ)
tried folders includer n = if is_utf8 n.name then candidates folders includer n else []

-- the paths that are tried for each include of a file, in order, whatever groups they stand in
unfoldable pub tried_by : Texts → List (List ℕ) → List ℕ → List (List (List ℕ))
tried_by texts folders file = map (tried folders file) (includes_of (texts file))

-- whether something stands at a path: a file, or what could not be read
abbrev pub is_taken : List SeenEntry → List ℕ → Bool
is_taken seen path = is_there (answer_in seen path)

-- candidates up to the first at which something stands
unfoldable pub wishes_of : List SeenEntry → List (List ℕ) → List Wish
wishes_of seen [] = []
wishes_of seen (path ∷ paths) =
    wish purpose.File path ∷ (if is_taken seen path then [] else wishes_of seen paths)

-- what the includes of a file want
abbrev pub include_wishes : Texts → List (List ℕ) → List SeenEntry → List ℕ → List Wish
include_wishes texts folders seen file = flat_map (wishes_of seen) (tried_by texts folders file)

-- what the includes of a file take, in order: the first candidate at which something stands
unfoldable pub included : Texts → List (List ℕ) → List SeenEntry → List ℕ → List (List ℕ)
included texts folders seen file =
    filter_map (find (is_taken seen)) (tried_by texts folders file)

-- the starts, and what files lead to, each once
abbrev pub with_next
    : (List ℕ → List (List ℕ)) → List (List ℕ) → List (List ℕ) → List (List ℕ)
with_next next starts files = insert_all bytes_eq starts (flat_map next files)

-- the starts, and what at most so many steps lead to
unfoldable pub reached : (List ℕ → List (List ℕ)) → List (List ℕ) → ℕ → List (List ℕ)
reached next starts zero = starts
reached next starts (suc n) = with_next next starts (reached next starts n)

-- The files of units, those first that fewer includes lead to: as many as were seen lead to all.
unfoldable pub files_of : Texts → List (List ℕ) → List SeenEntry → List (List ℕ) → List (List ℕ)
files_of texts folders seen units =
    reached (included texts folders seen) units (length seen)

-- what the includes of the units' files want, breadth first
unfoldable pub all_include_wishes
    : Texts → List (List ℕ) → List SeenEntry → List (List ℕ) → List Wish
all_include_wishes texts folders seen units =
    flat_map (include_wishes texts folders seen) (files_of texts folders seen units)
