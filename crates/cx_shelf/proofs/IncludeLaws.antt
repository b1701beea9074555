-- The names that the lines of a source include.
use Rattle.std.proofs.Common.{◌≡◌, List, [], ◌∷◌, ◌++◌, refl, sym, ap, ◌∙◌}
use Rattle.std.specs.List.{filter_map}
use Rattle.cx_lex.specs.declared.piece.Piece.{Piece}
use Rattle.cx_directive.specs.declared.include.IncludeName.{IncludeName}
use Rattle.cx_shelf.specs.Includes.{include_name_of, includes_of}
use Rattle.cx_lines.specs.Lines.{lines_of}

nothing_after : (names : List IncludeName) → names ++ [] ≡ names
nothing_after [] = refl
nothing_after (n ∷ ns) = ap (λ l. n ∷ l) (nothing_after ns)

pub all_names : (all pieces : List Piece) (names : List IncludeName) → pieces ≡ []
    → filter_map include_name_of (lines_of all) ≡ names ++ filter_map include_name_of (lines_of pieces)
    → names ≡ includes_of all
unfolding includes_of lines_of
all_names all pieces names e h =
    sym (h ∙ ap (λ ps. names ++ filter_map include_name_of (lines_of ps)) e ∙ nothing_after names)

-- a source without pieces includes nothing
pub nothing_included : includes_of [] ≡ []
unfolding includes_of lines_of
nothing_included = refl
