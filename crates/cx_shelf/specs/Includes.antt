-- The names of the headers that a source includes (C11 6.10.2).
use Rattle.std.specs.Prelude.{List, Option, Some, None, if◌then◌else◌, filter_map}
use Rattle.cx_lex.specs.declared.piece.Piece.{Piece}
use Rattle.cx_lines.specs.Kinds.{kind_of}
use Rattle.cx_lines.specs.Lines.{lines_of}
use Rattle.cx_lines.specs.declared.kind.LineKind.{LineKind}
use Rattle.cx_lines.specs.declared.kind.LineKind.TheVariants.{Include}
use Rattle.cx_directive.specs.declared.include.IncludeName.{IncludeName}
use Rattle.cx_directive.specs.declared.include.Target.{Target}
use Rattle.cx_directive.specs.Operands.{operands, target_of}

-- the name of a header, and no other tokens
abbrev pub header_in : Option Target → Option IncludeName
header_in None = None
header_in (Some t) = if t.computed then None else Some t.name

-- what a line of a kind includes
abbrev pub named_by : LineKind → List Piece → Option IncludeName
named_by Include line = header_in (target_of (operands line))
named_by _ line = None

-- what a line includes, where it is a directive `include` with the name of a header
abbrev pub include_name_of : List Piece → Option IncludeName
include_name_of line = named_by (kind_of line) line

-- what the lines of a source include, in order
unfoldable pub includes_of : List Piece → List IncludeName
includes_of pieces = filter_map include_name_of (lines_of pieces)
