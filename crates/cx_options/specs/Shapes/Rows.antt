-- The table of options as the code has it.
use Rattle.std.specs.Prelude.{ℕ, List}
use Rattle.std.specs.Borrow.{Bor}
use Rattle.cx_options.specs.declared.spelling.Form.{Form}
use Rattle.cx_options.specs.declared.spelling.Purpose.{Purpose}
use Rattle.cx_options.specs.Spellings.{Row}

-- a row of the code as one of the definition
abbrev pub row_of : Bor (List ℕ) × Form × Purpose → Row
row_of row = (row.0.now, row.1, row.2)
