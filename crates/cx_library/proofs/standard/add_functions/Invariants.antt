use Rattle.std.proofs.Common.{◌≡◌, drop, fold}
use Rattle.cx_library.specs.Shapes.BuiltIn.{with_row}
use Rattle.cx_library.proofs.standard.add_functions.Given as goal

abbrev pub invariant-loop-name : goal.invariant-loop-name
invariant-loop-name l = fold (λ library row. with_row library row.0.now row.1) l.draft (drop l.name-index l.rows) ≡ fold (λ library row. with_row library row.0.now row.1) l.fn.draft l.rows
