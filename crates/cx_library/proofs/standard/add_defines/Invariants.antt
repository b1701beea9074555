use Rattle.std.proofs.Common.{◌≡◌, drop, fold}
use Rattle.cx_library.specs.Shapes.BuiltIn.{with_macro}
use Rattle.cx_library.proofs.standard.add_defines.Given as goal

abbrev pub invariant-loop-name : goal.invariant-loop-name
invariant-loop-name l = fold (λ library row. with_macro library row.0.now row.1.now) l.draft (drop l.name-index l.rows) ≡ fold (λ library row. with_macro library row.0.now row.1.now) l.fn.draft l.rows
