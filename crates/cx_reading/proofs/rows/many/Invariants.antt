use Rattle.std.proofs.Common.{Option as option, ◌≡◌, ◌-◌}
use Rattle.cx_reading.specs.Parsing.{Parser, IsReader, behind, many_from, many}
use Rattle.cx_reading.proofs.rows.many.Given as goal

abbrev pub invariant-loop-turn : goal.invariant-loop-turn
invariant-loop-turn g l =
    (p : Parser (option g.row.T.Denot)) → IsReader p (goal.F-post g l.item)
    → many p l.fn.cursor ≡ behind l.items (many_from p (l._turn-end - l._turn) l.cursor)
