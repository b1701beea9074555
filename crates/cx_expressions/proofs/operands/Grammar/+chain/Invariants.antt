use Rattle.std.proofs.Common.{◌≡◌, ◌-◌, ◌+◌, ◌*◌}
use Rattle.cx_reading.specs.Parsing.{behind, many_from, many}
use Rattle.cx_expressions.specs.Shapes.Parsers.{readers, link, lor}
use Rattle.cx_expressions.proofs.operands.Grammar.+chain.Given as goal

abbrev pub decreases-link : goal.decreases-link
decreases-link g l = 3 * l.level

abbrev pub decreases-links : goal.decreases-links
decreases-links g l = 3 * l.level + 1

abbrev pub decreases-lor_from : goal.decreases-lor_from
decreases-lor_from g l = 3 * l.level + 2

abbrev pub invariant-links-loop-turn : goal.invariant-links-loop-turn
invariant-links-loop-turn g l =
    many (link l.level (lor (readers l.self.depth) (l.level - 1))) l.fn.cursor
    ≡ behind l.links (many_from (link l.level (lor (readers l.self.depth) (l.level - 1)))
    (l._turn-end - l._turn) l.cursor)
