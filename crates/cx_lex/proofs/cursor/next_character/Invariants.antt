use Rattle.std.proofs.Common.{◌≡◌, ◌+◌, ◌<◌, ◌^◌, length}
use Rattle.cx_lex.specs.Lines.{characters}
use Rattle.cx_lex.proofs.cursor.next_character.Given as goal

abbrev pub invariant-loop-more : goal.invariant-loop-more
invariant-loop-more l =
    (characters l.place l.rest ≡ characters l.fn.at l.bytes)
    × (l.place.line + length l.rest < 2 ^ 32)
    × (l.place.column + length l.rest < 2 ^ 32)

abbrev pub decreases-loop-more : goal.decreases-loop-more
decreases-loop-more l = length l.rest
