use Rattle.std.proofs.Common.{◌≡◌, ◌≤◌, ◌||◌, length, true}
use Rattle.cx_lines.specs.Kinds.{ends_group, kind_of, opens}
use Rattle.cx_lines.specs.Lines.{lines_of}
use Rattle.cx_pre.specs.Conditions.{Choice, Chooses}
use Rattle.cx_pre.proofs.stage.Stage.choose.Given as goal

abbrev pub invariant-loop-part : goal.invariant-loop-part
invariant-loop-part l =
    ((c : Choice) → Chooses l.self l.asking (lines_of l.behind) c → Chooses l.fn.self l.line (lines_of l.rest) c)
    × (l.self.missing ≡ l.fn.self.missing)
    × ((opens (kind_of l.asking) || ends_group (kind_of l.asking)) ≡ true)
    × (length l.behind ≤ length l.rest)

abbrev pub decreases-loop-part : goal.decreases-loop-part
decreases-loop-part l = length l.behind
