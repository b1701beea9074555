use Rattle.std.proofs.Common.{◌-◌, ◌^◌}
use Rattle.cx_asking.proofs.IncludeLaws.{Follows}
use Rattle.cx_asking.proofs.includes.ask_includes.Given as goal

abbrev pub invariant-loop-file : goal.invariant-loop-file
invariant-loop-file g l =
    Follows l.limits l.folders l.fn.units l.fn.asked l.asked (g.F.Files.state l.fn.files) (g.F.Files.state l.files) l.followed l.found

abbrev pub decreases-loop-file : goal.decreases-loop-file
decreases-loop-file g l = 2 ^ 64 - l.followed
