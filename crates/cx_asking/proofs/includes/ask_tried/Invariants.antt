use Rattle.cx_asking.proofs.IncludeLaws.{all_tried, tried_left}
use Rattle.cx_asking.proofs.RestLaws.{Rests}
use Rattle.cx_asking.proofs.includes.ask_tried.Given as goal

abbrev pub invariant-loop-paths : goal.invariant-loop-paths
invariant-loop-paths g l =
    Rests l.limits (all_tried l.limits l.tried) (tried_left l.limits l.tried l.paths-index)
    l.fn.asked l.asked (g.F.Files.state l.fn.files) (g.F.Files.state l.files)
