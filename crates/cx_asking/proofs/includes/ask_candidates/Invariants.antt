use Rattle.cx_asking.proofs.IncludeLaws.{all_paths, paths_left}
use Rattle.cx_asking.proofs.RestLaws.{Rests}
use Rattle.cx_asking.proofs.includes.ask_candidates.Given as goal

abbrev pub invariant-loop-path : goal.invariant-loop-path
invariant-loop-path g l =
    Rests l.limits (all_paths l.limits l.paths) (paths_left l.limits l.paths l.path-index)
    l.fn.asked l.asked (g.F.Files.state l.fn.files) (g.F.Files.state l.files)
