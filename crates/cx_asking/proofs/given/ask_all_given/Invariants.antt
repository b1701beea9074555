use Rattle.std.proofs.Common.{take}
use Rattle.cx_asking.specs.Shapes.Asks.{Asks}
use Rattle.cx_asking.proofs.WalkLaws.{all_of, of_given}
use Rattle.cx_asking.proofs.given.ask_all_given.Given as goal

abbrev pub invariant-loop-path : goal.invariant-loop-path
invariant-loop-path g l =
    Asks l.limits (all_of (of_given l.limits) (take l.path-index l.paths))
    l.initial.asked l.asked (g.F.Files.state l.initial.files) (g.F.Files.state l.files)
