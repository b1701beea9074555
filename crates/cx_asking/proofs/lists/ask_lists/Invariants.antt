use Rattle.cx_asking.proofs.ListLaws.{all_lists, lists_left}
use Rattle.cx_asking.proofs.RestLaws.{Rests}
use Rattle.cx_asking.proofs.lists.ask_lists.Given as goal

abbrev pub invariant-loop-list : goal.invariant-loop-list
invariant-loop-list g l =
    Rests l.limits (all_lists l.limits l.lists) (lists_left l.limits l.lists l.list-index)
    l.fn.asked l.asked (g.F.Files.state l.fn.files) (g.F.Files.state l.files)
