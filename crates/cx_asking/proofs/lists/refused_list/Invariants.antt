use Rattle.std.proofs.Common.{◌≡◌, drop}
use Rattle.cx_asking.specs.Wishes.{list_fault}
use Rattle.cx_asking.proofs.lists.refused_list.Given as goal

abbrev pub invariant-loop-list : goal.invariant-loop-list
invariant-loop-list l = list_fault l.answers (drop l.list-index l.lists) ≡ list_fault l.answers l.lists
