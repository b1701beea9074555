use Rattle.std.proofs.Common.{◌≡◌, ◌++◌, map, take}
use Rattle.std.specs.List.{flat_map}
use Rattle.cx_base.specs.Simple.{simple_path}
use Rattle.cx_asking.specs.Lists.{paths_of}
use Rattle.cx_asking.specs.Wishes.{answer_in}
use Rattle.cx_asking.proofs.lists.given_paths.Given as goal

abbrev pub invariant-loop-path : goal.invariant-loop-path
invariant-loop-path l = l.paths.items ≡ map simple_path (take l.path-index l.path-items)

abbrev pub invariant-loop-list : goal.invariant-loop-list
invariant-loop-list l =
    l.paths.items ≡ l.initial.paths.items
    ++ map simple_path (flat_map (λ x. paths_of (answer_in l.answers (simple_path x.path))) (take l.list-index l.list-items))
