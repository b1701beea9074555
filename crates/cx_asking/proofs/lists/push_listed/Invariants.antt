use Rattle.std.proofs.Common.{◌≡◌, [], ◌++◌, map, filter, bytes_eq}
use Rattle.std.specs.Prelude.{not}
use Rattle.cx_base.specs.Simple.{simple_path}
use Rattle.cx_asking.proofs.lists.push_listed.Given as goal

abbrev pub invariant-loop-line : goal.invariant-loop-line
invariant-loop-line l =
    l.paths.items ≡ l.initial.paths.items
    ++ map simple_path (filter (λ line. not (bytes_eq line [])) (map (λ x. x.now) l.yielded))
