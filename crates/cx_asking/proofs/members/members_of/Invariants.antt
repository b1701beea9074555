use Rattle.std.proofs.Common.{◌≡◌, slice_get}
use Rattle.std.specs.List.{flat_map}
use Rattle.std.specs.Option.{option_and_then, option_to_list}
use Rattle.cx_asking.specs.Shapes.Steps.{member_of}
use Rattle.cx_asking.proofs.members.members_of.Given as goal

abbrev pub invariant-loop-number : goal.invariant-loop-number
invariant-loop-number l =
    l.members.items
    ≡ flat_map (λ k. option_to_list (option_and_then (member_of l.folder) (slice_get l.entries k.now.1))) l.yielded
