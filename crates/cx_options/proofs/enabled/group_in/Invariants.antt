use Rattle.std.proofs.Common.{◌≡◌, drop}
use Rattle.std.specs.Prelude.{bytes_eq}
use Rattle.std.specs.List.{find}
use Rattle.cx_options.proofs.enabled.group_in.Given as goal

abbrev pub invariant-loop-known : goal.invariant-loop-known
invariant-loop-known l =
    find (λ group. bytes_eq group.0.now l.name) (drop l.known-index l.groups)
    ≡ find (λ group. bytes_eq group.0.now l.name) l.groups
