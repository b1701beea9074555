use Rattle.std.proofs.Common.{◌≡◌, ◌++◌, length, flat_map}
use Rattle.cx_macro.specs.Replacement as meaning
use Rattle.cx_macro.specs.Shapes.Substitutes.{arguments_of_code, substitutes_of_code}
use Rattle.cx_macro.proofs.RoleLaws.{rest_roles}
use Rattle.cx_macro.proofs.substitutes.substitutes_of.Given as goal

abbrev pub invariant-loop-position : goal.invariant-loop-position
invariant-loop-position l = record {
  roles : l.roles ≡ rest_roles l.stored l.positions;
  put_in : substitutes_of_code l.out.items
      ++ flat_map (λ p. meaning.substitutes_by (arguments_of_code l.arguments) l.arguments.expanded.now p.token (meaning.role_of l.stored p)) l.positions
      ≡ flat_map (λ p. meaning.substitutes_by (arguments_of_code l.arguments) l.arguments.expanded.now p.token (meaning.role_of l.stored p))
      (meaning.positions_of l.stored.body);
}

abbrev pub decreases-loop-position : goal.decreases-loop-position
decreases-loop-position l = length l.positions
