use Rattle.cx_macro.proofs.RoleLaws.{next_role, put_in_more}
use Rattle.cx_macro.specs.Shapes.Roles.{position_of, role_at}
use Rattle.cx_macro.specs.Shapes.Substitutes.{arguments_of_code, substitutes_of_code}
use Rattle.cx_macro.proofs.substitutes.substitutes_of.Goals as goal

pub loop-position-preserved : goal.loop-position-preserved
loop-position-preserved c =
    let p = position_of c.in-Some.position in
    let step = next_role c.args.stored.now _ c.in-Some-next_role.rest.now c.loop-position.positions c.next.new.self p c.in-Some-next_role.role
    c.loop-position.invariant.roles c.in-Some.ensures c.in-Some-next_role.ensures in
    record {
      roles = step.1;
      put_in = put_in_more c.args.stored.now (arguments_of_code c.args.arguments) c.args.arguments.expanded.now (substitutes_of_code c.loop-position.out.items) _ _
          c.loop-position.positions c.next.new.self p (role_at p c.in-Some-next_role.role) c.loop-position.invariant.put_in c.in-Some.ensures
          c.in_ok-push_substitute.ensures step.0;
    }
