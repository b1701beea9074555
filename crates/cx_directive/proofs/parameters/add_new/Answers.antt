use Rattle.cx_directive.proofs.DistinctLaws.{is_new, new_names}
use Rattle.cx_directive.proofs.parameters.add_new.Goals as goal

pub returns-clause-new : goal.returns-clause-new
returns-clause-new c = is_new c.args.set.now c.args.name.now c.in_ok-copy.field-0 c.in_ok-before.before c.is_none.result c.in_ok-before.ensures.before c.is_none.ensures c.in_ok-copy.ensures

pub returns-clause-names : goal.returns-clause-names
returns-clause-names c =
    new_names c.args.set.now c.insert.new.self c.args.name.now c.in_ok-copy.field-0 tt c.is_none.result
    (is_new c.args.set.now c.args.name.now c.in_ok-copy.field-0 c.in_ok-before.before c.is_none.result c.in_ok-before.ensures.before c.is_none.ensures c.in_ok-copy.ensures) c.in_ok-copy.ensures
    c.in_ok-before.ensures.ok
