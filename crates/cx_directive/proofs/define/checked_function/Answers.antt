use Rattle.cx_macro.specs.Made.{definition_by}
use Rattle.cx_directive.specs.Operands.{tokens_of}
use Rattle.cx_directive.specs.Shapes.Found.{parameters_by}
use Rattle.cx_directive.proofs.DefineLaws.{made_checked, made_refused, no_paste}
use Rattle.cx_directive.proofs.define.checked_function.Goals as goal

pub returns-then-not-pastes_stand-clause-meaning : goal.returns-then-not-pastes_stand-clause-meaning
returns-then-not-pastes_stand-clause-meaning c =
    no_paste (parameters_by c.args.parameters) (tokens_of c.args.body.now) c.pastes_stand.result c.pastes_stand.ensures c.if-not-pastes_stand.true

pub returns-then-not-branch-2-clause-meaning : goal.returns-then-not-branch-2-clause-meaning
returns-then-not-branch-2-clause-meaning c =
    made_refused (parameters_by c.args.parameters) (tokens_of c.args.body.now) (definition_by c.in_ok-made.made) c.in_ok-are_distinct.field-0 c.pastes_stand.result c.in_ok-can_be_defined.field-0
    c.in_ok-are_distinct.ensures c.if-not-branch.false c.pastes_stand.ensures c.if-not-pastes_stand.false c.in_ok-made.ensures c.in_ok-can_be_defined.ensures c.if-not-branch-2.true

pub returns-clause-meaning : goal.returns-clause-meaning
returns-clause-meaning c =
    made_checked (parameters_by c.args.parameters) (tokens_of c.args.body.now) (definition_by c.in_ok-made.made) c.in_ok-are_distinct.field-0 c.pastes_stand.result c.in_ok-can_be_defined.field-0
    c.in_ok-are_distinct.ensures c.if-not-branch.false c.pastes_stand.ensures c.if-not-pastes_stand.false c.in_ok-made.ensures c.in_ok-can_be_defined.ensures c.if-not-branch-2.false
