use Rattle.std.proofs.Common.{◌∙◌, Some, ap}
use Rattle.std.proofs.lemmas.Result.{IfOk-weaker}
use Rattle.cx_directive.specs.Operands.{tokens_of}
use Rattle.cx_directive.proofs.ParameterLaws.{all_joined, no_name, one_name_more}
use Rattle.cx_directive.proofs.parameters.joined_parameters.Goals as goal

pub returns-in_default-one_name : goal.returns-in_default-one_name
returns-in_default-one_name c =
    no_name c.loop-part.names (tokens_of c.loop-part.left.now) (tokens_of c.in-Some.part.now) (tokens_of c.in-Some.after.now) _ c.loop-part.invariant c.in-Some.ensures.parts c.in_default-one_name.ensures

pub loop-part-preserved : goal.loop-part-preserved
loop-part-preserved c =
    one_name_more c.loop-part.names c.push.new.self c.in_ok-copy.field-0 (tokens_of c.loop-part.left.now) (tokens_of c.in-Some.part.now) (tokens_of c.in-Some.after.now) _ c.loop-part.invariant
    c.in-Some.ensures.parts (ap Some c.in_ok-copy.ensures ∙ c.in-Some-one_name.ensures) c.in_ok-push.ensures.ok

pub returns : goal.returns
returns c =
    IfOk-weaker c.ended_by.result _ _ (λ p h. all_joined c.loop-part.names (tokens_of c.loop-part.left.now) _ _ c.loop-part.invariant c.in_default.ensures.parts h) c.ended_by.ensures
