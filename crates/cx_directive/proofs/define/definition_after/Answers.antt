use Rattle.std.proofs.lemmas.Result.{IfOk-weaker}
use Rattle.cx_directive.specs.Operands.{tokens_of}
use Rattle.cx_directive.proofs.DefineLaws.{bracket_there, no_bracket}
use Rattle.cx_directive.proofs.define.definition_after.Goals as goal

pub returns-in-Some-clause-meaning : goal.returns-in-Some-clause-meaning
returns-in-Some-clause-meaning c =
    IfOk-weaker c.function_definition.result _ _ (λ r h. bracket_there (tokens_of c.args.after.now) (tokens_of c.in-Some.inner.now) _ c.in-Some.ensures h)
    c.function_definition.ensures.meaning

pub returns-in-None-clause-meaning : goal.returns-in-None-clause-meaning
returns-in-None-clause-meaning c =
    IfOk-weaker c.object_definition.result _ _ (λ r h. no_bracket (tokens_of c.args.after.now) _ c.in-None.ensures h) c.object_definition.ensures.meaning
