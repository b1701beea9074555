use Rattle.std.proofs.Common.{◌∙◌, ap, option_map, sym}
use Rattle.std.proofs.lemmas.Result.{IfOk-weaker}
use Rattle.cx_directive.specs.Operands.{tokens_of}
use Rattle.cx_directive.specs.Shapes.Found.{parameters_by}
use Rattle.cx_directive.proofs.DefineLaws.{no_close, no_parameters_there, parameters_there}
use Rattle.cx_directive.proofs.define.function_definition.Goals as goal

pub returns-in_default-clause-meaning : goal.returns-in_default-clause-meaning
returns-in_default-clause-meaning c = no_close (tokens_of c.args.after.now) c.in_default.ensures.parts

pub returns-in_default-2-clause-meaning : goal.returns-in_default-2-clause-meaning
returns-in_default-2-clause-meaning c =
    no_parameters_there (tokens_of c.args.after.now) (tokens_of c.in-Some.inner.now) (tokens_of c.in-Some.body.now) c.in-Some.ensures.parts
    (ap (option_map parameters_by) (sym c.in_default-2.is) ∙ c.in_ok-parameters.ensures)

pub returns-clause-meaning : goal.returns-clause-meaning
returns-clause-meaning c =
    IfOk-weaker c.checked_function.result _ _
    (λ r h.
    parameters_there (tokens_of c.args.after.now) (tokens_of c.in-Some.inner.now) (tokens_of c.in-Some.body.now) (parameters_by c.in-Some-2.parameters) _ c.in-Some.ensures.parts
    (ap (option_map parameters_by) (sym c.in-Some-2.is) ∙ c.in_ok-parameters.ensures) h) c.checked_function.ensures.meaning
