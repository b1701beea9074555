use Rattle.std.proofs.Common.{◌∙◌, ap, sym, subst, Some}
use Rattle.std.proofs.lemmas.Result.{IfErr-weaker, IfOk-weaker}
use Rattle.cx_macro.specs.Macros.{Definition}
use Rattle.cx_macro.specs.Shapes.Steps.{Invokes}
use Rattle.cx_macro.proofs.InvocationLaws.{use_object}
use Rattle.cx_macro.proofs.steps.take_token.Goals as goal

pub returns-in_ok-line-in-Line-clause-new : goal.returns-in_ok-line-in-Line-clause-new
returns-in_ok-line-in-Line-clause-new c = IfOk-weaker c.replace.result _ _ (λ new h. λ table i.
    h table (use_object table c.args.token c.args.state.buffer.ahead _
    (subst (Invokes table c.args.token c.args.state.buffer.ahead) c.in-Line.is i ∙ ap Some (sym c.in_ok-line-in-Line.ensures))
    (ap (λ (d : Definition). d.parameters) c.in_ok-line-in-Line.ensures))) c.replace.ensures.new

pub returns-in_ok-line-in-Line-clause-fault : goal.returns-in_ok-line-in-Line-clause-fault
returns-in_ok-line-in-Line-clause-fault c = IfErr-weaker c.replace.result _ _ (λ fault h. λ table i.
    h table (use_object table c.args.token c.args.state.buffer.ahead _
    (subst (Invokes table c.args.token c.args.state.buffer.ahead) c.in-Line.is i ∙ ap Some (sym c.in_ok-line-in-Line.ensures))
    (ap (λ (d : Definition). d.parameters) c.in_ok-line-in-Line.ensures))) c.replace.ensures.fault

pub returns-in-Object-clause-new : goal.returns-in-Object-clause-new
returns-in-Object-clause-new c = IfOk-weaker c.replace-in-Object.result _ _ (λ new h. λ table i.
    let p = subst (Invokes table c.args.token c.args.state.buffer.ahead) c.in-Object.is i in
    h table (use_object table c.args.token c.args.state.buffer.ahead _ p.0 p.1)) c.replace-in-Object.ensures.new

pub returns-in-Object-clause-fault : goal.returns-in-Object-clause-fault
returns-in-Object-clause-fault c = IfErr-weaker c.replace-in-Object.result _ _ (λ fault h. λ table i.
    let p = subst (Invokes table c.args.token c.args.state.buffer.ahead) c.in-Object.is i in
    h table (use_object table c.args.token c.args.state.buffer.ahead _ p.0 p.1)) c.replace-in-Object.ensures.fault
