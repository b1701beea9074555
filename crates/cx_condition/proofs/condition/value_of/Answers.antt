use Rattle.std.proofs.lemmas.Result.{IfOk-weaker}
use Rattle.cx_condition.proofs.ValueLaws.{found_value, only_value}
use Rattle.cx_condition.proofs.condition.value_of.Goals as goal

pub returns-clause-found : goal.returns-clause-found
returns-clause-found c = IfOk-weaker c.computed.result _ _ (λ r e. found_value c.args.tokens.now r e) c.computed.ensures

pub returns-clause-only : goal.returns-clause-only
returns-clause-only c = λ t h. IfOk-weaker c.computed.result _ _ (λ r e. only_value c.args.tokens.now t r h e) c.computed.ensures
