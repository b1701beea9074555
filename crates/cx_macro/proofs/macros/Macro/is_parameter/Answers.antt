use Rattle.std.proofs.Common.{arith}
use Rattle.std.proofs.lemmas.Grind.{common_steps}
use Rattle.cx_macro.specs.Made.{definition_by}
use Rattle.cx_macro.proofs.DefinableLaws.{parameter_is}
use Rattle.cx_macro.proofs.macros.Macro.is_parameter.Goals as goal

pub returns-then-is_one_of : goal.returns-then-is_one_of
returns-then-is_one_of c = grind (arith, common_steps, parameter_is (definition_by c.args.self.now) c.args.token.now c.args.names.now c.requires)

pub returns-then-self : goal.returns-then-self
returns-then-self c = grind (arith, common_steps, parameter_is (definition_by c.args.self.now) c.args.token.now c.args.names.now c.requires)

pub returns-else-self : goal.returns-else-self
returns-else-self c = grind (arith, common_steps, parameter_is (definition_by c.args.self.now) c.args.token.now c.args.names.now c.requires)

pub returns-else-is_name : goal.returns-else-is_name
returns-else-is_name c = grind (arith, common_steps, parameter_is (definition_by c.args.self.now) c.args.token.now c.args.names.now c.requires)
