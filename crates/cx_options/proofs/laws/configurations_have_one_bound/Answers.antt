use Rattle.cx_options.proofs.CommandLaws.{command_bound}
use Rattle.cx_options.proofs.laws.configurations_have_one_bound.Goals as goal

pub returns : goal.returns
returns c = command_bound
