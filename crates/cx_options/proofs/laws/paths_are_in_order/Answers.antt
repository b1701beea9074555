use Rattle.cx_options.proofs.CommandLaws.{command_paths}
use Rattle.cx_options.proofs.laws.paths_are_in_order.Goals as goal

pub returns : goal.returns
returns c = command_paths
