use Rattle.cx_options.proofs.CommandLaws.{command_warns}
use Rattle.cx_options.proofs.laws.style_includes_warning.Goals as goal

pub returns : goal.returns
returns c = command_warns
