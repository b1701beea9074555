use Rattle.cx_tree.proofs.ValueLaws.{gives_values}
use Rattle.cx_tree.proofs.laws.results.Goals as goal

pub returns : goal.returns
returns c = gives_values
