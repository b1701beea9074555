use Rattle.cx_first.proofs.NodeLaws.{stuck_node, stuck_fits}
use Rattle.cx_first.proofs.nodes.stuck_at_a_node.Goals as goal

pub returns-clause-node : goal.returns-clause-node
returns-clause-node c = stuck_node

pub returns-clause-fits : goal.returns-clause-fits
returns-clause-fits c = stuck_fits
