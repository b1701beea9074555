use Rattle.std.proofs.Common.{subst, sym, ◌∙◌, IsSome}
use Rattle.cx_first.proofs.NodeLaws.{stuck_node}
use Rattle.cx_first.specs.Nodes.{node_of}
use Rattle.cx_first.specs.Tree.{source_of}
use Rattle.cx_unit.proofs.first.stuck_findings.Goals as goal

pub unreachable-requires : goal.unreachable-requires
unreachable-requires c =
    let there : IsSome (node_of (source_of c.args.text.now) c.args.statement c.args.node) =
    stuck_node (source_of c.args.text.now) c.args.statement c.args.node c.args.cause c.requires in
    let none = subst IsSome (sym c.in_ok-node.ensures ∙ c.in-None.is) there in
    cc
