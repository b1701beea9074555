use Rattle.cx_tokens.proofs.GoneLaws.{gone_live}
use Rattle.cx_tokens.proofs.SweepSteps.{sweeps_gone}
use Rattle.cx_tokens.proofs.simplify.step.Goals as goal

pub take_out-requires-clause-to_live : goal.take_out-requires-clause-to_live
take_out-requires-clause-to_live c = gone_live c.args.node c.in-Some.end c.args.list.now.nodes c.requires.live c.in-Some.ensures

pub returns-in-Some-clause-swept : goal.returns-in-Some-clause-swept
returns-in-Some-clause-swept c =
    sweeps_gone c.args.list.now.nodes c.take_out.new.list.nodes c.args.node c.in-Some.end c.take_out.result c.in-Some.ensures c.take_out.ensures.nodes c.take_out.ensures.next
