use Rattle.std.proofs.Common.{◌∙◌, sym}
use Rattle.cx_tokens.proofs.GoneLaws.{joined_second}
use Rattle.cx_tokens.proofs.SweepSteps.{run_out, sweeps_run}
use Rattle.cx_tokens.proofs.simplify.put_run.Goals as goal

pub unwrap-second-requires : goal.unwrap-second-requires
unwrap-second-requires c = joined_second c.args.node c.args.run.last c.args.list.now.nodes c.args.run.text c.args.run.parts c.next.result c.requires.run.0 c.next.ensures.node

pub take_out-requires-clause-from_live : goal.take_out-requires-clause-from_live
take_out-requires-clause-from_live c =
    (run_out c.args.list.now.nodes c.set_text.new.self.nodes c.args.node c.args.run.last c.unwrap-second.result c.args.run.text c.args.run.parts c.are_numbered.ensures.distinct c.requires.live c.requires.run.0 c.set_text.ensures
    (sym c.unwrap-second.ensures ∙ c.next.ensures.node)).second_live

pub take_out-requires-clause-to_live : goal.take_out-requires-clause-to_live
take_out-requires-clause-to_live c =
    (run_out c.args.list.now.nodes c.set_text.new.self.nodes c.args.node c.args.run.last c.unwrap-second.result c.args.run.text c.args.run.parts c.are_numbered.ensures.distinct c.requires.live c.requires.run.0 c.set_text.ensures
    (sym c.unwrap-second.ensures ∙ c.next.ensures.node)).last_live

pub take_out-requires-clause-order : goal.take_out-requires-clause-order
take_out-requires-clause-order c =
    (run_out c.args.list.now.nodes c.set_text.new.self.nodes c.args.node c.args.run.last c.unwrap-second.result c.args.run.text c.args.run.parts c.are_numbered.ensures.distinct c.requires.live c.requires.run.0 c.set_text.ensures
    (sym c.unwrap-second.ensures ∙ c.next.ensures.node)).order

pub returns : goal.returns
returns c = λ s k.
    sweeps_run c.args.list.now.nodes c.set_text.new.self.nodes c.take_out.new.list.nodes c.args.node c.args.run.last c.unwrap-second.result c.args.run.text c.args.run.parts c.take_out.result c.are_numbered.ensures.distinct c.requires.live
    c.requires.run c.set_text.ensures (sym c.unwrap-second.ensures ∙ c.next.ensures.node) c.take_out.ensures.nodes c.take_out.ensures.next s k
