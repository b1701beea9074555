use Rattle.cx_pre.proofs.StartLaws.{all_made, next_made}
use Rattle.cx_pre.proofs.starts.define_all.Goals as goal

pub loop-made-preserved : goal.loop-made-preserved
loop-made-preserved c =
    next_made c.loop-made.macros c.define_one.new.macros c.args.macros.now c.args.defines.now c.loop-made.made-index c.made-item.result
    c.loop-made-test.true c.made-item.is c.loop-made.invariant c.in_ok-define_one.ensures

pub returns : goal.returns
returns c = all_made c.loop-made.macros c.args.macros.now c.args.defines.now c.loop-made.made-index c.loop-made-test.false c.loop-made.invariant
