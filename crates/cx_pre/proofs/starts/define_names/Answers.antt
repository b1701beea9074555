use Rattle.cx_pre.specs.Starts.{with_names}
use Rattle.cx_pre.proofs.StartLaws.{all_named, next_name}
use Rattle.cx_pre.proofs.starts.define_names.Goals as goal

pub loop-name-preserved : goal.loop-name-preserved
loop-name-preserved c =
    next_name c.loop-name.macros c.define_name.new.macros (with_names c.args.names.now c.args.macros.now) c.args.names.now c.loop-name.name-index c.name-item.result
    c.loop-name-test.true c.name-item.is c.loop-name.invariant c.in_ok-define_name.ensures

pub returns : goal.returns
returns c =
    all_named c.loop-name.macros (with_names c.args.names.now c.args.macros.now) c.args.names.now c.loop-name.name-index c.loop-name-test.false c.loop-name.invariant
