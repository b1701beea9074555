use Rattle.cx_pre.specs.Choosing.{extent_in}
use Rattle.cx_pre.specs.Starts.{in_file}
use Rattle.cx_pre.proofs.SomeLaws.{some_outcome as law}
use Rattle.cx_pre.proofs.ValueLaws.{some_value}
use Rattle.cx_pre.proofs.laws.some_outcome.Goals as goal

pub returns : goal.returns
returns c = λ shelf depth file s le.
    let o = law some_value shelf depth file (extent_in shelf file).fault (in_file shelf file s) (extent_in shelf file).front le in
    (o.outcome, o.comes)
