use Rattle.cx_expressions.proofs.FuelLaws.{expr_within, deeper, expr_depth}
use Rattle.cx_expressions.proofs.laws.deeper.Goals as goal

pub returns : goal.returns
returns c = record {
  more = λ low high ts rest x h r. expr_within (deeper low high h).assign ts x rest r;
  some_depth = λ ts rest x r. let d = expr_depth ts x rest r in (d.depth, d.reads);
}
