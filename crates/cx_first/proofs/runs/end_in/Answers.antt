use Rattle.std.proofs.Common.{◌≡◌, ◌<◌, length, get_or, refl, arith, ap}
use Rattle.cx_first.specs.Tree.{source_of}
use Rattle.cx_first.proofs.RunLaws.{reaches_start}
use Rattle.cx_first.proofs.StepLaws.{small_at, goes_behind, goes_out, comes_out, goes_nowhere}
use Rattle.cx_first.proofs.runs.end_in.Goals as goal

pub loop-statement-init : goal.loop-statement-init
loop-statement-init c = record {
  items = c.as_slice-statement-items.ensures;
  number = refl;
  reaches = rw c.requires.empty (reaches_start (source_of c.args.text.now));
}

pub step-requires : goal.step-requires
step-requires c =
    let e : c.statement-item.result ≡ get_or c.args.text.now.statements c.loop-statement.number c.statement-item.result = cc in
    let h : c.loop-statement.number < length c.args.text.now.statements = omega (arith, ap length c.loop-statement.invariant.items) in
    small_at c.args.text.now c.loop-statement.number c.statement-item.result h e c.requires.numbered

pub returns-in-Ended : goal.returns-in-Ended
returns-in-Ended c =
    let e : c.statement-item.result ≡ get_or c.args.text.now.statements c.loop-statement.number c.statement-item.result = cc in
    let h : c.loop-statement.number < length c.args.text.now.statements = omega (arith, ap length c.loop-statement.invariant.items) in
    goes_out c.args.text.now c.loop-statement.number c.loop-statement.memory.items c.statement-item.result h e c.loop-statement.invariant.reaches c.in-Ended.ensures

pub returns-in-Nowhere : goal.returns-in-Nowhere
returns-in-Nowhere c =
    let e : c.statement-item.result ≡ get_or c.args.text.now.statements c.loop-statement.number c.statement-item.result = cc in
    let h : c.loop-statement.number < length c.args.text.now.statements = omega (arith, ap length c.loop-statement.invariant.items) in
    goes_nowhere c.args.text.now c.loop-statement.number c.loop-statement.memory.items c.statement-item.result c.in-Nowhere.node c.in-Nowhere.cause h e c.loop-statement.invariant.reaches c.in-Nowhere.ensures

pub loop-statement-preserved : goal.loop-statement-preserved
loop-statement-preserved c =
    let e : c.statement-item.result ≡ get_or c.args.text.now.statements c.loop-statement.number c.statement-item.result = cc in
    let h : c.loop-statement.number < length c.args.text.now.statements = omega (arith, ap length c.loop-statement.invariant.items) in
    record {
      items = c.loop-statement.invariant.items;
      number = cc;
      reaches = goes_behind c.args.text.now c.loop-statement.number c.loop-statement.memory.items c.step.new.memory.items c.statement-item.result h e c.loop-statement.invariant.reaches c.in-Behind.ensures;
    }

pub returns : goal.returns
returns c =
    let same = ap length c.loop-statement.invariant.items in
    comes_out c.args.text.now c.loop-statement.number c.loop-statement.memory.items (omega (arith, same)) (omega (arith, same)) c.loop-statement.invariant.reaches
