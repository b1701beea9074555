use Rattle.std.proofs.Common.{◌∙◌, ◌<◌, arith, length, sym}
use Rattle.cx_macro.proofs.DefinableLaws.{no_names, one_name, same_names}
use Rattle.cx_macro.proofs.definable.distinct_names.Goals as goal

pub loop-name-init : goal.loop-name-init
loop-name-init c = no_names _ c.new-set.ensures

pub returns-then-is_one_of : goal.returns-then-is_one_of
returns-then-is_one_of c =
    let below : c.loop-name.name-index < length c.args.names.now = omega arith in
    same_names c.loop-name.set c.as_slice.result.now c.args.names.now c.loop-name.name-index c.name-item.result c.is_one_of.result c.loop-name.invariant below
    (c.as_slice.ensures ∙ c.name-item.is) c.is_one_of.ensures c.if-is_one_of.true

pub loop-name-preserved : goal.loop-name-preserved
loop-name-preserved c =
    let below : c.loop-name.name-index < length c.args.names.now = omega arith in
    one_name c.loop-name.set _ _ c.as_slice.result.now c.in_ok-copy.copy c.args.names.now c.loop-name.name-index c.name-item.result c.is_one_of.result
    c.loop-name.invariant below (c.as_slice.ensures ∙ c.name-item.is) (c.in_ok-copy.ensures ∙ sym c.as_slice.ensures) c.is_one_of.ensures c.if-is_one_of.false
    c.in_ok-insert.ensures.ok
