use Rattle.std.proofs.Common.{◌<◌, arith, length, refl}
use Rattle.cx_macro.proofs.DefinableLaws.{no_names}
use Rattle.cx_macro.proofs.LookupLaws.{next_name}
use Rattle.cx_macro.proofs.lookup.table_of.Goals as goal

pub loop-name-init : goal.loop-name-init
loop-name-init c = no_names _ c.new-table.ensures

pub loop-name-preserved : goal.loop-name-preserved
loop-name-preserved c =
    let below : c.loop-name.name-index < length c.args.names.now = omega arith in
    next_name c.loop-name.table _ _ c.name-item.result c.in_ok-copy.copy c.args.names.now c.loop-name.name-index c.name-item.result c.requires
    c.loop-name.invariant below c.name-item.is c.in_ok-copy.ensures c.in_ok-insert.ensures.ok
