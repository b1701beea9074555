use Rattle.std.proofs.Common.{◌≡◌}
use Rattle.cx_first.specs.declared.tree.Expr.TheVariants.{Binary}
use Rattle.cx_first.proofs.NodeLaws.{push_binary}
use Rattle.cx_first.proofs.nodes.+push_text.Goals as goal

pub returns-in_ok-push_symbol-in-Binary : goal.returns-in_ok-push_symbol-in-Binary
returns-in_ok-push_symbol-in-Binary t c =
    let left = c.get-in-Binary.result.now in
    let right = c.get-in-Binary-2.result.now in
    let is : c.args.expr.now ≡ Binary c.in-Binary.operator c.in-Binary.at left right = cc in
    push_binary c.args.names.now c.args.expr.now c.in-Binary.operator c.in-Binary.at left right c.args.text.now
    c.push_text-in-Binary.new.text c.push_symbol.new.text c.push_text-in-Binary-2.new.text c.push_text-in-Binary-2.result is
    c.in_ok-push_text-in-Binary.ensures c.in_ok-push_symbol-in-Binary.ensures c.push_text-in-Binary-2.ensures
