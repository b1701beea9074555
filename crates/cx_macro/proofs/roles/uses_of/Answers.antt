use Rattle.std.proofs.Common.{◌∙◌, ap}
use Rattle.cx_macro.specs.Replacement.{positions_of}
use Rattle.cx_macro.proofs.RoleLaws.{uses_begin, uses_end, uses_more}
use Rattle.cx_macro.proofs.roles.uses_of.Goals as goal

pub loop-position-init : goal.loop-position-init
loop-position-init c =
    uses_begin c.args.lookup.now _ _ _ _ c.new-roles.ensures.items c.new-expanded.ensures.items c.new-raw.ensures.items
    (c.of-positions.ensures ∙ ap positions_of c.body.ensures)

pub loop-position-preserved : goal.loop-position-preserved
loop-position-preserved c =
    uses_more c.args.lookup.now c.loop-position.roles.items _ c.loop-position.expanded.items _ c.loop-position.raw.items _ c.loop-position.positions _ _ _
    c.loop-position.invariant c.in-Some.ensures c.role_of-role.ensures c.in_ok-note_expanded.ensures c.in_ok-note_raw.ensures c.in_ok-push.ensures.items

pub returns : goal.returns
returns c = uses_end c.args.lookup.now _ c.loop-position.positions c.loop-position.invariant c.in_default.ensures
