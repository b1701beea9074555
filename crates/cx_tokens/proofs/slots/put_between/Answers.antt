use Rattle.std.proofs.Common.{◌∙◌, ap, length, Some}
use Rattle.cx_tokens.specs.Shapes.Links.{changed_at, put_between, slot_of, with_next, with_previous}
use Rattle.cx_tokens.specs.Nodes.{new_node}
use Rattle.cx_tokens.proofs.LinkLaws.{changed_length, length_at, stored, within_same}
use Rattle.cx_tokens.proofs.slots.put_between.Goals as goal

pub lead_back-requires : goal.lead_back-requires
lead_back-requires c =
    let s = c.args.slots.now.items in
    let e = stored s c.replace_slot-free.new.slots.items c.args.number (slot_of (new_node c.args.number c.args.token) c.args.previous c.args.next) c.requires.number c.replace_slot-free.ensures.slots in
    within_same s c.lead_on.new.slots.items c.args.next
    (ap length c.lead_on.ensures ∙ length_at c.args.previous _ _ ∙ ap length e ∙ changed_length c.args.number _ s) c.requires.next

pub lead_on-requires : goal.lead_on-requires
lead_on-requires c =
    let s = c.args.slots.now.items in
    let e = stored s c.replace_slot-free.new.slots.items c.args.number (slot_of (new_node c.args.number c.args.token) c.args.previous c.args.next) c.requires.number c.replace_slot-free.ensures.slots in
    within_same s c.replace_slot-free.new.slots.items c.args.previous (ap length e ∙ changed_length c.args.number _ s) c.requires.previous

pub returns : goal.returns
unfolding put_between
returns c =
    let s = c.args.slots.now.items in
    let e = stored s c.replace_slot-free.new.slots.items c.args.number (slot_of (new_node c.args.number c.args.token) c.args.previous c.args.next) c.requires.number c.replace_slot-free.ensures.slots in
    c.lead_back.ensures
    ∙ ap (changed_at c.args.next (with_previous (Some c.args.number)))
    (c.lead_on.ensures ∙ ap (changed_at c.args.previous (with_next (Some c.args.number))) e)
