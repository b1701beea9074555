use Rattle.std.proofs.Common.{◌∙◌, ap, length, None}
use Rattle.cx_tokens.specs.Shapes.Links.{changed_at, free_slot, released, taken_between, with_mate, with_next, with_previous}
use Rattle.cx_tokens.proofs.LinkLaws.{changed_length, length_at, read_is, stored, within_same}
use Rattle.cx_tokens.proofs.slots.release.Goals as goal

pub lead_on-requires : goal.lead_on-requires
lead_on-requires c =
    let s = c.args.slots.now.items in
    let x = c.replace_slot-slot.result in
    let e = stored s c.replace_slot-slot.new.slots.items c.args.number (free_slot c.args.free) c.requires.number c.replace_slot-slot.ensures.slots in
    within_same s c.replace_slot-slot.new.slots.items x.previous (ap length e ∙ changed_length c.args.number _ s)
    (c.requires.links x (read_is s c.args.number x c.requires.number c.replace_slot-slot.ensures.old)).0

pub lead_back-requires : goal.lead_back-requires
lead_back-requires c =
    let s = c.args.slots.now.items in
    let x = c.replace_slot-slot.result in
    let e = stored s c.replace_slot-slot.new.slots.items c.args.number (free_slot c.args.free) c.requires.number c.replace_slot-slot.ensures.slots in
    within_same s c.lead_on.new.slots.items x.next
    (ap length c.lead_on.ensures ∙ length_at x.previous _ _ ∙ ap length e ∙ changed_length c.args.number _ s)
    (c.requires.links x (read_is s c.args.number x c.requires.number c.replace_slot-slot.ensures.old)).1

pub part-requires : goal.part-requires
part-requires c =
    let s = c.args.slots.now.items in
    let x = c.replace_slot-slot.result in
    let e = stored s c.replace_slot-slot.new.slots.items c.args.number (free_slot c.args.free) c.requires.number c.replace_slot-slot.ensures.slots in
    within_same s c.lead_back.new.slots.items x.partner
    (ap length c.lead_back.ensures ∙ length_at x.next _ _ ∙ ap length c.lead_on.ensures ∙ length_at x.previous _ _ ∙ ap length e ∙ changed_length c.args.number _ s)
    (c.requires.links x (read_is s c.args.number x c.requires.number c.replace_slot-slot.ensures.old)).2

pub returns-clause-is : goal.returns-clause-is
returns-clause-is c = read_is c.args.slots.now.items c.args.number c.replace_slot-slot.result c.requires.number c.replace_slot-slot.ensures.old

pub returns-clause-slots : goal.returns-clause-slots
unfolding released taken_between
returns-clause-slots c =
    let s = c.args.slots.now.items in
    let x = c.replace_slot-slot.result in
    let e = stored s c.replace_slot-slot.new.slots.items c.args.number (free_slot c.args.free) c.requires.number c.replace_slot-slot.ensures.slots in
    c.part.ensures
    ∙ ap (changed_at x.partner (with_mate None))
    (c.lead_back.ensures ∙ ap (changed_at x.next (with_previous x.previous)) (c.lead_on.ensures ∙ ap (changed_at x.previous (with_next x.next)) e))
