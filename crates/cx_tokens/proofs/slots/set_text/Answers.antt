use Rattle.std.proofs.lemmas.Option.{slice_get_within}
use Rattle.cx_tokens.specs.Shapes.Links.{with_slot_text}
use Rattle.cx_tokens.proofs.LinkLaws.{written}
use Rattle.cx_tokens.proofs.slots.set_text.Goals as goal

pub set_slot_text-requires : goal.set_slot_text-requires
set_slot_text-requires c = let r = c.requires in slice_get_within c.args.slots.now.items c.args.number r.0 r.2

pub returns : goal.returns
returns c =
    let r = c.requires in
    written c.args.slots.now.items c.set_slot_text.new.slots.items c.args.number (with_slot_text c.args.text c.args.parts) (slice_get_within c.args.slots.now.items c.args.number r.0 r.2) c.set_slot_text.ensures
