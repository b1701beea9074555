use Rattle.cx_tokens.specs.Shapes.Links.{with_mate}
use Rattle.cx_tokens.proofs.LinkLaws.{written}
use Rattle.cx_tokens.proofs.slots.set_mate.Goals as goal

pub returns : goal.returns
returns c = written c.args.slots.now.items c.set_partner.new.slots.items c.args.number (with_mate c.args.partner) c.requires c.set_partner.ensures
