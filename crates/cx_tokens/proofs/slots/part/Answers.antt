use Rattle.std.proofs.Common.{◌∙◌, sym, ap, subst, None}
use Rattle.cx_tokens.specs.Shapes.Links.{IsWithin, changed_at, with_mate}
use Rattle.cx_tokens.proofs.LinkLaws.{written}
use Rattle.cx_tokens.proofs.slots.part.Goals as goal

pub returns-in-Some : goal.returns-in-Some
unfolding changed_at
returns-in-Some c =
    written c.args.slots.now.items c.set_partner.new.slots.items c.in-Some.index (with_mate None) (subst (IsWithin c.args.slots.now.items) c.in-Some.is c.requires) c.set_partner.ensures
    ∙ ap (λ o. changed_at o (with_mate None) c.args.slots.now.items) (sym c.in-Some.is)
