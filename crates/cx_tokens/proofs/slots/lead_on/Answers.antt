use Rattle.std.proofs.Common.{◌∙◌, sym, ap, subst}
use Rattle.cx_tokens.specs.Shapes.Links.{IsWithin, changed_at, with_next}
use Rattle.cx_tokens.proofs.LinkLaws.{written}
use Rattle.cx_tokens.proofs.slots.lead_on.Goals as goal

pub returns-in-Some : goal.returns-in-Some
unfolding changed_at
returns-in-Some c =
    written c.args.slots.now.items c.set_next.new.slots.items c.in-Some.index (with_next c.args.next) (subst (IsWithin c.args.slots.now.items) c.in-Some.is c.requires) c.set_next.ensures
    ∙ ap (λ o. changed_at o (with_next c.args.next) c.args.slots.now.items) (sym c.in-Some.is)
