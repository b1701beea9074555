use Rattle.std.proofs.Common.{◌∙◌, sym, ap, subst}
use Rattle.cx_tokens.specs.Shapes.Links.{IsWithin, changed_at, with_previous}
use Rattle.cx_tokens.proofs.LinkLaws.{written}
use Rattle.cx_tokens.proofs.slots.lead_back.Goals as goal

pub returns-in-Some : goal.returns-in-Some
unfolding changed_at
returns-in-Some c =
    written c.args.slots.now.items c.set_previous.new.slots.items c.in-Some.index (with_previous c.args.previous) (subst (IsWithin c.args.slots.now.items) c.in-Some.is c.requires) c.set_previous.ensures
    ∙ ap (λ o. changed_at o (with_previous c.args.previous) c.args.slots.now.items) (sym c.in-Some.is)
