use Rattle.std.proofs.Common.{◌≡◌, ◌++◌, arith, length, reverse, subst, sym}
use Rattle.cx_items.specs.Shapes.Ends.{Walks}
use Rattle.cx_items.proofs.StackLaws.{ended, none_left, stopped, walked}
use Rattle.cx_items.proofs.cuts.walk.Goals as goal

pub loop-entry-preserved : goal.loop-entry-preserved
loop-entry-preserved c more finished h =
    subst (λ s. Walks (reverse c.args.entries.items) (s ++ more) finished) (sym c.in_ok-push.ensures.ok)
    (walked c.args.entries.items c.loop-entry.left.items c.pop.new.self.items c.in-Some.entry c.in-Some-behind.behind c.loop-entry.starts
    c.in-Some.ensures.items c.in-Some-behind.is c.loop-entry.invariant more finished
    (subst (λ es. Walks (reverse es) more finished) c.truncate.ensures.items h))

pub returns-in-None : goal.returns-in-None
returns-in-None c =
    subst (λ s. Walks (reverse c.args.entries.items) s _) (sym c.in_ok-push.ensures.ok)
    (stopped c.args.entries.items c.loop-entry.left.items c.pop.new.self.items c.in-Some.entry c.loop-entry.starts
    c.in-Some.ensures.items c.in-None.is c.loop-entry.invariant)

pub returns : goal.returns
returns c =
    let none : length c.loop-entry.left.items ≡ 0 = omega (arith, c.in_default.ensures.cases.0) in
    ended c.args.entries.items c.loop-entry.left.items c.loop-entry.starts (none_left c.loop-entry.left.items none) c.loop-entry.invariant
