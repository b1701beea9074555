use Rattle.std.proofs.Common.{◌≡◌, ℕ, ◌≤◌, List, ◌++◌, take, drop, length, arith, refl, sym, subst, ◌∙◌}
use Rattle.cx_base.proofs.PlaceLaws.{found_less, found_equal, found_greater, found_end}
use Rattle.cx_base.specs.declared.answers.Entry.{Entry}
use Rattle.cx_base.specs.Shapes.Members.{added}
use Rattle.cx_base.proofs.members.place_of.Goals as goal

-- a walk that ended stands at the end
finish : (entry : Entry) (entries : List Entry) (at : ℕ) → at ≤ length entries → length entries ≤ at
    → added entry entries ≡ take at entries ++ added entry (drop at entries)
    → added entry entries ≡ take (length entries) entries ++ added entry (drop (length entries) entries)
finish entry entries at most least so_far =
    let e : at ≡ length entries = omega arith in
    subst (λ n. added entry entries ≡ take n entries ++ added entry (drop n entries)) e so_far

pub returns-in-Less : goal.returns-in-Less
returns-in-Less c =
    (omega arith, found_less c.args.entry.now c.index-entries-at.result c.args.entries.now c.loop-at.at c.loop-at-test.true c.index-entries-at.is (sym c.entry_order.ensures ∙ c.in-Less.is) c.loop-at.invariant)

pub returns-in-Equal : goal.returns-in-Equal
returns-in-Equal c =
    found_equal c.args.entry.now c.index-entries-at.result c.args.entries.now c.loop-at.at c.loop-at-test.true c.index-entries-at.is (sym c.entry_order.ensures ∙ c.in-Equal.is) c.loop-at.invariant

pub loop-at-preserved : goal.loop-at-preserved
loop-at-preserved c =
    found_greater c.args.entry.now c.index-entries-at.result c.args.entries.now c.loop-at.at c.loop-at-test.true c.index-entries-at.is (sym c.entry_order.ensures ∙ c.in-Greater.is) c.loop-at.invariant

pub returns : goal.returns
returns c = (omega arith, found_end c.args.entry.now c.args.entries.now _ refl (finish c.args.entry.now c.args.entries.now c.loop-at.at c.loop-at.auto.at-end c.loop-at-test.false c.loop-at.invariant))
