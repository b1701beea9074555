use Rattle.std.proofs.Common.{◌≡◌, ◌-◌, ◌∙◌}
use Rattle.std.proofs.lemmas.Result.{IfOk-weaker}
use Rattle.std.specs.List.{flat_map}
use Rattle.cx_asking.specs.Shapes.Steps.{member_wishes, subfolder_wishes, with_units}
use Rattle.cx_asking.proofs.UnitLaws.{no_wishes, subfolder_units, too_deep, units_next}
use Rattle.cx_asking.proofs.units.+units.Goals as goal

pub add_members-loop-member-init : goal.add_members-loop-member-init
add_members-loop-member-init t c = no_wishes c.args.most c.args.answers.now c.args.units

pub add_members-loop-member-preserved : goal.add_members-loop-member-preserved
add_members-loop-member-preserved t c =
    units_next c.args.most c.args.answers.now (member_wishes c.args.depth c.args.most c.args.answers.now) c.args.units c.loop-member.units c.in_ok-units.units
    c.args.members.now c.loop-member.member-index c.member-item.result c.loop-member.invariant c.loop-member-test.true c.member-item.is
    c.in_ok-units.ensures

pub add_subfolder-returns-then-depth-eq0 : goal.add_subfolder-returns-then-depth-eq0
add_subfolder-returns-then-depth-eq0 t c =
    too_deep c.args.most c.args.answers.now c.args.depth c.args.path.now c.args.units c.if-depth-eq0.true

pub add_subfolder-returns : goal.add_subfolder-returns
add_subfolder-returns t c =
    IfOk-weaker c.add_members.result
    (λ r. r ≡ with_units c.args.most c.args.answers.now c.in_ok-units.units
    (flat_map (member_wishes (c.args.depth - 1) c.args.most c.args.answers.now) c.as_slice.result.now))
    (λ r. r ≡ with_units c.args.most c.args.answers.now c.args.units (subfolder_wishes c.args.depth c.args.most c.args.answers.now c.args.path.now))
    (λ r more. subfolder_units c.args.most c.args.answers.now c.args.depth c.args.path.now c.entries_among.result.now c.args.units c.in_ok-units.units r
    c.as_slice.result.now c.if-depth-eq0.false c.in_ok-units.ensures (c.as_slice.ensures.value ∙ c.in_ok-members.ensures) c.entries_among.ensures more)
    c.add_members.ensures
