use Rattle.std.proofs.Common.{◌≡◌, ◌∙◌, arith}
use Rattle.std.proofs.lemmas.Result.{IfOk-weaker}
use Rattle.std.specs.List.{flat_map}
use Rattle.cx_asking.specs.Shapes.Steps.{member_wishes, with_units}
use Rattle.cx_asking.specs.Wishes.{given_wishes}
use Rattle.cx_asking.proofs.UnitLaws.{given_units}
use Rattle.cx_asking.proofs.units.add_given.Goals as goal

pub returns : goal.returns
returns c =
    IfOk-weaker c.add_members.result
    (λ r. r ≡ with_units c.args.limits.now.folders c.args.answers.now c.in_ok-units.units
    (flat_map (member_wishes c.saturating_sub-depth.result c.args.limits.now.folders c.args.answers.now) c.as_slice.result.now))
    (λ r. r ≡ with_units c.args.limits.now.folders c.args.answers.now c.args.units (given_wishes c.args.limits.now c.args.answers.now c.args.path.now))
    (λ r more. given_units c.args.limits.now c.args.answers.now c.args.path.now c.saturating_sub-depth.result c.args.units c.in_ok-units.units r
    c.as_slice.result.now c.in_ok-units.ensures (c.as_slice.ensures.value ∙ c.in_ok-members.ensures) (omega arith) more)
    c.add_members.ensures
