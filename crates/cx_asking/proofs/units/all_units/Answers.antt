use Rattle.std.proofs.Common.{◌∙◌}
use Rattle.cx_asking.proofs.UnitLaws.{all_units_of}
use Rattle.cx_asking.proofs.units.all_units.Goals as goal

pub returns : goal.returns
returns c =
    all_units_of c.args.limits.now c.args.answers.now c.args.options.now c.as_slice.result.now c.in_ok-units.units c.into_vec.result.items
    (c.as_slice.ensures.value ∙ c.in_ok-paths.ensures) c.in_ok-units.ensures c.into_vec.ensures
