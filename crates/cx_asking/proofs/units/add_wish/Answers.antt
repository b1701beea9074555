use Rattle.std.proofs.Common.{◌≡◌, sym, ◌∙◌, [], ◌∷◌, bytes_eq, unwrap_or}
use Rattle.std.proofs.lemmas.Result.{IfOk-weaker}
use Rattle.std.specs.Option.{option_copied}
use Rattle.cx_base.specs.declared.answers.Answer.TheVariants.{Absent}
use Rattle.indexmap.specs.IndexSet.{insert_key}
use Rattle.cx_asking.specs.Shapes.Steps.{with_units}
use Rattle.cx_asking.specs.Wishes.{wish}
use Rattle.cx_asking.proofs.UnitLaws.{no_unit, unit_added}
use Rattle.cx_asking.proofs.units.add_wish.Goals as goal

pub returns-then-makes_unit : goal.returns-then-makes_unit
returns-then-makes_unit c =
    IfOk-weaker c.with.result (λ r. r ≡ insert_key bytes_eq c.args.units c.args.path.now)
    (λ r. r ≡ with_units c.args.most c.args.answers.now c.args.units (wish c.args.purpose c.args.path.now ∷ []))
    (λ r added. unit_added c.args.most c.args.answers.now c.args.units c.args.purpose c.args.path.now (unwrap_or (option_copied c.answer_for.result) Absent) r
    c.answer_for.ensures (sym c.makes_unit.ensures ∙ c.if-makes_unit.true) added) c.with.ensures

pub returns-else-makes_unit : goal.returns-else-makes_unit
returns-else-makes_unit c =
    no_unit c.args.most c.args.answers.now c.args.units c.args.purpose c.args.path.now (unwrap_or (option_copied c.answer_for.result) Absent)
    c.answer_for.ensures (sym c.makes_unit.ensures ∙ c.if-makes_unit.false)
