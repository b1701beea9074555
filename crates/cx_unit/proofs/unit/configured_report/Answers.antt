use Rattle.std.proofs.Common.{◌≡◌, ◌∙◌, ap}
use Rattle.cx_configs.specs.Configurations.{configurations}
use Rattle.cx_unit.specs.Grounds.{ground_in}
use Rattle.cx_unit.specs.Told.{findings_of}
use Rattle.cx_unit.specs.Units.{configurations_of, shelf_number}
use Rattle.cx_unit.proofs.UnitLaws.{configured_told}
use Rattle.cx_unit.proofs.unit.configured_report.Goals as goal

pub returns : goal.returns
returns c =
    let g = ground_in c.args.ground.now in
    let path = c.args.path.now in
    let number : c.in-Ok.number ≡ shelf_number g path = c.in-Ok.ensures.1 ∙ c.file_number.ensures in
    let configs : c.as_slice-configs.result.now ≡ configurations_of g path =
    c.as_slice-configs.ensures ∙ c.in_ok-configs.ensures ∙ ap (λ k. configurations g.shelf k g.options g.macros) number in
    configured_told g path c.in-Ok.number c.as_slice-configs.result.now number configs c.requires.read c.requires.sound c.in-Some.tolds
    (record { progress = c.in_ok-progress_lines.field-0; findings = c.in_ok-findings_of.field-0 })
    (rw c.in-Some.is at c.in_ok-tolds.ensures) c.in_ok-progress_lines.ensures
    (c.in_ok-findings_of.ensures ∙ ap findings_of c.as_slice.ensures)
