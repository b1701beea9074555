use Rattle.std.proofs.Common.{◌≡◌, ◌++◌, ap, arith, drop, length, ◌∙◌}
use Rattle.cx_run.specs.Findings.{with_findings}
use Rattle.cx_run.specs.Reports.{finding_pieces}
use Rattle.cx_run.proofs.PieceLaws.{pieces_end, pieces_next, told_next}
use Rattle.cx_run.proofs.pieces.push_units.Goals as goal

pub loop-unit-preserved : goal.loop-unit-preserved
loop-unit-preserved c =
    let options = c.args.options.now in
    let files = c.args.files.now in
    let units = c.args.units.now in
    let progress = c.push_progress.new.pieces in
    let told : c.in_ok-told.told ≡ with_findings c.loop-unit.told c.unit-item.result.findings =
    c.in_ok-told.ensures ∙ ap (with_findings c.loop-unit.told) c.as_slice.ensures in
    let found : c.push_new.new.pieces ≡ progress ++ finding_pieces options files (drop (length c.loop-unit.told) c.in_ok-told.told) =
    c.in_ok-push_new.ensures
    ∙ ap (λ l. progress ++ finding_pieces options files (drop (length l) c.as_slice-in-loop-unit.result.now)) c.as_slice-before.ensures
    ∙ ap (λ l. progress ++ finding_pieces options files (drop (length c.loop-unit.told) l)) c.as_slice-in-loop-unit.ensures in (
      pieces_next options files c.loop-unit.told units c.loop-unit.unit-index c.unit-item.result c.loop-unit-test.true c.unit-item.is
          c.loop-unit.pieces progress c.push_new.new.pieces _ c.in_ok-told.told c.loop-unit.invariant.0 c.in_ok-push_progress.ensures told found,
      told_next options files c.loop-unit.told units c.loop-unit.unit-index c.unit-item.result c.loop-unit-test.true c.unit-item.is
          c.in_ok-told.told _ c.loop-unit.invariant.1 told,
    )

pub returns-clause-pieces : goal.returns-clause-pieces
returns-clause-pieces c =
    pieces_end c.args.options.now c.args.files.now c.loop-unit.told c.args.units.now c.loop-unit.unit-index c.loop-unit.pieces _
    (omega (arith, c.loop-unit-test.false)) c.loop-unit.invariant.0
