use Rattle.std.proofs.Common.{◌≡◌, ◌∙◌, ◌++◌, ◌∷◌, [], Some, ap, sym}
use Rattle.cx_unit.specs.Closures.{closure_fault, nothing, number_in, read_faults}
use Rattle.cx_unit.specs.Grounds.{ground_in}
use Rattle.cx_unit.specs.Units.{files_fault, plain_report, unit_files, unreadable_files}
use Rattle.cx_unit.proofs.UnitLaws.{faulty_told, none_read}
use Rattle.cx_unit.proofs.unit.unit_report.Goals as goal

pub returns-in-Some : goal.returns-in-Some
returns-in-Some c =
    let g = ground_in c.args.ground.now in
    let path = c.args.path.now in
    let slice = c.as_slice-files.result.now in
    let files : slice ≡ unit_files g path = c.as_slice-files.ensures.value ∙ c.in_ok-files.ensures in
    let number : c.in_ok-number.number ≡ number_in g.seen path = c.in_ok-number.ensures in
    let unread : c.in_ok-unread.unread ≡ unreadable_files g path =
    c.in_ok-unread.ensures ∙ ap (λ n. read_faults g.seen n slice) number ∙ ap (read_faults g.seen (number_in g.seen path)) files in
    let fault : files_fault g path ≡ Some c.in-Some.fault =
    sym (sym c.in-Some.is ∙ c.in_ok-fault.ensures ∙ ap (λ n. closure_fault g.limits g.seen g.faults n nothing slice) number
    ∙ ap (closure_fault g.limits g.seen g.faults (number_in g.seen path) nothing) files) in
    faulty_told g path c.in-Some.fault c.in_ok-plain_report-2.field-0
    (none_read c.in_ok-unread.unread (unreadable_files g path) c.len.result unread c.len.ensures c.if-len-gt0.false) fault
    (c.in_ok-plain_report-2.ensures
    ∙ ap (plain_report path) (c.in_ok-push.ensures.ok ∙ ap (λ fs. fs ++ c.in-Some.fault ∷ []) c.new-findings.ensures))
