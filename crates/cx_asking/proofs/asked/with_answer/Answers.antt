use Rattle.cx_asking.proofs.IndexLaws.{fault_stands, file_stands, no_file_put, other_answer}
use Rattle.cx_asking.proofs.asked.with_answer.Goals as goal

pub returns-in_default : goal.returns-in_default
returns-in_default c =
    no_file_put c.args.number c.args.shelf c.args.path.now c.args.answer.now (other_answer c.args.answer.now c.in_default.not-Present)

pub returns-in_ok-shelf-in-Ok : goal.returns-in_ok-shelf-in-Ok
returns-in_ok-shelf-in-Ok c =
    file_stands c.args.number c.args.shelf c.in_ok-shelf-in-Ok.shelf c.args.path.now c.in-Present.bytes c.args.answer.now
    c.in_ok-file.field-0 c.in-Ok.file c.in-Present.is c.in_ok-file.ensures c.in-Ok.is c.in_ok-shelf-in-Ok.ensures

pub returns-in-Err : goal.returns-in-Err
returns-in-Err c =
    fault_stands c.args.number c.args.shelf c.args.path.now c.in-Present.bytes c.args.answer.now
    c.in_ok-file.field-0 c.in-Err.fault c.in-Present.is c.in_ok-file.ensures c.in-Err.is
