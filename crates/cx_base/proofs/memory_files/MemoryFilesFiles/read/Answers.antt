use Rattle.cx_base.specs.declared.file_calls.FileRequest.TheVariants.{Read}
use Rattle.cx_base.proofs.CauseLaws.{fail_cause, note_cause}
use Rattle.cx_base.proofs.memory_files.MemoryFilesFiles.read.Goals as goal

pub returns-then-next_fails-clause-cause : goal.returns-then-next_fails-clause-cause
returns-then-next_fails-clause-cause c =
    fail_cause c.args.self.now c.fail.new.self c.args.path.now (Read c.args.most) c.fail.result c.fail.ensures

pub returns-clause-cause : goal.returns-clause-cause
returns-clause-cause c =
    note_cause c.args.self.now c.note.new.self c.args.path.now (Read c.args.most) c.in_ok-note.ensures.ok
