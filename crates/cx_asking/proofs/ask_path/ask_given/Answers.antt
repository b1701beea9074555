use Rattle.cx_asking.proofs.AnswerLaws.{given_cuts, given_files, given_unreadable}
use Rattle.cx_asking.proofs.ask_path.ask_given.Goals as goal

pub returns-in-Ok-None-clause-answer : goal.returns-in-Ok-None-clause-answer
returns-in-Ok-None-clause-answer g c =
    given_files c.args.limits.now c.args.others c.args.path.now c.ask_file.result
    (g.F.Files.state c.args.files.now) (g.F.Files.state c.list.new.self) (g.F.Files.state c.ask_file.new.files)
    c.in-Ok-None.field-0 c.in-Ok-None.field-0-is c.in-Ok-None.ensures.tells c.in-Ok-None.ensures.cause c.ask_file.ensures.file c.ask_file.ensures.answer

pub returns-in-Ok-None-clause-cut : goal.returns-in-Ok-None-clause-cut
returns-in-Ok-None-clause-cut g c =
    given_cuts c.args.limits.now c.args.others c.args.path.now c.ask_file.result
    (g.F.Files.state c.args.files.now) (g.F.Files.state c.list.new.self) (g.F.Files.state c.ask_file.new.files)
    c.in-Ok-None.field-0 c.in-Ok-None.field-0-is c.in-Ok-None.ensures.tells c.in-Ok-None.ensures.cause c.ask_file.ensures.cut

pub returns-in-Err-Failed-clause-answer : goal.returns-in-Err-Failed-clause-answer
returns-in-Err-Failed-clause-answer g c =
    given_unreadable c.args.limits.now c.args.others c.args.path.now
    (g.F.Files.state c.args.files.now) (g.F.Files.state c.list.new.self)
    c.in-Err-Failed.field-0 c.in-Err-Failed.field-0-is c.in-Err-Failed.ensures.tells c.in-Err-Failed.ensures.cause
