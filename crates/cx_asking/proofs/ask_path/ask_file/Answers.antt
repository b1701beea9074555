use Rattle.std.proofs.Common.{Ok, subst}
use Rattle.cx_base.specs.Outside.{ReadTells}
use Rattle.cx_asking.proofs.AnswerLaws.{read_answer}
use Rattle.cx_asking.proofs.ask_path.ask_file.Goals as goal

pub returns-in-Ok-Some-clause-answer : goal.returns-in-Ok-Some-clause-answer
returns-in-Ok-Some-clause-answer g c =
    read_answer c.args.limits.now c.args.others c.in-Ok-Some.bytes c.args.path.now c.kept_or_large.result
    (g.F.Files.state c.args.files.now) (g.F.Files.state c.read.new.self) c.kept_or_large.ensures
    (subst (λ o. ReadTells (g.F.Files.state c.args.files.now) (g.F.Files.state c.read.new.self) c.args.path.now c.args.limits.now.read (Ok o))
    c.in-Ok-Some.field-0-is c.in-Ok-Some.ensures.tells)
    c.in-Ok-Some.ensures.cause
