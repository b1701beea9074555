use Rattle.std.proofs.Common.{ap}
use Rattle.std.proofs.lemmas.Result.{IfErr-weaker, IfOk-weaker}
use Rattle.cx_macro.proofs.ProgressLaws.{resume_fails, resumes}
use Rattle.cx_macro.proofs.calls.resume.Goals as goal

pub returns-clause-new : goal.returns-clause-new
returns-clause-new c = IfOk-weaker c.proceed.result _ _ (λ new h. λ table.
    resumes table c.args.bound c.args.laid c.args.buffer c.advance.new.self c.args.done c.args.call _ c.args.calls new (ap (λ x. record c.args.call { expanded = x }) c.in_ok-push.ensures.ok)
    c.in_ok-advance.ensures.done c.in_ok-advance.ensures.next (h table))
    c.proceed.ensures.new

pub returns-clause-fault : goal.returns-clause-fault
returns-clause-fault c = IfErr-weaker c.proceed.result _ _ (λ fault h. λ table.
    resume_fails table c.args.bound c.args.laid c.args.buffer c.advance.new.self c.args.done c.args.call _ c.args.calls fault (ap (λ x. record c.args.call { expanded = x }) c.in_ok-push.ensures.ok)
    c.in_ok-advance.ensures.done c.in_ok-advance.ensures.next (h table))
    c.proceed.ensures.fault
