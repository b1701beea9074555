use Rattle.cx_macro.proofs.calls.proceed.Goals as goal

pub returns-in_ok-begin-clause-new : goal.returns-in_ok-begin-clause-new
returns-in_ok-begin-clause-new c = λ table. c.in_ok-begin.ensures table c.args.bound c.requires
