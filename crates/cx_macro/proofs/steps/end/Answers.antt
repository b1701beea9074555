use Rattle.std.proofs.Common.{refl}
use Rattle.cx_macro.proofs.ProgressLaws.{step_ends, step_resumes}
use Rattle.cx_macro.proofs.steps.end.Goals as goal

pub returns-in-None-clause-new : goal.returns-in-None-clause-new
returns-in-None-clause-new c = λ table.
    step_ends table c.args.bound c.args.state c.args.state.buffer c.into_list.result c.requires.within refl c.requires.none c.in-None.ensures.0
    c.into_list.ensures.tokens c.into_list.ensures.partners

pub returns-clause-new : goal.returns-clause-new
returns-clause-new c = λ table.
    step_resumes table c.args.bound c.args.state _ c.args.state.buffer c.in-Some.call c.pop.new.self refl c.requires.none
    c.in-Some.ensures (c.in_ok-resume-in-Some.ensures.new table)
