use Rattle.std.proofs.Common.{Some, subst}
use Rattle.cx_macro.specs.Shapes.Frames.{IsAfter}
use Rattle.cx_macro.proofs.CallLaws.{cuts_absent, cuts_present}
use Rattle.cx_macro.proofs.arguments.variable.Goals as goal

pub returns-in-None : goal.returns-in-None
returns-in-None c = λ behind end h. cuts_absent behind (subst (λ o. IsAfter o behind end) c.in-None.is h)

pub returns-in-Some : goal.returns-in-Some
returns-in-Some c = λ behind end h.
    let a : IsAfter (Some c.in-Some.text) behind end = subst (λ o. IsAfter o behind end) c.in-Some.is h in
    cuts_present behind a.0 _ a.1 (c.len.ensures a.0 end a.2)
