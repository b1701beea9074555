use Rattle.std.proofs.Common.{subst}
use Rattle.cx_macro.specs.Shapes.Frames.{IsAfter}
use Rattle.cx_macro.proofs.CallLaws.{cuts_exact, cuts_variable}
use Rattle.cx_macro.proofs.arguments.with_variable.Goals as goal

pub returns-then-variadic : goal.returns-then-variadic
returns-then-variadic c = λ after end i.
    λ text raw h.
    cuts_variable c.args.variadic c.args.nothing _ (record { arguments = raw; after = after }) c.args.named.segments.items c.push.new.self.items text c.variable.result
    c.if-variadic.true (c.is_left_out-left_out.ensures after end i) h (c.variable.ensures after end i) c.in_ok-push.ensures.items

pub returns-in-None : goal.returns-in-None
returns-in-None c = λ after end i.
    λ text raw h. cuts_exact c.args.variadic c.args.nothing raw after c.args.named.segments.items text c.if-variadic.false
    (subst (λ o. IsAfter o after end) c.in-None.is i) h
