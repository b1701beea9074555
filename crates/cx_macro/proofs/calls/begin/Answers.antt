use Rattle.std.proofs.Common.{◌≡◌, [], cond, ap, subst, refl}
use Rattle.cx_macro.specs.Shapes.Substitutes.{is_raw}
use Rattle.cx_macro.specs.Shapes.Steps.{macro_in, wanted_argument}
use Rattle.cx_macro.proofs.ProgressLaws.{begins}
use Rattle.cx_macro.proofs.calls.begin.Goals as goal

pub returns : goal.returns
returns c = λ table bound le.
    let d = macro_in c.args.call in
    begins table bound c.args.laid c.args.buffer c.args.call _ c.args.calls _ c.in_ok-kept.kept le c.requires
    (subst (λ n. c.in_ok-kept.kept ≡ cond (is_raw d n) c.args.buffer.ahead []) c.len-index.ensures c.in_ok-kept.ensures)
    (ap (λ x. record c.args.call { raw = x }) c.in_ok-push.ensures.ok) refl c.in_ok-take_unwanted.ensures.done c.new.ensures
    (subst (λ n. c.take_unwanted.new.buffer.ahead ≡ wanted_argument d n c.args.buffer.ahead) c.len-index.ensures c.in_ok-take_unwanted.ensures.ahead)
    c.in_ok-take_unwanted.ensures.more c.in_ok-push-2.ensures.ok
