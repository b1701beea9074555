use Rattle.std.proofs.Common.{◌∙◌, ◌==◌, ◌||◌, ap, arith, false, get_or}
use Rattle.cx_macro.proofs.RoleLaws.{set_one, unset_more}
use Rattle.cx_macro.proofs.roles.set_flag.Goals as goal

pub loop-flags-preserved : goal.loop-flags-preserved
loop-flags-preserved c = λ i.
    ap (λ xs. get_or xs i false) c.in_ok-push.ensures.items ∙ (unset_more c.loop-flags.flags.items i ∙ c.loop-flags.invariant i)

pub returns : goal.returns
returns c = λ i.
    set_one c.loop-flags.flags.items c.args.index i (omega arith) ∙ ap (λ x. (i == c.args.index) || x) (c.loop-flags.invariant i)
