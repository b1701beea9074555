use Rattle.cx_pre.specs.Choosing.{Does, once_more}
use Rattle.cx_pre.specs.Stages.{through}
use Rattle.std.proofs.Common.{◌≡◌, ◌+◌, arith, suc, subst}
use Rattle.cx_pre.proofs.laws.once_is_enough.Goals as goal

pub returns : goal.returns
returns c = λ shelf depth file other s line target k t f o.
    let e : suc depth ≡ depth + 1 = omega (arith) in
    subst (λ d. Does shelf d file s line (through s)) e (once_more target other k t f o)
