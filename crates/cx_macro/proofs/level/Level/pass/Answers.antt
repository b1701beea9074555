use Rattle.std.proofs.Common.{refl}
use Rattle.cx_macro.proofs.level.Level.pass.Goals as goal

pub returns-then-pass_alone : goal.returns-then-pass_alone
returns-then-pass_alone c = c.if-pass_alone.ensures.passed refl
