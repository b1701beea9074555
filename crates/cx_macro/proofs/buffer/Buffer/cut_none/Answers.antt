use Rattle.std.proofs.Common.{arith}
use Rattle.cx_macro.proofs.SegmentLaws as laws
use Rattle.cx_macro.proofs.buffer.Buffer.cut_none.Goals as goal

pub returns-then-inner-gt0 : goal.returns-then-inner-gt0
returns-then-inner-gt0 c = λ b found counted hides. (b, found, laws.some_given b.inner (omega arith))

pub returns : goal.returns
returns c = λ b found counted hides.
    laws.cut_none c.args.self.now c.pop.new.self c.in_ok-_closing._closing c.args.hide b c.in_ok-_closing.ensures found (omega arith) hides
