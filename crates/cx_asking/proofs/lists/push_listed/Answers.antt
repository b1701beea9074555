use Rattle.std.proofs.Common.{subst, sym}
use Rattle.std.proofs.lemmas.Iterator.Consumers.{YieldsList-from_first, YieldsList-turn}
use Rattle.std.proofs.lemmas.Str.{IsUtf8-from_is_utf8}
use Rattle.std.specs.Prelude.{IsTrue, length}
use Rattle.std.specs.Str.{is_utf8}
use Rattle.cx_asking.specs.Lists.{lines}
use Rattle.cx_asking.proofs.lists.push_listed.Goals as goal

pub loop-line-preserved-in_default : goal.loop-line-preserved-in_default
loop-line-preserved-in_default c =
    let t = YieldsList-turn (YieldsList-from_first (λ x. x.now) (λ rest. rest) (lines c.args.bytes.now) cc) c.loop-line.yielded _ c.loop-line.yielded_by _ _ c.in-Some.line c.in-Some.is c.next.ensures.steps in
    absurd (c.in_default.ensures.cases.0
    (IsUtf8-from_is_utf8 c.in-Some.line.now
    (subst (λ line. IsTrue (is_utf8 line)) (sym t.1) (c.requires (length c.loop-line.yielded) c.in-Some.line.now t.0))))
