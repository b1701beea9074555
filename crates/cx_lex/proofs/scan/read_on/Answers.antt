use Rattle.std.proofs.Common.{sym, subst}
use Rattle.cx_lex.proofs.Scans.{ReadsOn, reads_more}
use Rattle.cx_lex.proofs.scan.read_on.Goals as goal

pub loop-next-preserved : goal.loop-next-preserved
loop-next-preserved c =
    let r = subst (λ cs. ReadsOn c.loop-next.text c.loop-next.end cs c.args.so_far c.args.begin c.args.cursor.now) c.in-Some.ensures c.loop-next.invariant.0 in (
      subst (λ text. ReadsOn text c.in-Some-step.more c.next.new.self c.args.so_far c.args.begin c.args.cursor.now) (sym c.in_ok-push.ensures.ok)
          (reads_more _ _ _ _ _ _ _ _ r (sym c.in-Some-step.ensures)),
      c.copy.ensures,
    )
