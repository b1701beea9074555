use Rattle.cx_finding.specs.Shapes.Keys as keys
use Rattle.cx_finding.proofs.KeyLaws.{zip_next}
use Rattle.cx_finding.proofs.key.word_keys.Goals as goal

pub loop-word-preserved : goal.loop-word-preserved
loop-word-preserved c =
    zip_next keys.IsWordKey c.args.words.now c.loop-word.keys.items _ _ _ c.in_ok-word_key.field-0 c.loop-word-test.true
    c.word-item.is c.loop-word.invariant c.in_ok-word_key.ensures c.in_ok-push.ensures.items
