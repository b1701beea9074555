use Rattle.std.proofs.Common.{take}
use Rattle.std.specs.List.{AllZip}
use Rattle.cx_finding.specs.Shapes.Keys as keys
use Rattle.cx_finding.proofs.key.word_keys.Given as goal

abbrev pub invariant-loop-word : goal.invariant-loop-word
invariant-loop-word l = AllZip keys.IsWordKey (take l.word-index l.words) l.keys.items
