use Rattle.std.proofs.Common.{◌≡◌, drop}
use Rattle.cx_lex.specs.Shapes.Scanning.{longest, words_of}
use Rattle.cx_lex.proofs.punctuator.longest_of.Given as goal

abbrev pub invariant-loop-word : goal.invariant-loop-word
invariant-loop-word l =
    (longest (words_of (drop l.word-index l.words)) l.begin l.fn.cursor ≡ longest (words_of l.words) l.begin l.fn.cursor) × (l.cursor ≡ l.fn.cursor)
