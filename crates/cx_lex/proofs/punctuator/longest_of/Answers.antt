use Rattle.std.proofs.Common.{◌∙◌, ap, sym, Some}
use Rattle.cx_lex.specs.Shapes.Scanning.{found_rest, found_word}
use Rattle.cx_lex.proofs.Behinds.{end_at, here_at, later_at}
use Rattle.cx_lex.proofs.punctuator.longest_of.Goals as goal

pub returns-in-Some-clause-rest : goal.returns-in-Some-clause-rest
returns-in-Some-clause-rest c =
    sym (ap (found_rest c.args.cursor.now)
    (here_at c.args.words.now c.loop-word.word-index c.args.begin c.loop-word.cursor c.args.cursor.now c.in-Some.rest _ c.loop-word-test.true c.loop-word.invariant c.in-Some.ensures))

pub returns-in-Some-clause-text : goal.returns-in-Some-clause-text
returns-in-Some-clause-text c =
    ap Some c.in_ok-text.ensures
    ∙ sym (ap found_word
    (here_at c.args.words.now c.loop-word.word-index c.args.begin c.loop-word.cursor c.args.cursor.now c.in-Some.rest _ c.loop-word-test.true c.loop-word.invariant c.in-Some.ensures))

pub loop-word-preserved : goal.loop-word-preserved
loop-word-preserved c =
    later_at c.args.words.now c.loop-word.word-index c.args.begin c.loop-word.cursor c.args.cursor.now _ c.loop-word-test.true c.loop-word.invariant c.in_default.ensures

pub returns-clause-rest : goal.returns-clause-rest
returns-clause-rest c =
    c.loop-word.invariant.1
    ∙ sym (ap (found_rest c.args.cursor.now) (end_at c.args.words.now c.loop-word.word-index c.args.begin c.loop-word.cursor c.args.cursor.now _ c.loop-word-test.false c.loop-word.invariant))

pub returns-clause-text : goal.returns-clause-text
returns-clause-text c =
    sym (ap found_word (end_at c.args.words.now c.loop-word.word-index c.args.begin c.loop-word.cursor c.args.cursor.now _ c.loop-word-test.false c.loop-word.invariant))
