use Rattle.std.proofs.Common.{◌∙◌, sym}
use Rattle.cx_lex.specs.Shapes.Scanning.{longest, table}
use Rattle.cx_lex.proofs.Texts.{other_front, punct_front}
use Rattle.cx_lex.proofs.front.punctuator_or_byte.Goals as goal

pub returns-in_default-clause-front : goal.returns-in_default-clause-front
returns-in_default-clause-front c =
    other_front c.args.begin c.args.cursor.now (longest table c.args.begin c.args.cursor.now) c.in_ok-text-2.text (sym c.in_ok-text.ensures.text ∙ c.in_default.is) c.in_ok-text-2.ensures

pub returns-clause-front : goal.returns-clause-front
returns-clause-front c = punct_front c.args.begin c.args.cursor.now c.in-Some.text (sym c.in_ok-text.ensures.text ∙ c.in-Some.is)
