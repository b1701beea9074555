use Rattle.std.proofs.Common.{◌∙◌, ap, arith}
use Rattle.std.specs.Option.{option_map}
use Rattle.cx_options.specs.Spellings.{by_row, is_spelt}
use Rattle.cx_options.specs.Shapes.Rows.{row_of}
use Rattle.cx_options.proofs.SpellingLaws.{found_as, found_here, found_nowhere}
use Rattle.cx_options.proofs.spelling.spelt_in.Goals as goal

pub returns-in-Some : goal.returns-in-Some
returns-in-Some c =
    found_as c.args.word.now c.args.options.now
    ∙ ap (option_map (λ row. by_row c.args.word.now (row_of row)))
    (found_here (λ row. is_spelt c.args.word.now (row_of row)) c.args.options.now c.loop-spelling.spelling-index _ c.loop-spelling-test.true c.loop-spelling.invariant c.in-Some.ensures.0)
    ∙ cc (c.in-Some.ensures.1)

pub returns : goal.returns
returns c =
    found_as c.args.word.now c.args.options.now
    ∙ ap (option_map (λ row. by_row c.args.word.now (row_of row)))
    (found_nowhere (λ row. is_spelt c.args.word.now (row_of row)) c.args.options.now c.loop-spelling.spelling-index (omega arith) c.loop-spelling.invariant)
