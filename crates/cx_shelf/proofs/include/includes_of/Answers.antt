use Rattle.cx_shelf.proofs.IncludeLaws.{all_names}
use Rattle.cx_shelf.proofs.include.includes_of.Goals as goal

pub returns : goal.returns
returns c =
    all_names c.args.lexed.now.pieces c.loop-line.pieces.now c.loop-line.names c.in_default.ensures.lines c.loop-line.invariant
