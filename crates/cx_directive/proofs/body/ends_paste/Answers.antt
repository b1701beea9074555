use Rattle.std.proofs.Common.{◌∙◌}
use Rattle.cx_directive.proofs.BodyLaws.{last_paste}
use Rattle.cx_directive.proofs.body.ends_paste.Goals as goal

pub returns-in-Some : goal.returns-in-Some
returns-in-Some c = let i = c.in-Some.ensures.item in c.is_paste.ensures ∙ last_paste c.args.body.now c.in-Some.piece.now i.3.0 i.1
