use Rattle.std.proofs.Common.{Err, ap, ◌∙◌}
use Rattle.std.proofs.lemmas.Result.{IfOk-weaker}
use Rattle.cx_pre.proofs.StartLaws.{long_line, open_line, whole_line}
use Rattle.cx_pre.proofs.starts.pieces_of_line.Goals as goal

pub returns-in-Ok : goal.returns-in-Ok
returns-in-Ok c = whole_line c.args.line.now c.in-Ok.lexed.pieces c.in-Ok.lexed.comments c.in-Ok.ensures.ok

pub returns-in-Err-UnclosedComment : goal.returns-in-Err-UnclosedComment
returns-in-Err-UnclosedComment c =
    IfOk-weaker c.front_pieces.result _ _
    (λ pieces f. open_line c.args.line.now c.in-Err-UnclosedComment.at pieces (c.lex.ensures.unclosed c.in-Err-UnclosedComment.at
    (c.in-Err-UnclosedComment.is ∙ ap Err c.in-Err-UnclosedComment.field-0-is)) f)
    c.front_pieces.ensures

pub returns-in-Err-TooLong : goal.returns-in-Err-TooLong
returns-in-Err-TooLong c =
    IfOk-weaker c.front_pieces-in-Err-TooLong.result _ _
    (λ pieces f. long_line c.args.line.now c.in-Err-TooLong.at pieces (c.lex.ensures.long c.in-Err-TooLong.at
    (c.in-Err-TooLong.is ∙ ap Err c.in-Err-TooLong.field-0-is)) f)
    c.front_pieces-in-Err-TooLong.ensures
