use Rattle.std.proofs.Common.{[], ap, sym, subst, subst₂, ◌∙◌, ◌<◌, ◌≤◌, length, ◌∷◌, ◌++◌}
use Rattle.cx_lex.specs.Shapes.After.{after_comment, after_piece}
use Rattle.cx_lex.specs.declared.lexer.Lexed.{Lexed}
use Rattle.cx_lex.specs.Shapes.Fronts.{element_at, rest_of}
use Rattle.cx_lex.specs.Lexing.{lexed, too_long, unclosed_comment}
use Rattle.cx_lex.specs.Lines.{file_characters, file_start}
use Rattle.cx_lex.proofs.ElementSound.{element_sound}
use Rattle.cx_lex.proofs.GoesLaws.{lexes_goes}
use Rattle.cx_lex.proofs.Onward.{Onward, comment_smaller, onward_comment, onward_end, onward_long, onward_open, onward_piece, onward_separator, onward_start, piece_smaller, separator_smaller}
use Rattle.cx_lex.proofs.Well.{well_characters}
use Rattle.cx_lex.proofs.lexer.elements.Goals as goal

pub elements-init : goal.elements-init
elements-init c =
    let all = file_characters c.args.file c.args.bytes.now in
    subst (λ (l : Lexed). Onward all c.new-cursor.result c.args.limit c.at_start-before.result l.pieces l.comments) (sym c.new-lexed.ensures)
    (subst₂ (λ cs b. Onward all cs c.args.limit b [] []) (sym c.new-cursor.ensures) (sym c.at_start-before.ensures)
    (onward_start all c.args.limit (well_characters c.args.bytes.now (file_start c.args.file))))

pub returns-in-AtEnd : goal.returns-in-AtEnd
returns-in-AtEnd c =
    lexes_goes c.args.file c.args.limit c.args.bytes.now (lexed _ _)
    (onward_end _ c.elements.cursor c.args.limit c.elements.before _ _ (element_at c.elements.before.directive c.elements.cursor) c.elements.invariant
    (element_sound c.elements.before c.elements.cursor c.elements.invariant.well)
    (sym c.in-AtEnd.is ∙ c.in_ok-front_element.ensures.front))

pub returns-in-OpenComment : goal.returns-in-OpenComment
returns-in-OpenComment c =
    lexes_goes c.args.file c.args.limit c.args.bytes.now (unclosed_comment c.in-OpenComment.at)
    (onward_open _ c.elements.cursor c.args.limit c.elements.before _ _ (element_at c.elements.before.directive c.elements.cursor) c.in-OpenComment.at c.elements.invariant
    (element_sound c.elements.before c.elements.cursor c.elements.invariant.well)
    (sym c.in-OpenComment.is ∙ c.in_ok-front_element.ensures.front))

pub returns-then-len-limit : goal.returns-then-len-limit
returns-then-len-limit c =
    lexes_goes c.args.file c.args.limit c.args.bytes.now (too_long c.in-OfPiece.at)
    (onward_long _ c.elements.cursor c.args.limit c.elements.before _ _ (element_at c.elements.before.directive c.elements.cursor) c.in-OfPiece.at c.in-OfPiece.kind c.in-OfPiece.spelled c.elements.invariant
    (element_sound c.elements.before c.elements.cursor c.elements.invariant.well)
    (sym c.in-OfPiece.is ∙ c.in_ok-front_element.ensures.front)
    (subst (λ n. c.args.limit ≤ n) c.len.ensures c.if-len-limit.true))

pub elements-smaller-in-Separator : goal.elements-smaller-in-Separator
elements-smaller-in-Separator c =
    subst (λ t. length t < length c.elements.cursor) (sym c.in_ok-front_element.ensures.rest)
    (separator_smaller c.elements.before c.elements.cursor (element_at c.elements.before.directive c.elements.cursor) c.in-Separator.newline
    (element_sound c.elements.before c.elements.cursor c.elements.invariant.well)
    (sym c.in-Separator.is ∙ c.in_ok-front_element.ensures.front))

pub elements-preserved-in-Separator : goal.elements-preserved-in-Separator
elements-preserved-in-Separator c =
    subst₂ (λ cs b. Onward (file_characters c.args.file c.args.bytes.now) cs c.args.limit b c.elements.lexed.pieces c.elements.lexed.comments)
    (sym c.in_ok-front_element.ensures.rest) (sym c.after_separator-before.ensures)
    (onward_separator _ c.elements.cursor c.args.limit c.elements.before _ _ (element_at c.elements.before.directive c.elements.cursor) c.in-Separator.newline c.elements.invariant
    (element_sound c.elements.before c.elements.cursor c.elements.invariant.well)
    (sym c.in-Separator.is ∙ c.in_ok-front_element.ensures.front))

pub elements-smaller-in-OfComment : goal.elements-smaller-in-OfComment
elements-smaller-in-OfComment c =
    subst (λ t. length t < length c.elements.cursor) (sym c.in_ok-front_element.ensures.rest)
    (comment_smaller c.elements.before c.elements.cursor (element_at c.elements.before.directive c.elements.cursor) c.in-OfComment.place c.in-OfComment.text
    (element_sound c.elements.before c.elements.cursor c.elements.invariant.well)
    (sym c.in-OfComment.is ∙ c.in_ok-front_element.ensures.front))

pub elements-preserved-in-OfComment : goal.elements-preserved-in-OfComment
elements-preserved-in-OfComment c =
    let o =
    onward_comment _ c.elements.cursor c.args.limit c.elements.before _ _ (element_at c.elements.before.directive c.elements.cursor) c.in-OfComment.place c.in-OfComment.text
    c.elements.invariant
    (element_sound c.elements.before c.elements.cursor c.elements.invariant.well)
    (sym c.in-OfComment.is ∙ c.in_ok-front_element.ensures.front) in
    subst₂ (λ cs b. Onward (file_characters c.args.file c.args.bytes.now) cs c.args.limit b c.elements.lexed.pieces c.push.new.self)
    (sym c.in_ok-front_element.ensures.rest) (sym c.after_comment-before.ensures)
    (subst
    (λ ks. Onward (file_characters c.args.file c.args.bytes.now) (rest_of (element_at c.elements.before.directive c.elements.cursor)) c.args.limit (after_comment c.elements.before) c.elements.lexed.pieces ks)
    (sym (c.in_ok-push-in-OfComment.ensures.ok ∙ ap (λ k. c.elements.lexed.comments ++ k ∷ []) c.comment_of.ensures)) o)

pub elements-smaller : goal.elements-smaller
elements-smaller c =
    subst (λ t. length t < length c.elements.cursor) (sym c.in_ok-front_element.ensures.rest)
    (piece_smaller c.elements.before c.elements.cursor (element_at c.elements.before.directive c.elements.cursor) c.in-OfPiece.at c.in-OfPiece.kind c.in-OfPiece.spelled
    (element_sound c.elements.before c.elements.cursor c.elements.invariant.well)
    (sym c.in-OfPiece.is ∙ c.in_ok-front_element.ensures.front))

pub elements-preserved : goal.elements-preserved
elements-preserved c =
    let o =
    onward_piece _ c.elements.cursor c.args.limit c.elements.before _ _ (element_at c.elements.before.directive c.elements.cursor) c.in-OfPiece.at c.in-OfPiece.kind
    c.in-OfPiece.spelled c.elements.invariant
    (element_sound c.elements.before c.elements.cursor c.elements.invariant.well)
    (sym c.in-OfPiece.is ∙ c.in_ok-front_element.ensures.front)
    (subst (λ n. n < c.args.limit) c.len.ensures c.if-len-limit.false) in
    subst (λ cs. Onward (file_characters c.args.file c.args.bytes.now) cs c.args.limit c.after_piece-next.result c.push-in-OfPiece.new.self c.elements.lexed.comments)
    (sym c.in_ok-front_element.ensures.rest)
    (subst₂
    (λ b ps. Onward (file_characters c.args.file c.args.bytes.now) (rest_of (element_at c.elements.before.directive c.elements.cursor)) c.args.limit b ps c.elements.lexed.comments)
    (sym (c.after_piece-next.ensures ∙ ap (after_piece c.elements.before c.in-OfPiece.kind) c.as_slice.ensures))
    (sym (c.in_ok-push-in-OfPiece.ensures.ok ∙ ap (λ p. c.elements.lexed.pieces ++ p ∷ []) c.in_ok-piece-in-OfPiece.ensures)) o)
