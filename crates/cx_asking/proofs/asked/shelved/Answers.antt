use Rattle.std.proofs.Common.{◌≡◌, ℕ, List, Err, ap, refl, subst}
use Rattle.cx_lex.specs.Lexing.{Lexes, Outcome, piece_limit, too_long, unclosed_comment}
use Rattle.cx_asking.proofs.asked.shelved.Goals as goal

lexes_as : (n m : ℕ) (slice bytes : List ℕ) (outcome : Outcome) → n ≡ m → slice ≡ bytes → Lexes n piece_limit slice outcome → Lexes m piece_limit bytes outcome
lexes_as n m slice bytes outcome e f h =
    subst (λ b. Lexes m piece_limit b outcome) f (subst (λ k. Lexes k piece_limit slice outcome) e h)

pub returns-in-Err-UnclosedComment : goal.returns-in-Err-UnclosedComment
returns-in-Err-UnclosedComment c =
    let at = c.in-Err-UnclosedComment.at in (
      unclosed_comment at,
      refl,
      lexes_as c.in-Ok.number c.args.number c.as_slice.result.now c.args.bytes.now (unclosed_comment at) c.in-Ok.ensures.1 c.as_slice.ensures
          (c.in-Err-UnclosedComment.ensures.unclosed at (ap Err c.in-Err-UnclosedComment.field-0-is)),
    )

pub returns-in-Err-TooLong : goal.returns-in-Err-TooLong
returns-in-Err-TooLong c =
    let at = c.in-Err-TooLong.at in (
      too_long at,
      refl,
      lexes_as c.in-Ok.number c.args.number c.as_slice.result.now c.args.bytes.now (too_long at) c.in-Ok.ensures.1 c.as_slice.ensures
          (c.in-Err-TooLong.ensures.long at (ap Err c.in-Err-TooLong.field-0-is)),
    )
