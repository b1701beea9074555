-- What the lexer's answer says of a text.
use Rattle.std.proofs.Common.{◌≡◌, ℕ, List, Result, Ok, Err, IfOk, MatchResult, subst}
use Rattle.cx_lex.specs.declared.lexer.Lexed.{Lexed}
use Rattle.cx_lex.specs.declared.lexer.LexFault.{LexFault}
use Rattle.cx_lex.specs.declared.lexer.LexFault.TheVariants.{UnclosedComment, TooLong, NoMemory}
use Rattle.cx_lex.specs.Faults.{HasFault, IsFaultOf}
use Rattle.cx_lex.specs.Lexing.{Lexes, Outcome, lexed, too_long, unclosed_comment}
use Rattle.cx_lex.proofs.Outcomes.{one_outcome_of}

-- the answer is that of a text
abbrev pub Answers : ℕ → ℕ → List ℕ → Result Lexed LexFault → Type 0
Answers file limit text answer = MatchResult answer (λ l. Lexes file limit text (lexed l.pieces l.comments)) (HasFault file limit text)

pub answers_ok : (file limit : ℕ) (text : List ℕ) (answer : Result Lexed LexFault) → Answers file limit text answer
    → IfOk answer (λ l. Lexes file limit text (lexed l.pieces l.comments))
answers_ok file limit text (Ok l) h = h
answers_ok file limit text (Err fault) h = tt

pub answers_fault : (file limit : ℕ) (text : List ℕ) (answer : Result Lexed LexFault) (fault : LexFault) → Answers file limit text answer → answer ≡ Err fault
    → HasFault file limit text fault
answers_fault file limit text answer fault h e = subst (Answers file limit text) e h

pub answers_only : (file limit : ℕ) (text : List ℕ) (answer : Result Lexed LexFault) → Answers file limit text answer → (outcome : Outcome) → Lexes file limit text outcome
    → MatchResult answer (λ l. outcome ≡ lexed l.pieces l.comments) (λ fault. IsFaultOf fault outcome)
answers_only file limit text (Ok l) h outcome o = one_outcome_of file limit text outcome (lexed l.pieces l.comments) o h
answers_only file limit text (Err (UnclosedComment at)) h outcome o = one_outcome_of file limit text outcome (unclosed_comment at) o h
answers_only file limit text (Err (TooLong at)) h outcome o = one_outcome_of file limit text outcome (too_long at) o h
answers_only file limit text (Err NoMemory) h outcome o = tt
