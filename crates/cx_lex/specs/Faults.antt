-- The faults of a source (C11 5.1.1.2, phase 3; 5.2.4.1).
use Rattle.std.specs.Prelude.{◌≡◌, ℕ, List}
use Rattle.cx_lex.specs.declared.lexer.LexFault.{LexFault}
use Rattle.cx_lex.specs.declared.lexer.LexFault.TheVariants.{UnclosedComment, TooLong, NoMemory}
use Rattle.cx_lex.specs.Lexing.{Lexes, Outcome, too_long, unclosed_comment}

-- the outcome that a fault tells of; where memory ran out it tells of none
abbrev pub IsFaultOf : LexFault → Outcome → Type 0
IsFaultOf (UnclosedComment at) outcome = outcome ≡ unclosed_comment at
IsFaultOf (TooLong at) outcome = outcome ≡ too_long at
IsFaultOf NoMemory outcome = Unit {0}

-- a fault is that of a text
abbrev pub HasFault : ℕ → ℕ → List ℕ → LexFault → Type 0
HasFault file limit text (UnclosedComment at) = Lexes file limit text (unclosed_comment at)
HasFault file limit text (TooLong at) = Lexes file limit text (too_long at)
HasFault file limit text NoMemory = Unit {0}
