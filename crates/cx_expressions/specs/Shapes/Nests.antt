-- A function value that reads what nests.
use Rattle.std.specs.Prelude.{ℕ, List, Result}
use Rattle.std.specs.declared.alloc.Global.{Global}
use denote.Ref.{MutBor}
use Rattle.cx_syntax_tree.specs.declared.terminals.Lexeme.{Lexeme}
use Rattle.cx_reading.specs.declared.refusal.Refusal.{Refusal}
use Rattle.cx_reading.specs.Parsing.{Parser, Reads}

pub record Nests {A : Type 0} (p : Parser A) (depth : ℕ)
    (pre : Global → MutBor (List Lexeme) → ℕ → Type 0)
    (post : Global → MutBor (List Lexeme) → ℕ → Result A Refusal → MutBor (List Lexeme) → Type 0)
    : Type 0 where
  pub callable : (alloc : Global) (old : MutBor (List Lexeme)) → pre alloc old depth
  pub reads : (alloc : Global) (old new : MutBor (List Lexeme)) (r : Result A Refusal)
      → post alloc old depth r new → Reads (p old.now) r new.now
