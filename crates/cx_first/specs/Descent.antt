-- What the reader's functions say of the front of tokens.
use Rattle.std.specs.Prelude.{◌≡◌, ℕ, zero, suc, ◌<◌, Bool, true, false, List, [], ◌∷◌, Option, None, Some, option_map}
use Rattle.cx_tokens.specs.declared.token.Token.{Token}
use Rattle.cx_first.specs.declared.tree.Operator.{Operator}
use Rattle.cx_first.specs.declared.terminals.Terminal.{Terminal}
use Rattle.cx_first.specs.declared.statements.Awaits.{Awaits}
use Rattle.cx_first.specs.declared.statements.Awaits.TheVariants as awaits
use Rattle.cx_first.specs.declared.terminals.Terminal.TheVariants as terminal_is
use Rattle.cx_first.specs.Terminals.{terminal}
use Rattle.cx_first.specs.Names.{Names}
use Rattle.cx_first.specs.Grammar.{operator_of, level_of, IsNew}

-- tokens with which no expression of operators up to a level goes on
abbrev pub Stops : ℕ → List Token → Type 0
Stops level [] = Unit {0}
Stops level (p ∷ rest) = (op : Operator) → operator_of (terminal p) ≡ Some op → level < level_of op

-- at the front stands this operator, of this level
pub record OperatorAt (level : ℕ) (tokens : List Token) (op : Operator) (p : Token)
    (rest : List Token) : Type 0 where
  pub whole : tokens ≡ p ∷ rest
  pub operator : operator_of (terminal p) ≡ Some op
  pub binds : level_of op ≡ level

abbrev pub NoOperator : ℕ → List Token → Type 0
NoOperator level tokens =
    (op : Operator) (p : Token) (rest : List Token) → OperatorAt level tokens op p rest → ⊥

-- at the front stands a token of this terminal
pub record TerminalAt (wanted : Terminal) (tokens rest : List Token) : Type 0 where
  pub token : Token
  pub whole : tokens ≡ token ∷ rest
  pub signed : terminal token ≡ wanted

abbrev pub NoTerminal : Terminal → List Token → Type 0
NoTerminal wanted tokens = (rest : List Token) → TerminalAt wanted tokens rest → ⊥

-- the marks that stand behind expressions, and never in them
unfoldable pub ends_expression : Terminal → Bool
ends_expression terminal_is.Comma = true
ends_expression terminal_is.Semicolon = true
ends_expression other = false

-- how many tokens stand before the first such mark, at most so many
abbrev pub one_more : Bool → ℕ → (ℕ → Option ℕ) → Option ℕ
one_more true left more = Some 0
one_more false zero more = None
one_more false (suc left) more = option_map suc (more left)

unfoldable pub ends_after : ℕ → List Token → Option ℕ
ends_after left [] = None
ends_after left (p ∷ rest) =
    one_more (ends_expression (terminal p)) left (λ fewer. ends_after fewer rest)

-- the body's last token, and nothing behind it
abbrev pub is_end : Terminal → Bool
is_end terminal_is.End = true
is_end other = false

unfoldable pub is_closed : Awaits → List Token → Bool
is_closed awaits.Statement (p ∷ []) = is_end (terminal p)
is_closed here tokens = false

-- at the front stands a name that may be declared
pub record NewNameAt (function : List ℕ) (names : Names) (tokens : List Token) (p : Token)
    (rest : List Token) : Type 0 where
  pub whole : tokens ≡ p ∷ rest
  pub named : terminal p ≡ terminal_is.Name
  pub fresh : IsNew function names p.text

abbrev pub NoNewName : List ℕ → Names → List Token → Type 0
NoNewName function names tokens =
    (p : Token) (rest : List Token) → NewNameAt function names tokens p rest → ⊥

-- at the front stands ( void ) {
pub record OpeningAt (tokens rest : List Token) : Type 0 where
  pub behind_open : List Token
  pub behind_void : List Token
  pub behind_close : List Token
  pub opening : TerminalAt terminal_is.Open tokens behind_open
  pub void : TerminalAt terminal_is.Void behind_open behind_void
  pub closing : TerminalAt terminal_is.Close behind_void behind_close
  pub beginning : TerminalAt terminal_is.Begin behind_close rest

abbrev pub NoOpening : List Token → Type 0
NoOpening tokens = (rest : List Token) → OpeningAt tokens rest → ⊥

-- the head of a function, its name and the tokens behind its first brace
pub record HeaderAt (tokens : List Token) (name : Token) (rest : List Token) : Type 0 where
  pub behind_int : List Token
  pub behind_name : List Token
  pub int : TerminalAt terminal_is.Int tokens behind_int
  pub named : behind_int ≡ name ∷ behind_name
  pub signed : terminal name ≡ terminal_is.Name
  pub opening : OpeningAt behind_name rest

abbrev pub NoHeader : List Token → Type 0
NoHeader tokens = (name : Token) (rest : List Token) → HeaderAt tokens name rest → ⊥
