-- Expressions (C11 6.5 and annex A.2.1), open in what nests in brackets and behind operators.
use Rattle.std.specs.Prelude.{◌≡◌, ℕ, zero, suc, List, [], ◌∷◌, Option, Some}
use Rattle.cx_syntax_tree.specs.declared.terminals.Keyword.TheVariants as word
use Rattle.cx_syntax_tree.specs.declared.terminals.Punctuator.TheVariants as mark
use Rattle.cx_syntax_tree.specs.declared.terminals.Terminal.TheVariants as terminal_is
use Rattle.cx_syntax_tree.specs.declared.terminals.Lexeme.{Lexeme}
use Rattle.cx_syntax_tree.specs.declared.expressions.UnaryOperator.{UnaryOperator}
use Rattle.cx_syntax_tree.specs.declared.expressions.Step.{Step}
use Rattle.cx_syntax_tree.specs.declared.expressions.BinaryOperator.{BinaryOperator}
use Rattle.cx_syntax_tree.specs.declared.expressions.AssignOperator.{AssignOperator}
use Rattle.cx_syntax_tree.specs.declared.expressions.NameAt.{NameAt}
use Rattle.cx_syntax_tree.specs.declared.expressions.TreeType.{TreeType}
use Rattle.cx_syntax_tree.specs.declared.expressions.CommaAssign.{CommaAssign, roll-CommaAssign}
use Rattle.cx_syntax_tree.specs.declared.expressions.TreeExpr.{TreeExpr, roll-TreeExpr}
use Rattle.cx_syntax_tree.specs.declared.expressions.TreeArguments.{TreeArguments, roll-TreeArguments}
use Rattle.cx_syntax_tree.specs.declared.expressions.TreeAssign.{TreeAssign}
use Rattle.cx_syntax_tree.specs.declared.expressions.TreeAssign.TheVariants as assign_is
use Rattle.cx_syntax_tree.specs.declared.expressions.TreeCond.{TreeCond}
use Rattle.cx_syntax_tree.specs.declared.expressions.TreeCond.TheVariants as cond_is
use Rattle.cx_syntax_tree.specs.declared.expressions.TreeLor.{TreeLor}
use Rattle.cx_syntax_tree.specs.declared.expressions.TreeLor.TheVariants as lor_is
use Rattle.cx_syntax_tree.specs.declared.expressions.TreeLink.{TreeLink, roll-TreeLink}
use Rattle.cx_syntax_tree.specs.declared.expressions.TreeCast.{TreeCast}
use Rattle.cx_syntax_tree.specs.declared.expressions.TreeCast.TheVariants as cast_is
use Rattle.cx_syntax_tree.specs.declared.expressions.TreeUnary.{TreeUnary}
use Rattle.cx_syntax_tree.specs.declared.expressions.TreeUnary.TheVariants as unary_is
use Rattle.cx_syntax_tree.specs.declared.expressions.TreePostfix.{TreePostfix, roll-TreePostfix}
use Rattle.cx_syntax_tree.specs.declared.expressions.TreeSuffix.{TreeSuffix}
use Rattle.cx_syntax_tree.specs.declared.expressions.TreeSuffix.TheVariants as suffix_is
use Rattle.cx_syntax_tree.specs.declared.expressions.TreeHead.{TreeHead}
use Rattle.cx_syntax_tree.specs.declared.expressions.TreeHead.TheVariants as head_is
use Rattle.cx_terminals.specs.Terminals.{Is, IsWord, IsName}
use Rattle.cx_expressions.specs.Operators.{unary_operator, step_of, binary_operator, level_of, assign_operator}
use Rattle.cx_reading.specs.Rules.{Relation, Never, Many, Maybe, AfterComma}
use Rattle.cx_reading.specs.Types.{IsType, IsTagName, named}

-- a comma and an assignment
abbrev pub comma_assign : ℕ → TreeAssign → CommaAssign
comma_assign at a = roll-CommaAssign (record { comma = at; assign = a })

-- Expr (C11 6.5.17): Assign {"," Assign}
pub data IsExpr (Assign : Relation TreeAssign) : List Lexeme → TreeExpr → List Lexeme → Type 0 where
  an_expr : {ts mid rest : List Lexeme} {first : TreeAssign} {more : List CommaAssign}
      {t : TreeExpr} → Assign ts first mid
      → Many (AfterComma comma_assign Assign) mid more rest
      → t ≡ roll-TreeExpr (record { first = first; more = more }) → IsExpr Assign ts t rest

-- the arguments of a call (C11 6.5.2.2): Assign {"," Assign}
pub data IsArguments (Assign : Relation TreeAssign)
    : List Lexeme → TreeArguments → List Lexeme → Type 0 where
  arguments : {ts mid rest : List Lexeme} {first : TreeAssign} {more : List CommaAssign}
      {t : TreeArguments} → Assign ts first mid
      → Many (AfterComma comma_assign Assign) mid more rest
      → t ≡ roll-TreeArguments (record { first = first; more = more })
      → IsArguments Assign ts t rest

-- an operator of this level and its right operand
pub data IsLink (Operand : Relation TreeLor) (level : ℕ)
    : List Lexeme → TreeLink → List Lexeme → Type 0 where
  a_link : {p : Lexeme} {ts rest : List Lexeme} {op : BinaryOperator} {x : TreeLor} {t : TreeLink}
      → binary_operator p.terminal ≡ Some op → level_of op ≡ level → Operand ts x rest
      → t ≡ roll-TreeLink (record { operator = op; at = p.at; operand = x })
      → IsLink Operand level (p ∷ ts) t rest

-- an operand alone, or a chain from left to right
abbrev pub chained : TreeLor → List TreeLink → TreeLor
chained first [] = first
chained first (link ∷ links) = lor_is.Chain first (link ∷ links)

pub data IsChain (Operand : Relation TreeLor) (level : ℕ)
    : List Lexeme → TreeLor → List Lexeme → Type 0 where
  a_chain : {ts mid rest : List Lexeme} {first t : TreeLor} {links : List TreeLink}
      → Operand ts first mid → Many (IsLink Operand level) mid links rest
      → t ≡ chained first links → IsChain Operand level ts t rest

-- what nests: the operands of casts, unary operators, conditionals and assignments
pub record Nested : Type 1 where
  pub cast : Relation TreeCast
  pub unary : Relation TreeUnary
  pub cond : Relation TreeCond
  pub assign : Relation TreeAssign

module _ (inner : Nested) where
  -- Head (C11 6.5.1 and 6.5.2.2): Name "(" [Assign {"," Assign}] ")" | Name | Number | Char
  -- | String | "(" Expr ")"
  pub data IsHead : List Lexeme → TreeHead → List Lexeme → Type 0 where
    a_call : {p q r : Lexeme} {ts rest : List Lexeme} {n : ℕ} {arguments : Option TreeArguments}
        {t : TreeHead} → IsName n p → Is mark.OpenRound q
        → Maybe (IsArguments inner.assign) ts arguments (r ∷ rest) → Is mark.CloseRound r
        → t ≡ head_is.Call (named n p) q.at arguments r.at → IsHead (p ∷ q ∷ ts) t rest
    a_name : {p : Lexeme} {rest : List Lexeme} {n : ℕ} {t : TreeHead} → IsName n p
        → t ≡ head_is.Name (named n p) → IsHead (p ∷ rest) t rest
    a_number : {p : Lexeme} {rest : List Lexeme} {t : TreeHead} → p.terminal ≡ terminal_is.Number
        → t ≡ head_is.Number p.at → IsHead (p ∷ rest) t rest
    a_char : {p : Lexeme} {rest : List Lexeme} {t : TreeHead} → p.terminal ≡ terminal_is.Char
        → t ≡ head_is.Char p.at → IsHead (p ∷ rest) t rest
    a_string : {p : Lexeme} {rest : List Lexeme} {t : TreeHead} → p.terminal ≡ terminal_is.String
        → t ≡ head_is.String p.at → IsHead (p ∷ rest) t rest
    in_brackets : {p q : Lexeme} {ts rest : List Lexeme} {x : TreeExpr} {t : TreeHead}
        → Is mark.OpenRound p → IsExpr inner.assign ts x (q ∷ rest) → Is mark.CloseRound q
        → t ≡ head_is.Brackets p.at x q.at → IsHead (p ∷ ts) t rest

  -- C11 6.5.2: "[" Expr "]" | "." Name | "->" Name | "++" | "--"
  pub data IsSuffix : List Lexeme → TreeSuffix → List Lexeme → Type 0 where
    an_index : {p q : Lexeme} {ts rest : List Lexeme} {x : TreeExpr} {t : TreeSuffix}
        → Is mark.OpenSquare p → IsExpr inner.assign ts x (q ∷ rest) → Is mark.CloseSquare q
        → t ≡ suffix_is.Index p.at x q.at → IsSuffix (p ∷ ts) t rest
    a_dot : {p : Lexeme} {ts rest : List Lexeme} {member : NameAt} {t : TreeSuffix}
        → Is mark.Dot p → IsTagName ts member rest → t ≡ suffix_is.Dot p.at member
        → IsSuffix (p ∷ ts) t rest
    an_arrow : {p : Lexeme} {ts rest : List Lexeme} {member : NameAt} {t : TreeSuffix}
        → Is mark.Arrow p → IsTagName ts member rest → t ≡ suffix_is.Arrow p.at member
        → IsSuffix (p ∷ ts) t rest
    a_step : {p : Lexeme} {rest : List Lexeme} {s : Step} {t : TreeSuffix}
        → step_of p.terminal ≡ Some s → t ≡ suffix_is.Step s p.at → IsSuffix (p ∷ rest) t rest

  -- Postfix (C11 6.5.2)
  pub data IsPostfix : List Lexeme → TreePostfix → List Lexeme → Type 0 where
    a_postfix : {ts mid rest : List Lexeme} {head : TreeHead} {suffixes : List TreeSuffix}
        {t : TreePostfix} → IsHead ts head mid → Many IsSuffix mid suffixes rest
        → t ≡ roll-TreePostfix (record { head = head; suffixes = suffixes })
        → IsPostfix ts t rest

  -- Unary (C11 6.5.3): ("++" | "--") Unary | ("&" "*" "+" "-" "~" "!") Cast | "sizeof" Unary
  -- | "sizeof" "(" Type ")" | Postfix
  pub data IsUnary : List Lexeme → TreeUnary → List Lexeme → Type 0 where
    a_step : {p : Lexeme} {ts rest : List Lexeme} {s : Step} {x t : TreeUnary}
        → step_of p.terminal ≡ Some s → inner.unary ts x rest → t ≡ unary_is.Step s p.at x
        → IsUnary (p ∷ ts) t rest
    an_operator : {p : Lexeme} {ts rest : List Lexeme} {op : UnaryOperator} {x : TreeCast}
        {t : TreeUnary} → unary_operator p.terminal ≡ Some op → inner.cast ts x rest
        → t ≡ unary_is.Operator op p.at x → IsUnary (p ∷ ts) t rest
    sizeof_unary : {p : Lexeme} {ts rest : List Lexeme} {x t : TreeUnary} → IsWord word.Sizeof p
        → inner.unary ts x rest → t ≡ unary_is.SizeofUnary p.at x → IsUnary (p ∷ ts) t rest
    sizeof_type : {p q r : Lexeme} {ts rest : List Lexeme} {x : TreeType} {t : TreeUnary}
        → IsWord word.Sizeof p → Is mark.OpenRound q → IsType ts x (r ∷ rest)
        → Is mark.CloseRound r → t ≡ unary_is.SizeofType p.at q.at x r.at
        → IsUnary (p ∷ q ∷ ts) t rest
    a_postfix_alone : {ts rest : List Lexeme} {x : TreePostfix} {t : TreeUnary}
        → IsPostfix ts x rest → t ≡ unary_is.Postfix x → IsUnary ts t rest

  -- Cast (C11 6.5.4): "(" Type ")" Cast | Unary
  pub data IsCast : List Lexeme → TreeCast → List Lexeme → Type 0 where
    a_cast : {p q : Lexeme} {ts us rest : List Lexeme} {x : TreeType} {c t : TreeCast}
        → Is mark.OpenRound p → IsType ts x (q ∷ us) → Is mark.CloseRound q
        → inner.cast us c rest → t ≡ cast_is.Cast p.at x q.at c → IsCast (p ∷ ts) t rest
    a_unary : {ts rest : List Lexeme} {x : TreeUnary} {t : TreeCast} → IsUnary ts x rest
        → t ≡ cast_is.Unary x → IsCast ts t rest

  pub data IsOperand : List Lexeme → TreeLor → List Lexeme → Type 0 where
    an_operand : {ts rest : List Lexeme} {x : TreeCast} {t : TreeLor} → IsCast ts x rest
        → t ≡ lor_is.Cast x → IsOperand ts t rest

  -- Lor (C11 6.5.5 to 6.5.14), up to a level: a chain of operators of that level, whose operands
  -- have operators of lower ones
  unfoldable pub IsLor : ℕ → List Lexeme → TreeLor → List Lexeme → Type 0
  IsLor zero = IsOperand
  IsLor (suc below) = IsChain (IsLor below) (suc below)

  -- Cond (C11 6.5.15): Lor ["?" Expr ":" Cond]
  pub data IsCond : List Lexeme → TreeCond → List Lexeme → Type 0 where
    a_choice : {p q : Lexeme} {ts us vs rest : List Lexeme} (c : TreeLor) {x : TreeExpr}
        {y t : TreeCond} → IsLor 10 ts c (p ∷ us) → Is mark.Question p
        → IsExpr inner.assign us x (q ∷ vs) → Is mark.Colon q → inner.cond vs y rest
        → t ≡ cond_is.Choice c p.at x q.at y → IsCond ts t rest
    a_lor : {ts rest : List Lexeme} (c : TreeLor) {t : TreeCond} → IsLor 10 ts c rest
        → t ≡ cond_is.Lor c → IsCond ts t rest

  -- Assign (C11 6.5.16): Unary AssignOp Assign | Cond
  pub data IsAssign : List Lexeme → TreeAssign → List Lexeme → Type 0 where
    an_assign : {p : Lexeme} {ts us rest : List Lexeme} {op : AssignOperator} {x : TreeUnary}
        {y t : TreeAssign} → IsUnary ts x (p ∷ us) → assign_operator p.terminal ≡ Some op
        → inner.assign us y rest → t ≡ assign_is.Assign x op p.at y → IsAssign ts t rest
    a_cond : {ts rest : List Lexeme} {c : TreeCond} {t : TreeAssign} → IsCond ts c rest
        → t ≡ assign_is.Cond c → IsAssign ts t rest

-- what nests at most so deep
unfoldable pub nested : ℕ → Nested
nested zero = record { cast = Never; unary = Never; cond = Never; assign = Never }
nested (suc n) = record {
  cast = IsCast (nested n);
  unary = IsUnary (nested n);
  cond = IsCond (nested n);
  assign = IsAssign (nested n);
}

-- the rules, however deep they nest
abbrev pub Assign : Relation TreeAssign
Assign ts t rest = (n : ℕ) × IsAssign (nested n) ts t rest

abbrev pub Cond : Relation TreeCond
Cond ts t rest = (n : ℕ) × IsCond (nested n) ts t rest

abbrev pub Expr : Relation TreeExpr
Expr ts t rest = IsExpr Assign ts t rest
