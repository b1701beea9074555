-- What is to hold of the readers of what nests.
use Rattle.std.proofs.Common.{◌≡◌, ℕ, false, List}
use Rattle.cx_syntax_tree.specs.declared.terminals.Lexeme.{Lexeme}
use Rattle.cx_syntax_tree.specs.declared.expressions.TreeUnary.{TreeUnary}
use Rattle.cx_reading.specs.Rules.{Relation, Never}
use Rattle.cx_reading.specs.Parsing.{Parser, refuse}
use Rattle.cx_reading.specs.Agreement.{Law}
use Rattle.cx_expressions.specs.Expressions.{Nested}
use Rattle.cx_expressions.specs.Shapes.Roles.{begins_cast, Stops, Operand}
use Rattle.cx_expressions.specs.Shapes.Parsers.{Next}

-- a reader and its rule, whose trees begin with an operand and end where the level stops
abbrev pub Rule : {A : Type 0} → ℕ → Parser A → Relation A → Type 0
Rule level p R = Law Operand (Stops level) p R

pub record InnerLaws (next : Next) (inner : Nested) : Type 0 where
  pub cast : Rule 0 next.cast inner.cast
  pub unary : Rule 0 next.unary inner.unary
  -- a unary expression is no cast
  pub plain : (ts : List Lexeme) (x : TreeUnary) (rest : List Lexeme) → inner.unary ts x rest
      → begins_cast ts ≡ false
  pub cond : Rule 11 next.cond inner.cond
  pub assign : Rule 12 next.assign inner.assign

-- a reader that refuses, beside the rule without a tree
pub never_law : {A : Type 0} (Begins Ends : List Lexeme → Type 0)
    → Law {A = A} Begins Ends refuse Never
never_law Begins Ends = record {
  sound = λ ts x rest e. absurd cc;
  complete = λ ts x rest n e. absurd n;
  shorter = λ ts x rest n. absurd n;
  begins = λ ts x rest n. absurd n;
}
