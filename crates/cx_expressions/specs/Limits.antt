-- Expressions that nest at most so deep, and what may stand behind one.
use Rattle.std.specs.Prelude.{ℕ, List}
use Rattle.cx_syntax_tree.specs.declared.terminals.Lexeme.{Lexeme}
use Rattle.cx_syntax_tree.specs.declared.expressions.TreeExpr.{TreeExpr}
use Rattle.cx_syntax_tree.specs.declared.expressions.TreeAssign.{TreeAssign}
use Rattle.cx_syntax_tree.specs.declared.expressions.TreeCond.{TreeCond}
use Rattle.cx_reading.specs.Rules.{Relation}
use Rattle.cx_expressions.specs.Expressions.{nested, IsExpr}
use Rattle.cx_expressions.specs.Shapes.Roles.{Stops}

-- with assignments that nest at most so deep
abbrev pub ExprWithin : ℕ → Relation TreeExpr
ExprWithin depth = IsExpr (nested depth).assign

abbrev pub AssignWithin : ℕ → Relation TreeAssign
AssignWithin depth = (nested depth).assign

abbrev pub CondWithin : ℕ → Relation TreeCond
CondWithin depth = (nested depth).cond

-- no longer expression stands in front of these tokens: they begin with no operator, no suffix, no
-- bracket of a call and no comma
abbrev pub EndsExpr : List Lexeme → Type 0
EndsExpr = Stops 13

-- the same of an assignment, behind which a comma may stand
abbrev pub EndsAssign : List Lexeme → Type 0
EndsAssign = Stops 12

-- the same of a conditional, behind which an assignment operator may stand too
abbrev pub EndsCond : List Lexeme → Type 0
EndsCond = Stops 11
