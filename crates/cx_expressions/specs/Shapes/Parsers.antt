-- The readers of expressions, as they are computed. What nests is read by the readers of `Next`.
use Rattle.std.specs.Prelude.{ℕ, zero, suc, Bool, true, false, ◌==◌, List, Option, Some, None}
use Rattle.cx_syntax_tree.specs.declared.terminals.Punctuator.TheVariants as mark
use Rattle.cx_syntax_tree.specs.declared.expressions.BinaryOperator.{BinaryOperator}
use Rattle.cx_syntax_tree.specs.declared.expressions.NameAt.{NameAt}
use Rattle.cx_syntax_tree.specs.declared.expressions.CommaAssign.{CommaAssign}
use Rattle.cx_syntax_tree.specs.declared.expressions.TreeExpr.{TreeExpr, roll-TreeExpr}
use Rattle.cx_syntax_tree.specs.declared.expressions.TreeArguments.{TreeArguments, roll-TreeArguments}
use Rattle.cx_syntax_tree.specs.declared.expressions.TreeAssign.{TreeAssign}
use Rattle.cx_syntax_tree.specs.declared.expressions.TreeAssign.TheVariants as assign_is
use Rattle.cx_syntax_tree.specs.declared.expressions.TreeCond.{TreeCond}
use Rattle.cx_syntax_tree.specs.declared.expressions.TreeCond.TheVariants as cond_is
use Rattle.cx_syntax_tree.specs.declared.expressions.TreeLor.{TreeLor}
use Rattle.cx_syntax_tree.specs.declared.expressions.TreeLor.TheVariants as lor_is
use Rattle.cx_syntax_tree.specs.declared.expressions.TreeLink.{TreeLink, roll-TreeLink}
use Rattle.cx_syntax_tree.specs.declared.expressions.TreeCast.{TreeCast}
use Rattle.cx_syntax_tree.specs.declared.expressions.TreeCast.TheVariants as cast_is
use Rattle.cx_syntax_tree.specs.declared.expressions.TreeUnary.{TreeUnary}
use Rattle.cx_syntax_tree.specs.declared.expressions.TreeUnary.TheVariants as unary_is
use Rattle.cx_syntax_tree.specs.declared.expressions.TreePostfix.{TreePostfix, roll-TreePostfix}
use Rattle.cx_syntax_tree.specs.declared.expressions.TreeSuffix.{TreeSuffix}
use Rattle.cx_syntax_tree.specs.declared.expressions.TreeSuffix.TheVariants as suffix_is
use Rattle.cx_syntax_tree.specs.declared.expressions.TreeHead.{TreeHead}
use Rattle.cx_syntax_tree.specs.declared.expressions.TreeHead.TheVariants as head_is
use Rattle.cx_reading.specs.Types.{named}
use Rattle.cx_reading.specs.Parsing.{Parser, ◌>>=◌, pure, refuse, front, take, is_mark, expect, eat, tag_name, many, after_comma}
use Rattle.cx_reading.specs.Shapes.TypeParsers.{type_name}
use Rattle.cx_expressions.specs.Operators.{level_of}
use Rattle.cx_expressions.specs.Expressions.{comma_assign, chained}
use Rattle.cx_expressions.specs.declared.roles.Begin.{Begin}
use Rattle.cx_expressions.specs.declared.roles.Begin.TheVariants as begin_is
use Rattle.cx_expressions.specs.declared.roles.Behind.{Behind}
use Rattle.cx_expressions.specs.declared.roles.Behind.TheVariants as behind_is
use Rattle.cx_expressions.specs.Shapes.Roles.{begins, follows, begins_cast}

-- how what nests is read
pub record Next : Type 0 where
  pub cast : Parser TreeCast
  pub unary : Parser TreeUnary
  pub cond : Parser TreeCond
  pub assign : Parser TreeAssign

-- ---- links of a chain

abbrev pub link_if : Bool → BinaryOperator → Parser TreeLor → Parser (Option TreeLink)
link_if true op operand = do
  p ← take
  x ← operand
  pure (Some (roll-TreeLink (record { operator = op; at = p.at; operand = x })))
link_if false op operand = pure None

abbrev pub link_by : ℕ → Parser TreeLor → Behind → Parser (Option TreeLink)
link_by level operand (behind_is.Binary op) = link_if (level_of op == level) op operand
link_by level operand _ = pure None

-- an operator of this level and its right operand, if one comes next
unfoldable pub link : ℕ → Parser TreeLor → Parser (Option TreeLink)
link level operand = λ ts. link_by level operand (follows ts) ts

module _ (next : Next) where
  -- ---- rows of assignments

  unfoldable pub more_assigns : Parser (List CommaAssign)
  more_assigns = many (after_comma comma_assign next.assign)

  unfoldable pub expr : Parser TreeExpr
  expr = do
    first ← next.assign
    more ← more_assigns
    pure (roll-TreeExpr (record { first = first; more = more }))

  unfoldable pub arguments : Parser TreeArguments
  arguments = do
    first ← next.assign
    more ← more_assigns
    pure (roll-TreeArguments (record { first = first; more = more }))

  -- ---- heads

  abbrev pub given_if : Bool → Parser (Option TreeArguments)
  given_if true = pure None
  given_if false = do
    a ← arguments
    pure (Some a)

  -- what stands between the brackets of a call
  unfoldable pub given : Parser (Option TreeArguments)
  given = λ ts. given_if (is_mark mark.CloseRound (front ts)) ts

  abbrev pub called : NameAt → Option ℕ → Parser TreeHead
  called name None = pure (head_is.Name name)
  called name (Some opening) = do
    a ← given
    closing ← expect mark.CloseRound
    pure (head_is.Call name opening a closing)

  unfoldable pub name_head : ℕ → Parser TreeHead
  name_head n = do
    p ← take
    opening ← eat mark.OpenRound
    called (named n p) opening

  unfoldable pub brackets : Parser TreeHead
  brackets = do
    p ← take
    x ← expr
    closing ← expect mark.CloseRound
    pure (head_is.Brackets p.at x closing)

  abbrev pub head_by : Begin → Parser TreeHead
  head_by (begin_is.Name n) = name_head n
  head_by begin_is.Number = take >>= (λ p. pure (head_is.Number p.at))
  head_by begin_is.Char = take >>= (λ p. pure (head_is.Char p.at))
  head_by begin_is.String = take >>= (λ p. pure (head_is.String p.at))
  head_by begin_is.Open = brackets
  head_by _ = refuse

  unfoldable pub head : Parser TreeHead
  head = λ ts. head_by (begins ts) ts

  -- ---- suffixes

  unfoldable pub index : Parser (Option TreeSuffix)
  index = do
    p ← take
    x ← expr
    closing ← expect mark.CloseSquare
    pure (Some (suffix_is.Index p.at x closing))

  abbrev pub suffix_by : Behind → Parser (Option TreeSuffix)
  suffix_by behind_is.Index = index
  suffix_by behind_is.Dot = do
    p ← take
    member ← tag_name
    pure (Some (suffix_is.Dot p.at member))
  suffix_by behind_is.Arrow = do
    p ← take
    member ← tag_name
    pure (Some (suffix_is.Arrow p.at member))
  suffix_by (behind_is.Step s) = take >>= (λ p. pure (Some (suffix_is.Step s p.at)))
  suffix_by _ = pure None

  unfoldable pub suffix : Parser (Option TreeSuffix)
  suffix = λ ts. suffix_by (follows ts) ts

  unfoldable pub postfix : Parser TreePostfix
  postfix = do
    h ← head
    found ← many suffix
    pure (roll-TreePostfix (record { head = h; suffixes = found }))

  -- ---- unary operators and casts

  abbrev pub size_if : Bool → ℕ → Parser TreeUnary
  size_if true at = do
    p ← take
    t ← type_name
    closing ← expect mark.CloseRound
    pure (unary_is.SizeofType at p.at t closing)
  size_if false at = do
    x ← next.unary
    pure (unary_is.SizeofUnary at x)

  -- behind `sizeof`
  unfoldable pub size : ℕ → Parser TreeUnary
  size at = λ ts. size_if (begins_cast ts) at ts

  abbrev pub unary_by : Begin → Parser TreeUnary
  unary_by (begin_is.Step s) = do
    p ← take
    x ← next.unary
    pure (unary_is.Step s p.at x)
  unary_by (begin_is.Operator op) = do
    p ← take
    x ← next.cast
    pure (unary_is.Operator op p.at x)
  unary_by begin_is.Sizeof = do
    p ← take
    size p.at
  unary_by _ = do
    x ← postfix
    pure (unary_is.Postfix x)

  unfoldable pub unary : Parser TreeUnary
  unary = λ ts. unary_by (begins ts) ts

  abbrev pub cast_if : Bool → Parser TreeCast
  cast_if true = do
    p ← take
    t ← type_name
    closing ← expect mark.CloseRound
    c ← next.cast
    pure (cast_is.Cast p.at t closing c)
  cast_if false = do
    x ← unary
    pure (cast_is.Unary x)

  unfoldable pub cast : Parser TreeCast
  cast = λ ts. cast_if (begins_cast ts) ts

  -- ---- chains

  abbrev pub operand : Parser TreeLor
  operand = cast >>= (λ c. pure (lor_is.Cast c))

  -- from an operand that was read
  unfoldable pub lor_from : ℕ → TreeLor → Parser TreeLor
  lor_from zero first = pure first
  lor_from (suc below) first = do
    f ← lor_from below first
    found ← many (link (suc below) (operand >>= lor_from below))
    pure (chained f found)

  -- with operators up to a level
  unfoldable pub lor : ℕ → Parser TreeLor
  lor level = operand >>= lor_from level

  -- ---- conditionals and assignments

  unfoldable pub branches : TreeLor → Parser TreeCond
  branches c = do
    p ← take
    x ← expr
    colon ← expect mark.Colon
    y ← next.cond
    pure (cond_is.Choice c p.at x colon y)

  abbrev pub choice_by : TreeLor → Behind → Parser TreeCond
  choice_by c behind_is.Question = branches c
  choice_by c _ = pure (cond_is.Lor c)

  unfoldable pub choice : TreeLor → Parser TreeCond
  choice c = λ ts. choice_by c (follows ts) ts

  unfoldable pub cond_from : TreeCast → Parser TreeCond
  cond_from first = do
    c ← lor_from 10 (lor_is.Cast first)
    choice c

  unfoldable pub cond : Parser TreeCond
  cond = cast >>= cond_from

  abbrev pub assign_by : TreeUnary → Behind → Parser TreeAssign
  assign_by target (behind_is.Assign op) = do
    p ← take
    y ← next.assign
    pure (assign_is.Assign target op p.at y)
  assign_by target _ = do
    c ← cond_from (cast_is.Unary target)
    pure (assign_is.Cond c)

  -- behind a unary expression
  unfoldable pub assign_from : TreeUnary → Parser TreeAssign
  assign_from target = λ ts. assign_by target (follows ts) ts

  abbrev pub assign_if : Bool → Parser TreeAssign
  assign_if true = do
    c ← cond
    pure (assign_is.Cond c)
  assign_if false = unary >>= assign_from

  unfoldable pub assign : Parser TreeAssign
  assign = λ ts. assign_if (begins_cast ts) ts

-- with what nests at most so deep
unfoldable pub readers : ℕ → Next
readers zero = record { cast = refuse; unary = refuse; cond = refuse; assign = refuse }
readers (suc n) = record {
  cast = cast (readers n);
  unary = unary (readers n);
  cond = cond (readers n);
  assign = assign (readers n);
}
