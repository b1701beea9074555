-- The tokens of each tree of an expression, by its form.
use Rattle.std.proofs.Common.{◌≡◌, ℕ, List, ◌++◌, map, Some, None}
use Rattle.cx_syntax_tree.specs.declared.terminals.Keyword.TheVariants as word
use Rattle.cx_syntax_tree.specs.declared.terminals.Punctuator.TheVariants as mark
use Rattle.cx_syntax_tree.specs.declared.terminals.Terminal.TheVariants as terminal_is
use Rattle.cx_syntax_tree.specs.declared.expressions.UnaryOperator.{UnaryOperator}
use Rattle.cx_syntax_tree.specs.declared.expressions.Step.{Step}
use Rattle.cx_syntax_tree.specs.declared.expressions.BinaryOperator.{BinaryOperator}
use Rattle.cx_syntax_tree.specs.declared.expressions.AssignOperator.{AssignOperator}
use Rattle.cx_syntax_tree.specs.declared.expressions.NameAt.{NameAt}
use Rattle.cx_syntax_tree.specs.declared.expressions.TreeType.{TreeType}
use Rattle.cx_syntax_tree.specs.declared.expressions.CommaAssign.{CommaAssign, roll-CommaAssign}
use Rattle.cx_syntax_tree.specs.declared.expressions.TreeExpr.{TreeExpr, roll-TreeExpr}
use Rattle.cx_syntax_tree.specs.declared.expressions.TreeArguments.{TreeArguments, roll-TreeArguments}
use Rattle.cx_syntax_tree.specs.declared.expressions.TreeAssign.{TreeAssign, the_lemmas}
use Rattle.cx_syntax_tree.specs.declared.expressions.TreeAssign.TheVariants as assign_is
use Rattle.cx_syntax_tree.specs.declared.expressions.TreeCond.{TreeCond}
use Rattle.cx_syntax_tree.specs.declared.expressions.TreeCond.TheVariants as cond_is
use Rattle.cx_syntax_tree.specs.declared.expressions.TreeLor.{TreeLor}
use Rattle.cx_syntax_tree.specs.declared.expressions.TreeLor.TheVariants as lor_is
use Rattle.cx_syntax_tree.specs.declared.expressions.TreeLink.{TreeLink, roll-TreeLink}
use Rattle.cx_syntax_tree.specs.declared.expressions.TreeCast.{TreeCast}
use Rattle.cx_syntax_tree.specs.declared.expressions.TreeCast.TheVariants as cast_is
use Rattle.cx_syntax_tree.specs.declared.expressions.TreeUnary.{TreeUnary}
use Rattle.cx_syntax_tree.specs.declared.expressions.TreeUnary.TheVariants as unary_is
use Rattle.cx_syntax_tree.specs.declared.expressions.TreePostfix.{TreePostfix, roll-TreePostfix}
use Rattle.cx_syntax_tree.specs.declared.expressions.TreeSuffix.{TreeSuffix}
use Rattle.cx_syntax_tree.specs.declared.expressions.TreeSuffix.TheVariants as suffix_is
use Rattle.cx_syntax_tree.specs.declared.expressions.TreeHead.{TreeHead}
use Rattle.cx_syntax_tree.specs.declared.expressions.TreeHead.TheVariants as head_is
use Rattle.cx_syntax_tree.specs.declared.expressions.TreeAssign.TheFolds.{fold-TreeCast, fold-TreeHead, fold-TreeLor, fold-TreeSuffix, fold-TreeUnary, fold-CommaAssign, fold-TreeLink, fold-TreePostfix}
use Rattle.cx_syntax_tree.specs.Written.{Tokens, one, marked, worded, named, joined, unary_mark, step_mark, binary_mark, assign_mark, type_written, assign_step, cast_step, cond_step, head_step, lor_step, suffix_step, unary_step, comma_step, arguments_step, expr_step, link_step, postfix_step, assign_written, cond_written, expr_written, arguments_written}

unfoldable pub cast_written : TreeCast → Tokens
cast_written =
    fold-TreeCast Tokens Tokens Tokens Tokens Tokens Tokens Tokens Tokens Tokens Tokens Tokens Tokens
    assign_step cast_step cond_step head_step lor_step suffix_step unary_step comma_step
    arguments_step expr_step link_step postfix_step

unfoldable pub head_written : TreeHead → Tokens
head_written =
    fold-TreeHead Tokens Tokens Tokens Tokens Tokens Tokens Tokens Tokens Tokens Tokens Tokens Tokens
    assign_step cast_step cond_step head_step lor_step suffix_step unary_step comma_step
    arguments_step expr_step link_step postfix_step

unfoldable pub lor_written : TreeLor → Tokens
lor_written =
    fold-TreeLor Tokens Tokens Tokens Tokens Tokens Tokens Tokens Tokens Tokens Tokens Tokens Tokens
    assign_step cast_step cond_step head_step lor_step suffix_step unary_step comma_step
    arguments_step expr_step link_step postfix_step

unfoldable pub suffix_written : TreeSuffix → Tokens
suffix_written =
    fold-TreeSuffix Tokens Tokens Tokens Tokens Tokens Tokens Tokens Tokens Tokens Tokens Tokens
    Tokens
    assign_step cast_step cond_step head_step lor_step suffix_step unary_step comma_step
    arguments_step expr_step link_step postfix_step

unfoldable pub unary_written : TreeUnary → Tokens
unary_written =
    fold-TreeUnary Tokens Tokens Tokens Tokens Tokens Tokens Tokens Tokens Tokens Tokens Tokens Tokens
    assign_step cast_step cond_step head_step lor_step suffix_step unary_step comma_step
    arguments_step expr_step link_step postfix_step

unfoldable pub comma_written : CommaAssign → Tokens
comma_written =
    fold-CommaAssign Tokens Tokens Tokens Tokens Tokens Tokens Tokens Tokens Tokens Tokens Tokens
    Tokens
    assign_step cast_step cond_step head_step lor_step suffix_step unary_step comma_step
    arguments_step expr_step link_step postfix_step

unfoldable pub link_written : TreeLink → Tokens
link_written =
    fold-TreeLink Tokens Tokens Tokens Tokens Tokens Tokens Tokens Tokens Tokens Tokens Tokens Tokens
    assign_step cast_step cond_step head_step lor_step suffix_step unary_step comma_step
    arguments_step expr_step link_step postfix_step

unfoldable pub postfix_written : TreePostfix → Tokens
postfix_written =
    fold-TreePostfix Tokens Tokens Tokens Tokens Tokens Tokens Tokens Tokens Tokens Tokens Tokens
    Tokens
    assign_step cast_step cond_step head_step lor_step suffix_step unary_step comma_step
    arguments_step expr_step link_step postfix_step

pub of_comma : (at : ℕ) (a : TreeAssign)
    → comma_written (roll-CommaAssign (record { comma = at; assign = a }))
    ≡ marked mark.Comma at ++ assign_written a
unfolding comma_written assign_written
of_comma at a = search the_lemmas

pub of_expr : (first : TreeAssign) (more : List CommaAssign)
    → expr_written (roll-TreeExpr (record { first = first; more = more }))
    ≡ assign_written first ++ joined (map comma_written more)
unfolding expr_written assign_written comma_written
of_expr first more = search the_lemmas

pub of_arguments : (first : TreeAssign) (more : List CommaAssign)
    → arguments_written (roll-TreeArguments (record { first = first; more = more }))
    ≡ assign_written first ++ joined (map comma_written more)
unfolding arguments_written assign_written comma_written
of_arguments first more = search the_lemmas

pub of_call : (f : NameAt) (p q : ℕ) (a : TreeArguments)
    → head_written (head_is.Call f p (Some a) q)
    ≡ named f ++ marked mark.OpenRound p ++ arguments_written a ++ marked mark.CloseRound q
unfolding head_written arguments_written
of_call f p q a = search the_lemmas

pub of_empty_call : (f : NameAt) (p q : ℕ)
    → head_written (head_is.Call f p None q)
    ≡ named f ++ marked mark.OpenRound p ++ marked mark.CloseRound q
unfolding head_written
of_empty_call f p q = search the_lemmas

pub of_name : (n : NameAt) → head_written (head_is.Name n) ≡ named n
unfolding head_written
of_name n = search the_lemmas

pub of_number : (at : ℕ) → head_written (head_is.Number at) ≡ one terminal_is.Number at
unfolding head_written
of_number at = search the_lemmas

pub of_char : (at : ℕ) → head_written (head_is.Char at) ≡ one terminal_is.Char at
unfolding head_written
of_char at = search the_lemmas

pub of_string : (at : ℕ) → head_written (head_is.String at) ≡ one terminal_is.String at
unfolding head_written
of_string at = search the_lemmas

pub of_brackets : (p : ℕ) (x : TreeExpr) (q : ℕ) → head_written (head_is.Brackets p x q)
    ≡ marked mark.OpenRound p ++ expr_written x ++ marked mark.CloseRound q
unfolding head_written expr_written
of_brackets p x q = search the_lemmas

pub of_index : (p : ℕ) (x : TreeExpr) (q : ℕ) → suffix_written (suffix_is.Index p x q)
    ≡ marked mark.OpenSquare p ++ expr_written x ++ marked mark.CloseSquare q
unfolding suffix_written expr_written
of_index p x q = search the_lemmas

pub of_dot : (at : ℕ) (m : NameAt) → suffix_written (suffix_is.Dot at m)
    ≡ marked mark.Dot at ++ named m
unfolding suffix_written
of_dot at m = search the_lemmas

pub of_arrow : (at : ℕ) (m : NameAt) → suffix_written (suffix_is.Arrow at m)
    ≡ marked mark.Arrow at ++ named m
unfolding suffix_written
of_arrow at m = search the_lemmas

pub of_suffix_step : (s : Step) (at : ℕ) → suffix_written (suffix_is.Step s at)
    ≡ marked (step_mark s) at
unfolding suffix_written
of_suffix_step s at = search the_lemmas

pub of_postfix : (h : TreeHead) (found : List TreeSuffix)
    → postfix_written (roll-TreePostfix (record { head = h; suffixes = found }))
    ≡ head_written h ++ joined (map suffix_written found)
unfolding postfix_written head_written suffix_written
of_postfix h found = search the_lemmas

pub of_step : (s : Step) (at : ℕ) (x : TreeUnary) → unary_written (unary_is.Step s at x)
    ≡ marked (step_mark s) at ++ unary_written x
unfolding unary_written
of_step s at x = search the_lemmas

pub of_operator : (op : UnaryOperator) (at : ℕ) (x : TreeCast)
    → unary_written (unary_is.Operator op at x) ≡ marked (unary_mark op) at ++ cast_written x
unfolding unary_written cast_written
of_operator op at x = search the_lemmas

pub of_sizeof : (at : ℕ) (x : TreeUnary) → unary_written (unary_is.SizeofUnary at x)
    ≡ worded word.Sizeof at ++ unary_written x
unfolding unary_written
of_sizeof at x = search the_lemmas

pub of_sizeof_type : (at p : ℕ) (t : TreeType) (q : ℕ)
    → unary_written (unary_is.SizeofType at p t q)
    ≡ worded word.Sizeof at ++ marked mark.OpenRound p ++ type_written t ++ marked mark.CloseRound q
unfolding unary_written
of_sizeof_type at p t q = search the_lemmas

pub of_postfix_alone : (x : TreePostfix) → unary_written (unary_is.Postfix x) ≡ postfix_written x
unfolding unary_written postfix_written
of_postfix_alone x = search the_lemmas

pub of_cast : (p : ℕ) (t : TreeType) (q : ℕ) (x : TreeCast) → cast_written (cast_is.Cast p t q x)
    ≡ marked mark.OpenRound p ++ type_written t ++ marked mark.CloseRound q ++ cast_written x
unfolding cast_written
of_cast p t q x = search the_lemmas

pub of_unary : (x : TreeUnary) → cast_written (cast_is.Unary x) ≡ unary_written x
unfolding cast_written unary_written
of_unary x = search the_lemmas

pub of_operand : (x : TreeCast) → lor_written (lor_is.Cast x) ≡ cast_written x
unfolding lor_written cast_written
of_operand x = search the_lemmas

pub of_chain : (first : TreeLor) (links : List TreeLink) → lor_written (lor_is.Chain first links)
    ≡ lor_written first ++ joined (map link_written links)
unfolding lor_written link_written
of_chain first links = search the_lemmas

pub of_link : (op : BinaryOperator) (at : ℕ) (x : TreeLor)
    → link_written (roll-TreeLink (record { operator = op; at = at; operand = x }))
    ≡ marked (binary_mark op) at ++ lor_written x
unfolding link_written lor_written
of_link op at x = search the_lemmas

pub of_choice : (c : TreeLor) (p : ℕ) (x : TreeExpr) (q : ℕ) (y : TreeCond)
    → cond_written (cond_is.Choice c p x q y)
    ≡ lor_written c ++ marked mark.Question p ++ expr_written x ++ marked mark.Colon q
    ++ cond_written y
unfolding cond_written lor_written expr_written
of_choice c p x q y = search the_lemmas

pub of_lor : (c : TreeLor) → cond_written (cond_is.Lor c) ≡ lor_written c
unfolding cond_written lor_written
of_lor c = search the_lemmas

pub of_assign : (x : TreeUnary) (op : AssignOperator) (at : ℕ) (y : TreeAssign)
    → assign_written (assign_is.Assign x op at y)
    ≡ unary_written x ++ marked (assign_mark op) at ++ assign_written y
unfolding assign_written unary_written
of_assign x op at y = search the_lemmas

pub of_cond : (c : TreeCond) → assign_written (assign_is.Cond c) ≡ cond_written c
unfolding assign_written cond_written
of_cond c = search the_lemmas
