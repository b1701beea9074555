-- The definitions of this crate on small trees, computed.
use Rattle.std.proofs.Common.{◌≡◌, ℕ, [], ◌∷◌}
use Rattle.cx_syntax_tree.specs.declared.terminals.Punctuator.{Punctuator}
use Rattle.cx_syntax_tree.specs.declared.terminals.Punctuator.TheVariants as mark
use Rattle.cx_syntax_tree.specs.declared.terminals.Terminal.TheVariants as terminal_is
use Rattle.cx_syntax_tree.specs.declared.terminals.Lexeme.{Lexeme}
use Rattle.cx_syntax_tree.specs.declared.expressions.BinaryOperator.{BinaryOperator}
use Rattle.cx_syntax_tree.specs.declared.expressions.BinaryOperator.TheVariants as binary
use Rattle.cx_syntax_tree.specs.declared.expressions.UnaryOperator.TheVariants as unary
use Rattle.cx_syntax_tree.specs.declared.expressions.TreeAssign.{the_lemmas as expr_lemmas}
use Rattle.cx_syntax_tree.specs.declared.expressions.TreeCond.TheVariants as cond_is
use Rattle.cx_syntax_tree.specs.declared.expressions.TreeLor.{TreeLor}
use Rattle.cx_syntax_tree.specs.declared.expressions.TreeLor.TheVariants as lor_is
use Rattle.cx_syntax_tree.specs.declared.expressions.TreeLink.{TreeLink, roll-TreeLink}
use Rattle.cx_syntax_tree.specs.declared.expressions.TreeCast.TheVariants as cast_is
use Rattle.cx_syntax_tree.specs.declared.expressions.TreeUnary.{TreeUnary}
use Rattle.cx_syntax_tree.specs.declared.expressions.TreeUnary.TheVariants as unary_is
use Rattle.cx_syntax_tree.specs.declared.expressions.TreePostfix.{roll-TreePostfix}
use Rattle.cx_syntax_tree.specs.declared.expressions.TreeHead.{TreeHead}
use Rattle.cx_syntax_tree.specs.declared.expressions.TreeHead.TheVariants as head_is
use Rattle.cx_syntax_tree.specs.Depth.{climbed, cond_depth}
use Rattle.cx_syntax_tree.specs.Written.{cond_written, joined}

abbrev name : ℕ → ℕ → Lexeme
name n at = record { terminal = terminal_is.Name n; at = at }

abbrev punct : Punctuator → ℕ → Lexeme
punct m at = record { terminal = terminal_is.Punctuator m; at = at }

abbrev unary_tree : TreeHead → TreeUnary
unary_tree h = unary_is.Postfix (roll-TreePostfix (record { head = h; suffixes = [] }))

abbrev name_head : ℕ → ℕ → TreeHead
name_head n at = head_is.Name (record { name = n; at = at })

abbrev lor_tree : TreeUnary → TreeLor
lor_tree u = lor_is.Cast (cast_is.Unary u)

abbrev name_tree : ℕ → ℕ → TreeLor
name_tree n at = lor_tree (unary_tree (name_head n at))

abbrev link : BinaryOperator → ℕ → TreeLor → TreeLink
link op at t = roll-TreeLink (record { operator = op; at = at; operand = t })

-- x is no operator deep
one_name : cond_depth (cond_is.Lor (name_tree 0 0)) ≡ 0
unfolding cond_depth climbed
one_name = search expr_lemmas

-- - - x is two deep, and so is a - b - c
two_signs : cond_depth (cond_is.Lor (lor_tree (unary_is.Operator unary.Minus 0 (cast_is.Unary
    (unary_is.Operator unary.Minus 1 (cast_is.Unary (unary_tree (name_head 0 2)))))))) ≡ 2
unfolding cond_depth climbed
two_signs = search expr_lemmas

two_minuses : cond_depth (cond_is.Lor (lor_is.Chain (name_tree 0 0)
    (link binary.Subtract 1 (name_tree 1 2) ∷ link binary.Subtract 3 (name_tree 2 4) ∷ []))) ≡ 2
unfolding cond_depth climbed
two_minuses = search expr_lemmas

-- the tokens of a - b - c, in order
minus_written : cond_written (cond_is.Lor (lor_is.Chain (name_tree 0 0)
    (link binary.Subtract 1 (name_tree 1 2) ∷ link binary.Subtract 3 (name_tree 2 4) ∷ [])))
    ≡ name 0 0 ∷ punct mark.Minus 1 ∷ name 1 2 ∷ punct mark.Minus 3 ∷ name 2 4 ∷ []
unfolding cond_written joined
minus_written = search expr_lemmas
