-- The tokens of expressions that are read are those of their trees, in order.
use Rattle.std.proofs.Common.{◌≡◌, refl, sym, ap, ℕ, zero, suc, List, [], ◌∷◌, ◌++◌, map, Some, append_assoc}
use Rattle.std.proofs.lemmas.List.{append-nil}
use Rattle.cx_syntax_tree.specs.declared.terminals.Punctuator.{Punctuator}
use Rattle.cx_syntax_tree.specs.declared.terminals.Punctuator.TheVariants as mark
use Rattle.cx_syntax_tree.specs.declared.terminals.Terminal.{Terminal}
use Rattle.cx_syntax_tree.specs.declared.terminals.Terminal.TheVariants as terminal_is
use Rattle.cx_syntax_tree.specs.declared.expressions.UnaryOperator.{UnaryOperator}
use Rattle.cx_syntax_tree.specs.declared.expressions.Step.{Step}
use Rattle.cx_syntax_tree.specs.declared.expressions.BinaryOperator.{BinaryOperator}
use Rattle.cx_syntax_tree.specs.declared.expressions.AssignOperator.{AssignOperator}
use Rattle.cx_syntax_tree.specs.declared.expressions.TreeAssign.{TreeAssign}
use Rattle.cx_syntax_tree.specs.declared.expressions.TreeLor.{TreeLor}
use Rattle.cx_syntax_tree.specs.declared.expressions.TreeLink.{TreeLink}
use Rattle.cx_syntax_tree.specs.Written as written
use Rattle.cx_syntax_tree.specs.Written.{untyped, untyped_terminal, joined, or_nothing, expr_written, assign_written, cond_written, arguments_written, type_written}
use Rattle.cx_reading.specs.Rules.{Relation, without, with_one, AfterComma, comma, mark as a_mark}
use Rattle.cx_reading.specs.Agreement.{InOrder}
use Rattle.cx_reading.proofs.OrderLaws.{row_in_order, tag_in_order, type_in_order}
use Rattle.cx_expressions.specs.Operators.{unary_mark, step_mark, binary_mark, assign_mark, unary_operator, step_of, binary_operator, assign_operator}
use Rattle.cx_expressions.specs.Expressions.{Nested, nested, comma_assign, chained, IsExpr, an_expr, IsArguments, arguments, IsHead, a_call, a_name, a_number, a_char, a_string, in_brackets, IsSuffix, an_index, a_dot, an_arrow, a_step as a_suffix_step, IsPostfix, a_postfix, IsUnary, a_step as a_unary_step, an_operator, sizeof_unary, sizeof_type, a_postfix_alone, IsCast, a_cast, a_unary, IsOperand, an_operand, IsLink, a_link, IsChain, a_chain, IsLor, IsCond, a_choice, a_lor, IsAssign, an_assign, a_cond, Assign, Cond, Expr}
use Rattle.cx_expressions.proofs.Writings.{cast_written, head_written, lor_written, suffix_written, unary_written, comma_written, link_written, postfix_written, of_comma, of_expr, of_arguments, of_call, of_empty_call, of_name, of_number, of_char, of_string, of_brackets, of_index, of_dot, of_arrow, of_suffix_step, of_postfix, of_step, of_operator, of_sizeof, of_sizeof_type, of_postfix_alone, of_cast, of_unary, of_operand, of_chain, of_link, of_choice, of_lor, of_assign, of_cond}

-- ---- operators

step_mark_back : (m : Punctuator) (s : Step) → step_mark m ≡ Some s → written.step_mark s ≡ m
step_mark_back mark.PlusPlus s e = cc
step_mark_back mark.MinusMinus s e = cc
step_mark_back _ s e = absurd cc

step_terminal : (t : Terminal) (s : Step) → step_of t ≡ Some s
    → untyped_terminal t ≡ terminal_is.Punctuator (written.step_mark s)
unfolding step_of
step_terminal (terminal_is.Punctuator m) s e = ap terminal_is.Punctuator (sym (step_mark_back m s e))
step_terminal _ s e = absurd cc

unary_mark_back : (m : Punctuator) (op : UnaryOperator) → unary_mark m ≡ Some op
    → written.unary_mark op ≡ m
unary_mark_back mark.Star op e = cc
unary_mark_back _ op e = cc

unary_terminal : (t : Terminal) (op : UnaryOperator) → unary_operator t ≡ Some op
    → untyped_terminal t ≡ terminal_is.Punctuator (written.unary_mark op)
unfolding unary_operator
unary_terminal (terminal_is.Punctuator m) op e =
    ap terminal_is.Punctuator (sym (unary_mark_back m op e))
unary_terminal _ op e = absurd cc

binary_mark_back : (m : Punctuator) (op : BinaryOperator) → binary_mark m ≡ Some op
    → written.binary_mark op ≡ m
binary_mark_back mark.Star op e = cc
binary_mark_back _ op e = cc

binary_terminal : (t : Terminal) (op : BinaryOperator) → binary_operator t ≡ Some op
    → untyped_terminal t ≡ terminal_is.Punctuator (written.binary_mark op)
unfolding binary_operator
binary_terminal (terminal_is.Punctuator m) op e =
    ap terminal_is.Punctuator (sym (binary_mark_back m op e))
binary_terminal _ op e = absurd cc

assign_mark_back : (m : Punctuator) (op : AssignOperator) → assign_mark m ≡ Some op
    → written.assign_mark op ≡ m
assign_mark_back mark.Equal op e = cc
assign_mark_back _ op e = cc

assign_terminal : (t : Terminal) (op : AssignOperator) → assign_operator t ≡ Some op
    → untyped_terminal t ≡ terminal_is.Punctuator (written.assign_mark op)
unfolding assign_operator
assign_terminal (terminal_is.Punctuator m) op e =
    ap terminal_is.Punctuator (sym (assign_mark_back m op e))
assign_terminal _ op e = absurd cc

-- ---- rules

comma_in_order : (R : Relation TreeAssign) → InOrder assign_written R
    → InOrder comma_written (AfterComma comma_assign R)
comma_in_order R f _ x rest (comma {at = at} {x = y} (a_mark {ts = us} is e) r t) =
    rw (t, of_comma at y, f us y rest r, is, e) refl

expr_in_order : (R : Relation TreeAssign) → InOrder assign_written R
    → InOrder expr_written (IsExpr R)
expr_in_order R f ts x rest (an_expr {mid = mid} {first = first} {more = more} r m e) =
    rw (
      e,
      of_expr first more,
      f ts first mid r,
      row_in_order comma_written (AfterComma comma_assign R) (comma_in_order R f) m,
    )
    (simp append_assoc)

arguments_in_order : (R : Relation TreeAssign) → InOrder assign_written R
    → InOrder arguments_written (IsArguments R)
arguments_in_order R f ts x rest (arguments {mid = mid} {first = first} {more = more} r m e) =
    rw (
      e,
      of_arguments first more,
      f ts first mid r,
      row_in_order comma_written (AfterComma comma_assign R) (comma_in_order R f) m,
    )
    (simp append_assoc)

link_in_order : (R : Relation TreeLor) (level : ℕ) → InOrder lor_written R
    → InOrder link_written (IsLink R level)
link_in_order R level f _ x rest (a_link {p = p} {ts = ts} {op = op} {x = y} is at r e) =
    rw (e, of_link op p.at y, f ts y rest r, binary_terminal p.terminal op is) refl

chained_written : (first : TreeLor) (links : List TreeLink)
    → lor_written (chained first links) ≡ lor_written first ++ joined (map link_written links)
unfolding joined
chained_written first [] = sym (append-nil (lor_written first))
chained_written first (link ∷ links) = of_chain first (link ∷ links)

record InOrders (inner : Nested) : Type 0 where
  cast : InOrder cast_written inner.cast
  unary : InOrder unary_written inner.unary
  cond : InOrder cond_written inner.cond
  assign : InOrder assign_written inner.assign

module _ {inner : Nested} (i : InOrders inner) where
  head_in_order : InOrder head_written (IsHead inner)
  head_in_order _ x rest
      (a_call {p = p} {q = q} {r = r} {ts = ts} {n = n} is opens (without) close e) =
      rw (e, of_empty_call (record { name = n; at = p.at }) q.at r.at, is, opens, close) refl
  head_in_order _ x rest
      (a_call {p = p} {q = q} {r = r} {ts = ts} {n = n} is opens (with_one {x = a} k) close e) =
      rw (
        e,
        of_call (record { name = n; at = p.at }) q.at r.at a,
        arguments_in_order inner.assign i.assign ts a (r ∷ rest) k,
        is,
        opens,
        close,
      )
      (simp append_assoc)
  head_in_order _ x rest (a_name {p = p} {n = n} is e) =
      rw (e, of_name (record { name = n; at = p.at }), is) refl
  head_in_order _ x rest (a_number {p = p} is e) = rw (e, of_number p.at, is) refl
  head_in_order _ x rest (a_char {p = p} is e) = rw (e, of_char p.at, is) refl
  head_in_order _ x rest (a_string {p = p} is e) = rw (e, of_string p.at, is) refl
  head_in_order _ x rest (in_brackets {p = p} {q = q} {ts = ts} {x = y} opens k close e) =
      rw (
        e,
        of_brackets p.at y q.at,
        expr_in_order inner.assign i.assign ts y (q ∷ rest) k,
        opens,
        close,
      ) (simp append_assoc)

  suffix_in_order : InOrder suffix_written (IsSuffix inner)
  suffix_in_order _ x rest (an_index {p = p} {q = q} {ts = ts} {x = y} opens k close e) =
      rw (
        e,
        of_index p.at y q.at,
        expr_in_order inner.assign i.assign ts y (q ∷ rest) k,
        opens,
        close,
      ) (simp append_assoc)
  suffix_in_order _ x rest (a_dot {p = p} {ts = ts} {member = m} is t e) =
      rw (e, of_dot p.at m, tag_in_order ts m rest t, is) refl
  suffix_in_order _ x rest (an_arrow {p = p} {ts = ts} {member = m} is t e) =
      rw (e, of_arrow p.at m, tag_in_order ts m rest t, is) refl
  suffix_in_order _ x rest (a_suffix_step {p = p} {s = s} is e) =
      rw (e, of_suffix_step s p.at, step_terminal p.terminal s is) refl

  postfix_in_order : InOrder postfix_written (IsPostfix inner)
  postfix_in_order ts x rest (a_postfix {mid = mid} {head = h} {suffixes = found} r m e) =
      rw (
        e,
        of_postfix h found,
        head_in_order ts h mid r,
        row_in_order suffix_written (IsSuffix inner) suffix_in_order m,
      ) (simp append_assoc)

  unary_in_order : InOrder unary_written (IsUnary inner)
  unary_in_order _ x rest (a_unary_step {p = p} {ts = ts} {s = s} {x = y} is r e) =
      rw (e, of_step s p.at y, i.unary ts y rest r, step_terminal p.terminal s is) refl
  unary_in_order _ x rest (an_operator {p = p} {ts = ts} {op = op} {x = y} is r e) =
      rw (e, of_operator op p.at y, i.cast ts y rest r, unary_terminal p.terminal op is) refl
  unary_in_order _ x rest (sizeof_unary {p = p} {ts = ts} {x = y} is r e) =
      rw (e, of_sizeof p.at y, i.unary ts y rest r, is) refl
  unary_in_order _ x rest
      (sizeof_type {p = p} {q = q} {r = r} {ts = ts} {x = y} is opens t close e) =
      rw (e, of_sizeof_type p.at q.at y r.at, type_in_order ts y (r ∷ rest) t, is, opens, close)
      (simp append_assoc)
  unary_in_order ts x rest (a_postfix_alone {x = y} r e) =
      rw (e, of_postfix_alone y) (postfix_in_order ts y rest r)

  cast_in_order : InOrder cast_written (IsCast inner)
  cast_in_order _ x rest
      (a_cast {p = p} {q = q} {ts = ts} {us = us} {x = y} {c = c} opens t close r e) =
      rw (e, of_cast p.at y q.at c, type_in_order ts y (q ∷ us) t, i.cast us c rest r, opens, close)
      (simp append_assoc)
  cast_in_order ts x rest (a_unary {x = y} r e) = rw (e, of_unary y) (unary_in_order ts y rest r)

  operand_in_order : InOrder lor_written (IsOperand inner)
  operand_in_order ts x rest (an_operand {x = y} r e) =
      rw (e, of_operand y) (cast_in_order ts y rest r)

  chain_in_order : (below : ℕ) → InOrder lor_written (IsLor inner below)
      → InOrder lor_written (IsChain (IsLor inner below) (suc below))
  chain_in_order below f ts x rest (a_chain {mid = mid} {first = first} {links = links} r m e) =
      rw (
        e,
        chained_written first links,
        f ts first mid r,
        row_in_order link_written (IsLink (IsLor inner below) (suc below))
            (link_in_order (IsLor inner below) (suc below) f) m,
      ) (simp append_assoc)

  lor_in_order : (level : ℕ) → InOrder lor_written (IsLor inner level)
  unfolding IsLor
  lor_in_order zero = operand_in_order
  lor_in_order (suc below) = chain_in_order below (lor_in_order below)

  cond_in_order : InOrder cond_written (IsCond inner)
  cond_in_order ts t rest
      (a_choice {p = p} {q = q} {us = us} {vs = vs} c {x = x} {y = y} r is k colon d e) =
      rw (
        e,
        of_choice c p.at x q.at y,
        lor_in_order 10 ts c (p ∷ us) r,
        expr_in_order inner.assign i.assign us x (q ∷ vs) k,
        i.cond vs y rest d,
        is,
        colon,
      )
      (simp append_assoc)
  cond_in_order ts t rest (a_lor c r e) = rw (e, of_lor c) (lor_in_order 10 ts c rest r)

  assign_in_order : InOrder assign_written (IsAssign inner)
  assign_in_order ts t rest (an_assign {p = p} {us = us} {op = op} {x = x} {y = y} r is k e) =
      rw (
        e,
        of_assign x op p.at y,
        unary_in_order ts x (p ∷ us) r,
        i.assign us y rest k,
        assign_terminal p.terminal op is,
      ) (simp append_assoc)
  assign_in_order ts t rest (a_cond {c = c} r e) = rw (e, of_cond c) (cond_in_order ts c rest r)

nested_in_order : (n : ℕ) → InOrders (nested n)
unfolding nested
nested_in_order zero = record {
  cast = λ ts x rest n. absurd n;
  unary = λ ts x rest n. absurd n;
  cond = λ ts x rest n. absurd n;
  assign = λ ts x rest n. absurd n;
}
nested_in_order (suc n) = record {
  cast = cast_in_order (nested_in_order n);
  unary = unary_in_order (nested_in_order n);
  cond = cond_in_order (nested_in_order n);
  assign = assign_in_order (nested_in_order n);
}

pub assigns_in_order : InOrder assign_written Assign
assigns_in_order ts x rest r = assign_in_order (nested_in_order r.0) ts x rest r.1

pub conds_in_order : InOrder cond_written Cond
conds_in_order ts x rest r = cond_in_order (nested_in_order r.0) ts x rest r.1

pub exprs_in_order : InOrder expr_written Expr
exprs_in_order = expr_in_order Assign assigns_in_order
