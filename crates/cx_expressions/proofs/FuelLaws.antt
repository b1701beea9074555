-- What reads nested so deep reads nested deeper.
use Rattle.std.proofs.Common.{◌≡◌, subst, ℕ, zero, suc, ◌+◌, ◌-◌, ◌≤◌, List, ◌∷◌, arith}
use Rattle.cx_syntax_tree.specs.declared.terminals.Lexeme.{Lexeme}
use Rattle.cx_syntax_tree.specs.declared.expressions.TreeExpr.{TreeExpr}
use Rattle.cx_syntax_tree.specs.declared.expressions.TreeAssign.{TreeAssign}
use Rattle.cx_syntax_tree.specs.declared.expressions.TreeLor.{TreeLor}
use Rattle.cx_syntax_tree.specs.declared.expressions.CommaAssign.{CommaAssign}
use Rattle.cx_reading.specs.Rules.{Relation, Many, no_more, one_more, Maybe, without, with_one, AfterComma, comma}
use Rattle.cx_reading.proofs.TypeLaws.{many_map}
use Rattle.cx_expressions.specs.Expressions.{Nested, nested, comma_assign, IsExpr, an_expr, IsArguments, arguments, IsHead, a_call, a_name, a_number, a_char, a_string, in_brackets, IsSuffix, an_index, a_dot, an_arrow, a_step as a_suffix_step, IsPostfix, a_postfix, IsUnary, a_step as a_unary_step, an_operator, sizeof_unary, sizeof_type, a_postfix_alone, IsCast, a_cast, a_unary, IsOperand, an_operand, IsLink, a_link, IsChain, a_chain, IsLor, IsCond, a_choice, a_lor, IsAssign, an_assign, a_cond, Assign, Cond, Expr}

-- a rule within another
abbrev pub Within : {A : Type 0} → Relation A → Relation A → Type 0
Within {A} R S = (ts : List Lexeme) (x : A) (rest : List Lexeme) → R ts x rest → S ts x rest

pub comma_within : {R S : Relation TreeAssign} → Within R S
    → Within (AfterComma comma_assign R) (AfterComma comma_assign S)
comma_within f ts x rest (comma {mid = mid} {x = y} m r e) = comma m (f mid y rest r) e

pub expr_within : {R S : Relation TreeAssign} → Within R S → Within (IsExpr R) (IsExpr S)
expr_within f ts x rest (an_expr {mid = mid} {first = first} r m e) =
    an_expr (f ts first mid r) (many_map (comma_within f) m) e

arguments_within : {R S : Relation TreeAssign} → Within R S → Within (IsArguments R) (IsArguments S)
arguments_within f ts x rest (arguments {mid = mid} {first = first} r m e) =
    arguments (f ts first mid r) (many_map (comma_within f) m) e

given_within : {R S : Relation TreeAssign} → Within R S
    → Within (Maybe (IsArguments R)) (Maybe (IsArguments S))
given_within f ts x rest without = without
given_within f ts x rest (with_one {x = y} r) = with_one (arguments_within f ts y rest r)

link_within : {R S : Relation TreeLor} (level : ℕ) → Within R S
    → Within (IsLink R level) (IsLink S level)
link_within level f _ x rest (a_link {ts = ts} {x = y} is at r e) = a_link is at (f ts y rest r) e

pub record Inside (inner outer : Nested) : Type 0 where
  pub cast : Within inner.cast outer.cast
  pub unary : Within inner.unary outer.unary
  pub cond : Within inner.cond outer.cond
  pub assign : Within inner.assign outer.assign

module _ {inner outer : Nested} (i : Inside inner outer) where
  head_within : Within (IsHead inner) (IsHead outer)
  head_within _ x rest (a_call {r = r} {ts = ts} {arguments = a} is opens m close e) =
      a_call is opens (given_within i.assign ts a (r ∷ rest) m) close e
  head_within _ x rest (a_name is e) = a_name is e
  head_within _ x rest (a_number is e) = a_number is e
  head_within _ x rest (a_char is e) = a_char is e
  head_within _ x rest (a_string is e) = a_string is e
  head_within _ x rest (in_brackets {q = q} {ts = ts} {x = y} opens r close e) =
      in_brackets opens (expr_within i.assign ts y (q ∷ rest) r) close e

  suffix_within : Within (IsSuffix inner) (IsSuffix outer)
  suffix_within _ x rest (an_index {q = q} {ts = ts} {x = y} opens r close e) =
      an_index opens (expr_within i.assign ts y (q ∷ rest) r) close e
  suffix_within _ x rest (a_dot is t e) = a_dot is t e
  suffix_within _ x rest (an_arrow is t e) = an_arrow is t e
  suffix_within _ x rest (a_suffix_step is e) = a_suffix_step is e

  postfix_within : Within (IsPostfix inner) (IsPostfix outer)
  postfix_within ts x rest (a_postfix {mid = mid} {head = h} r m e) =
      a_postfix (head_within ts h mid r) (many_map suffix_within m) e

  unary_within : Within (IsUnary inner) (IsUnary outer)
  unary_within _ x rest (a_unary_step {ts = ts} {x = y} is r e) =
      a_unary_step is (i.unary ts y rest r) e
  unary_within _ x rest (an_operator {ts = ts} {x = y} is r e) =
      an_operator is (i.cast ts y rest r) e
  unary_within _ x rest (sizeof_unary {ts = ts} {x = y} is r e) =
      sizeof_unary is (i.unary ts y rest r) e
  unary_within _ x rest (sizeof_type is opens t close e) = sizeof_type is opens t close e
  unary_within ts x rest (a_postfix_alone {x = y} r e) =
      a_postfix_alone (postfix_within ts y rest r) e

  cast_within : Within (IsCast inner) (IsCast outer)
  cast_within _ x rest (a_cast {us = us} {c = c} opens t close r e) =
      a_cast opens t close (i.cast us c rest r) e
  cast_within ts x rest (a_unary {x = y} r e) = a_unary (unary_within ts y rest r) e

  operand_within : Within (IsOperand inner) (IsOperand outer)
  operand_within ts x rest (an_operand {x = y} r e) = an_operand (cast_within ts y rest r) e

  chain_within : (below : ℕ) → Within (IsLor inner below) (IsLor outer below)
      → Within (IsChain (IsLor inner below) (suc below)) (IsChain (IsLor outer below) (suc below))
  chain_within below f ts x rest (a_chain {mid = mid} {first = first} r m e) =
      a_chain (f ts first mid r) (many_map (link_within (suc below) f) m) e

  lor_within : (level : ℕ) → Within (IsLor inner level) (IsLor outer level)
  unfolding IsLor
  lor_within zero = operand_within
  lor_within (suc below) = chain_within below (lor_within below)

  cond_within : Within (IsCond inner) (IsCond outer)
  cond_within ts x rest
      (a_choice {p = p} {q = q} {us = us} {vs = vs} c {x = y} {y = z} r is k colon d e) =
      a_choice c (lor_within 10 ts c (p ∷ us) r) is (expr_within i.assign us y (q ∷ vs) k) colon
      (i.cond vs z rest d) e
  cond_within ts x rest (a_lor c r e) = a_lor c (lor_within 10 ts c rest r) e

  assign_within : Within (IsAssign inner) (IsAssign outer)
  assign_within ts x rest (an_assign {p = p} {us = us} {x = y} {y = z} r is k e) =
      an_assign (unary_within ts y (p ∷ us) r) is (i.assign us z rest k) e
  assign_within ts x rest (a_cond {c = c} r e) = a_cond (cond_within ts c rest r) e

one_deeper : (n : ℕ) → Inside (nested n) (nested (suc n))
unfolding nested
one_deeper zero = record {
  cast = λ ts x rest n. absurd n;
  unary = λ ts x rest n. absurd n;
  cond = λ ts x rest n. absurd n;
  assign = λ ts x rest n. absurd n;
}
one_deeper (suc n) = record {
  cast = cast_within (one_deeper n);
  unary = unary_within (one_deeper n);
  cond = cond_within (one_deeper n);
  assign = assign_within (one_deeper n);
}

same_depth : (n m : ℕ) → n ≡ m → Inside (nested n) (nested m)
same_depth n m e = subst (λ k. Inside (nested n) (nested k)) e (record {
  cast = λ ts x rest r. r;
  unary = λ ts x rest r. r;
  cond = λ ts x rest r. r;
  assign = λ ts x rest r. r;
})

next_depth : (k n : ℕ) → Inside (nested n) (nested (suc (k + n)))
    → Inside (nested n) (nested (suc k + n))
next_depth k n i =
    let e : suc (k + n) ≡ suc k + n = omega arith in
    subst (λ m. Inside (nested n) (nested m)) e i

deeper_by : (k n : ℕ) → Inside (nested n) (nested (k + n))
deeper_by zero n = same_depth n (zero + n) (omega arith)
deeper_by (suc k) n =
    let below = deeper_by k n in
    let above = one_deeper (k + n) in
    next_depth k n (record {
      cast = λ ts x rest r. above.cast ts x rest (below.cast ts x rest r);
      unary = λ ts x rest r. above.unary ts x rest (below.unary ts x rest r);
      cond = λ ts x rest r. above.cond ts x rest (below.cond ts x rest r);
      assign = λ ts x rest r. above.assign ts x rest (below.assign ts x rest r);
    })

pub deeper : (n m : ℕ) → n ≤ m → Inside (nested n) (nested m)
deeper n m h =
    let e : (m - n) + n ≡ m = omega arith in
    subst (λ k. Inside (nested n) (nested k)) e (deeper_by (m - n) n)

-- a rule of the nested ones is one more level of what is nested less deep
pub assign_of_nested : (n : ℕ) → Within (nested n).assign Assign
unfolding nested
assign_of_nested zero ts x rest r = absurd r
assign_of_nested (suc n) ts x rest r = (n, r)

pub cond_of_nested : (n : ℕ) → Within (nested n).cond Cond
unfolding nested
cond_of_nested zero ts x rest r = absurd r
cond_of_nested (suc n) ts x rest r = (n, r)

pub nested_assign : (n m : ℕ) → n ≤ m → Within (IsAssign (nested n)) (nested (suc m)).assign
unfolding nested
nested_assign n m h ts x rest r = assign_within (deeper n m h) ts x rest r

pub nested_cond : (n m : ℕ) → n ≤ m → Within (IsCond (nested n)) (nested (suc m)).cond
unfolding nested
nested_cond n m h ts x rest r = cond_within (deeper n m h) ts x rest r

-- the assignments of an expression nest at most as deep as one of them
pub record Depth (ts : List Lexeme) (x : TreeExpr) (rest : List Lexeme) : Type 0 where
  pub depth : ℕ
  pub reads : IsExpr (nested depth).assign ts x rest

record RowDepth (ts : List Lexeme) (xs : List CommaAssign) (rest : List Lexeme) : Type 0 where
  depth : ℕ
  reads : Many (AfterComma comma_assign (nested depth).assign) ts xs rest

row_depth : {ts : List Lexeme} {xs : List CommaAssign} {rest : List Lexeme}
    → Many (AfterComma comma_assign Assign) ts xs rest → RowDepth ts xs rest
row_depth no_more = record { depth = 0; reads = no_more }
row_depth (one_more {mid = mid} {rest = rest} (comma {mid = us} {x = y} m r e) more) =
    let others = row_depth more in
    record {
      depth = suc (r.0 + others.depth);
      reads = one_more (comma m (nested_assign r.0 (r.0 + others.depth) (omega arith) us y mid r.1) e)
          (many_map (comma_within (deeper others.depth (suc (r.0 + others.depth)) (omega arith)).assign)
          others.reads);
    }

pub expr_depth : (ts : List Lexeme) (x : TreeExpr) (rest : List Lexeme) → Expr ts x rest
    → Depth ts x rest
expr_depth ts x rest (an_expr {mid = mid} {first = first} r m e) =
    let others = row_depth m in
    record {
      depth = suc (r.0 + others.depth);
      reads = an_expr (nested_assign r.0 (r.0 + others.depth) (omega arith) ts first mid r.1)
          (many_map (comma_within (deeper others.depth (suc (r.0 + others.depth)) (omega arith)).assign)
          others.reads) e;
    }
