-- Conditionals and assignments: their readers read what the rules do.
use Rattle.std.proofs.Common.{◌≡◌, refl, ap, sym, subst, ◌∙◌, ◌<◌, Bool, true, false, List, ◌∷◌, length, Option, Some, None, arith}
use Rattle.cx_syntax_tree.specs.declared.terminals.Punctuator.TheVariants as mark
use Rattle.cx_syntax_tree.specs.declared.terminals.Lexeme.{Lexeme}
use Rattle.cx_syntax_tree.specs.declared.expressions.AssignOperator.{AssignOperator}
use Rattle.cx_syntax_tree.specs.declared.expressions.TreeAssign.{TreeAssign}
use Rattle.cx_syntax_tree.specs.declared.expressions.TreeAssign.TheVariants as assign_is
use Rattle.cx_syntax_tree.specs.declared.expressions.TreeCond.{TreeCond}
use Rattle.cx_syntax_tree.specs.declared.expressions.TreeCond.TheVariants as cond_is
use Rattle.cx_syntax_tree.specs.declared.expressions.TreeLor.{TreeLor}
use Rattle.cx_syntax_tree.specs.declared.expressions.TreeLor.TheVariants as lor_is
use Rattle.cx_syntax_tree.specs.declared.expressions.TreeCast.{TreeCast}
use Rattle.cx_syntax_tree.specs.declared.expressions.TreeCast.TheVariants as cast_is
use Rattle.cx_syntax_tree.specs.declared.expressions.TreeUnary.{TreeUnary}
use Rattle.cx_terminals.specs.Terminals.{Is}
use Rattle.cx_reading.specs.Parsing.{and_then, pure, front, take, expect}
use Rattle.cx_reading.proofs.TokenLaws.{some_same, bound, moved, take_some, expect_some, some_expect}
use Rattle.cx_expressions.specs.Operators.{assign_operator}
use Rattle.cx_expressions.specs.Expressions.{Nested, IsExpr, IsLor, IsUnary, IsCond, a_choice, a_lor, IsAssign, an_assign, a_cond}
use Rattle.cx_expressions.specs.declared.roles.Behind.{Behind}
use Rattle.cx_expressions.specs.declared.roles.Behind.TheVariants as behind_is
use Rattle.cx_expressions.specs.Shapes.Roles.{begins_cast, behind_of, follows, binds_of, Stops, Operand}
use Rattle.cx_expressions.specs.Shapes.Parsers.{Next, expr, unary, cast, lor_from, lor, branches, choice_by, choice, cond_from, cond, assign_by, assign_from, assign_if, assign}
use Rattle.cx_expressions.proofs.RoleLaws.{question_is, assign_behind, behind_assign_of, follows_at, colon_stops}
use Rattle.cx_expressions.proofs.InnerLaws.{Rule, InnerLaws}
use Rattle.cx_expressions.proofs.ExprLaws.{expr_law}
use Rattle.cx_expressions.proofs.OperandLaws.{unary_law, unary_plain}
use Rattle.cx_expressions.proofs.ChainLaws.{lor_law, lor_stays}

question_stops : (p : Lexeme) (ts : List Lexeme) → Is mark.Question p → Stops 10 (p ∷ ts)
unfolding follows behind_of front
question_stops p ts is = rw is (omega arith)

assign_stops : (p : Lexeme) (ts : List Lexeme) (op : AssignOperator)
    → assign_operator p.terminal ≡ Some op → Stops 0 (p ∷ ts)
unfolding follows front
assign_stops p ts op is = rw (assign_behind p.terminal op is) (omega arith)

module _ {next : Next} {inner : Nested} (l : InnerLaws next inner) where
  -- ---- conditionals

  cond_step : (o : Option (TreeCast × List Lexeme))
      → and_then o (cond_from next)
      ≡ and_then (and_then (and_then o (λ c. pure (lor_is.Cast c))) (lor_from next 10)) (choice next)
  unfolding cond_from
  cond_step None = refl
  cond_step (Some read) = refl

  regroup : (ts : List Lexeme) → cond next ts ≡ and_then (lor next 10 ts) (choice next)
  unfolding cond lor
  regroup ts = cond_step (cast next ts)

  branches_sound : (c : TreeLor) (ts mid : List Lexeme) (x : TreeCond) (rest : List Lexeme)
      → IsLor inner 10 ts c mid → follows mid ≡ behind_is.Question
      → branches next c mid ≡ Some (x, rest) → IsCond inner ts x rest
  unfolding branches
  branches_sound c ts mid x rest r f e =
      let a = bound (take mid) _ x rest e in
      let whole = take_some mid a.made a.mid a.first in
      let b = bound (expr next a.mid) _ x rest a.second in
      let d = bound (expect mark.Colon b.mid) _ x rest b.second in
      let colon = expect_some mark.Colon b.mid d.made d.mid d.first in
      let g = bound (next.cond d.mid) _ x rest d.second in
      let same = some_same (cond_is.Choice c a.made.at b.made d.made g.made) x g.mid rest g.second in
      let is = question_is a.made.terminal (follows_at mid a.made a.mid _ whole f) in
      let inside : IsExpr inner.assign a.mid b.made (colon.token ∷ d.mid) =
      subst (λ us. IsExpr inner.assign a.mid b.made us) colon.whole
      ((expr_law l).sound a.mid b.made b.mid b.first) in
      let tree : x ≡ cond_is.Choice c a.made.at b.made colon.token.at g.made =
      cc (same.0, colon.holds.1) in
      subst (λ us. IsCond inner ts x us) same.1
      (a_choice c (subst (λ us. IsLor inner 10 ts c us) whole r) is inside colon.holds.0
      (l.cond.sound d.mid g.made g.mid g.first) tree)

  choice_sound : (b : Behind) (c : TreeLor) (ts mid : List Lexeme) (x : TreeCond)
      (rest : List Lexeme) → IsLor inner 10 ts c mid → follows mid ≡ b
      → choice_by next c b mid ≡ Some (x, rest) → IsCond inner ts x rest
  choice_sound behind_is.Question c ts mid x rest r f e = branches_sound c ts mid x rest r f e
  choice_sound _ c ts mid x rest r f e =
      let same = some_same (cond_is.Lor c) x mid rest e in
      moved (IsCond inner) (a_lor c r refl) same.0 same.1

  cond_sound : (ts : List Lexeme) (x : TreeCond) (rest : List Lexeme)
      → cond next ts ≡ Some (x, rest) → IsCond inner ts x rest
  unfolding choice
  cond_sound ts x rest e =
      let a = bound (lor next 10 ts) (choice next) x rest (sym (regroup ts) ∙ e) in
      choice_sound (follows a.mid) a.made ts a.mid x rest
      ((lor_law l 10).sound ts a.made a.mid a.first) refl a.second

  no_question : (b : Behind) → 11 < binds_of b → (c : TreeLor) (ts : List Lexeme)
      → choice_by next c b ts ≡ Some (cond_is.Lor c, ts)
  no_question behind_is.Question h c ts = absurd (omega (arith, h))
  no_question _ h c ts = refl

  choice_complete : (c : TreeLor) (p : Lexeme) (us : List Lexeme) (x : TreeCond)
      (rest : List Lexeme) → Is mark.Question p → branches next c (p ∷ us) ≡ Some (x, rest)
      → choice next c (p ∷ us) ≡ Some (x, rest)
  unfolding choice follows behind_of front branches
  choice_complete c p us x rest is e = rw is e

  cond_complete : (ts : List Lexeme) (x : TreeCond) (rest : List Lexeme) → IsCond inner ts x rest
      → Stops 11 rest → cond next ts ≡ Some (x, rest)
  unfolding choice branches
  cond_complete ts t rest
      (a_choice {p = p} {q = q} {us = us} {vs = vs} c {x = x} {y = y} r is i colon k e) g =
      let both : branches next c (p ∷ us) ≡ Some (t, rest) =
      rw (
        (expr_law l).complete us x (q ∷ vs) i (colon_stops q vs colon),
        some_expect mark.Colon q vs colon,
        l.cond.complete vs y rest k g,
        e,
      ) refl in
      regroup ts ∙ (ap (λ o. and_then o (choice next))
      ((lor_law l 10).complete ts c (p ∷ us) r (question_stops p us is))
      ∙ choice_complete c p us t rest is both)
  cond_complete ts t rest (a_lor c r e) g =
      let weak : Stops 10 rest = omega (arith, g) in
      regroup ts ∙ rw (
        (lor_law l 10).complete ts c rest r weak,
        no_question (follows rest) g c rest,
        e,
      ) refl

  cond_shorter : (ts : List Lexeme) (x : TreeCond) (rest : List Lexeme) → IsCond inner ts x rest
      → length rest < length ts
  cond_shorter ts t rest
      (a_choice {p = p} {q = q} {us = us} {vs = vs} c {x = x} {y = y} r is i colon k e) =
      let a = (lor_law l 10).shorter ts c (p ∷ us) r in
      let b = (expr_law l).shorter us x (q ∷ vs) i in
      let d = l.cond.shorter vs y rest k in omega arith
  cond_shorter ts t rest (a_lor c r e) = (lor_law l 10).shorter ts c rest r

  cond_begins : (ts : List Lexeme) (x : TreeCond) (rest : List Lexeme) → IsCond inner ts x rest
      → Operand ts
  cond_begins ts t rest (a_choice {p = p} {us = us} c r is i colon k e) =
      (lor_law l 10).begins ts c (p ∷ us) r
  cond_begins ts t rest (a_lor c r e) = (lor_law l 10).begins ts c rest r

  pub cond_law : Rule 11 (cond next) (IsCond inner)
  cond_law = record {
    sound = cond_sound;
    complete = cond_complete;
    shorter = cond_shorter;
    begins = cond_begins;
  }

  -- ---- assignments

  -- a conditional goes on from its first unary expression
  cond_of_unary : (ts : List Lexeme) (o : Option (TreeUnary × List Lexeme))
      → begins_cast ts ≡ false → unary next ts ≡ o
      → cond next ts ≡ and_then o (λ u. cond_from next (cast_is.Unary u))
  unfolding cond cast
  cond_of_unary ts None b e = rw (b, e) refl
  cond_of_unary ts (Some read) b e = rw (b, e) refl

  assign_by_sound : (b : Behind) (u : TreeUnary) (ts mid : List Lexeme) (x : TreeAssign)
      (rest : List Lexeme) → begins_cast ts ≡ false → unary next ts ≡ Some (u, mid)
      → follows mid ≡ b → assign_by next u b mid ≡ Some (x, rest) → IsAssign inner ts x rest
  assign_by_sound (behind_is.Assign op) u ts mid x rest plain r f e =
      let a = bound (take mid) (λ p. λ us. and_then (next.assign us)
      (λ y. pure (assign_is.Assign u op p.at y))) x rest e in
      let whole = take_some mid a.made a.mid a.first in
      let c = bound (next.assign a.mid) (λ y. pure (assign_is.Assign u op a.made.at y)) x rest
      a.second in
      let same = some_same (assign_is.Assign u op a.made.at c.made) x c.mid rest c.second in
      let is = behind_assign_of a.made.terminal op (follows_at mid a.made a.mid _ whole f) in
      moved (IsAssign inner) (an_assign
      (subst (λ us. IsUnary inner ts u us) whole ((unary_law l).sound ts u mid r)) is
      (l.assign.sound a.mid c.made c.mid c.first) refl) same.0 same.1
  assign_by_sound _ u ts mid x rest plain r f e =
      let a = bound (cond_from next (cast_is.Unary u) mid) (λ c. pure (assign_is.Cond c)) x rest e in
      let same = some_same (assign_is.Cond a.made) x a.mid rest a.second in
      moved (IsAssign inner) (a_cond (cond_sound ts a.made a.mid
      (cond_of_unary ts (Some (u, mid)) plain r ∙ a.first)) refl) same.0 same.1

  assign_if_sound : (b : Bool) (ts : List Lexeme) (x : TreeAssign) (rest : List Lexeme)
      → begins_cast ts ≡ b → assign_if next b ts ≡ Some (x, rest) → IsAssign inner ts x rest
  unfolding assign_from
  assign_if_sound true ts x rest b e =
      let a = bound (cond next ts) (λ c. pure (assign_is.Cond c)) x rest e in
      let same = some_same (assign_is.Cond a.made) x a.mid rest a.second in
      moved (IsAssign inner) (a_cond (cond_sound ts a.made a.mid a.first) refl) same.0 same.1
  assign_if_sound false ts x rest b e =
      let a = bound (unary next ts) (assign_from next) x rest e in
      assign_by_sound (follows a.mid) a.made ts a.mid x rest b a.first refl a.second

  assign_sound : (ts : List Lexeme) (x : TreeAssign) (rest : List Lexeme)
      → assign next ts ≡ Some (x, rest) → IsAssign inner ts x rest
  unfolding assign
  assign_sound ts x rest e = assign_if_sound (begins_cast ts) ts x rest refl e

  -- in front of an assignment operator stands a conditional that is the unary expression alone
  cond_stays : (u : TreeUnary) (ts : List Lexeme) (op : AssignOperator)
      → follows ts ≡ behind_is.Assign op
      → cond_from next (cast_is.Unary u) ts ≡ Some (cond_is.Lor (lor_is.Cast (cast_is.Unary u)), ts)
  unfolding cond_from choice
  cond_stays u ts op f = rw (lor_stays l 10 (lor_is.Cast (cast_is.Unary u)) ts op f, f) refl

  plain_by : (b : Behind) (u : TreeUnary) (mid : List Lexeme) (c : TreeCond) (rest : List Lexeme)
      → follows mid ≡ b → cond_from next (cast_is.Unary u) mid ≡ Some (c, rest) → Stops 12 rest
      → assign_by next u b mid ≡ Some (assign_is.Cond c, rest)
  plain_by (behind_is.Assign op) u mid c rest f e g =
      let same = some_same (cond_is.Lor (lor_is.Cast (cast_is.Unary u))) c mid rest
      (sym (cond_stays u mid op f) ∙ e) in
      let here : follows rest ≡ behind_is.Assign op = ap follows (sym same.1) ∙ f in
      let stops : 12 < binds_of (behind_is.Assign op) =
      subst (λ b. 12 < binds_of b) here g in
      absurd (omega (arith, stops))
  plain_by _ u mid c rest f e g = rw e refl

  from_unary : (o : Option (TreeUnary × List Lexeme)) (c : TreeCond) (rest : List Lexeme)
      → and_then o (λ u. cond_from next (cast_is.Unary u)) ≡ Some (c, rest) → Stops 12 rest
      → and_then o (assign_from next) ≡ Some (assign_is.Cond c, rest)
  unfolding assign_from
  from_unary None c rest e g = absurd cc
  from_unary (Some read) c rest e g = plain_by (follows read.1) read.0 read.1 c rest refl e g

  cond_as_assign : (b : Bool) (ts : List Lexeme) (c : TreeCond) (rest : List Lexeme)
      → begins_cast ts ≡ b → cond next ts ≡ Some (c, rest) → Stops 12 rest
      → assign_if next b ts ≡ Some (assign_is.Cond c, rest)
  cond_as_assign true ts c rest b e g = rw e refl
  cond_as_assign false ts c rest b e g =
      from_unary (unary next ts) c rest (sym (cond_of_unary ts (unary next ts) b refl) ∙ e) g

  assign_complete : (ts : List Lexeme) (x : TreeAssign) (rest : List Lexeme)
      → IsAssign inner ts x rest → Stops 12 rest → assign next ts ≡ Some (x, rest)
  unfolding assign assign_from follows front
  assign_complete ts t rest (an_assign {p = p} {us = us} {op = op} {x = x} {y = y} r is k e) g =
      rw (
        unary_plain l ts x (p ∷ us) r,
        (unary_law l).complete ts x (p ∷ us) r (assign_stops p us op is),
        assign_behind p.terminal op is,
        l.assign.complete us y rest k g,
        e,
      ) refl
  assign_complete ts t rest (a_cond {c = c} r e) g =
      let weak : Stops 11 rest = omega (arith, g) in
      cond_as_assign (begins_cast ts) ts c rest refl (cond_complete ts c rest r weak) g
      ∙ ap (λ v. Some (v, rest)) (sym e)

  assign_shorter : (ts : List Lexeme) (x : TreeAssign) (rest : List Lexeme)
      → IsAssign inner ts x rest → length rest < length ts
  assign_shorter ts t rest (an_assign {p = p} {us = us} {x = x} {y = y} r is k e) =
      let a = (unary_law l).shorter ts x (p ∷ us) r in
      let b = l.assign.shorter us y rest k in omega arith
  assign_shorter ts t rest (a_cond {c = c} r e) = cond_shorter ts c rest r

  assign_begins : (ts : List Lexeme) (x : TreeAssign) (rest : List Lexeme)
      → IsAssign inner ts x rest → Operand ts
  assign_begins ts t rest (an_assign {p = p} {us = us} {x = x} r is k e) =
      (unary_law l).begins ts x (p ∷ us) r
  assign_begins ts t rest (a_cond {c = c} r e) = cond_begins ts c rest r

  pub assign_law : Rule 12 (assign next) (IsAssign inner)
  assign_law = record {
    sound = assign_sound;
    complete = assign_complete;
    shorter = assign_shorter;
    begins = assign_begins;
  }
