-- Postfix and unary expressions and casts: their readers read what the rules do.
use Rattle.std.proofs.Common.{◌≡◌, refl, sym, subst, ◌∙◌, ℕ, ◌<◌, Bool, true, false, List, ◌∷◌, length, Option, Some, None, arith}
use Rattle.cx_syntax_tree.specs.declared.terminals.Keyword.TheVariants as word
use Rattle.cx_syntax_tree.specs.declared.terminals.Punctuator.TheVariants as mark
use Rattle.cx_syntax_tree.specs.declared.terminals.Terminal.{Terminal}
use Rattle.cx_syntax_tree.specs.declared.terminals.Terminal.TheVariants as terminal_is
use Rattle.cx_syntax_tree.specs.declared.terminals.Lexeme.{Lexeme}
use Rattle.cx_syntax_tree.specs.declared.expressions.Step.{Step}
use Rattle.cx_syntax_tree.specs.declared.expressions.UnaryOperator.{UnaryOperator}
use Rattle.cx_syntax_tree.specs.declared.expressions.NameAt.{NameAt}
use Rattle.cx_syntax_tree.specs.declared.expressions.TreeLor.{TreeLor}
use Rattle.cx_syntax_tree.specs.declared.expressions.TreeLor.TheVariants as lor_is
use Rattle.cx_syntax_tree.specs.declared.expressions.TreeCast.{TreeCast}
use Rattle.cx_syntax_tree.specs.declared.expressions.TreeCast.TheVariants as cast_is
use Rattle.cx_syntax_tree.specs.declared.expressions.TreeUnary.{TreeUnary}
use Rattle.cx_syntax_tree.specs.declared.expressions.TreeUnary.TheVariants as unary_is
use Rattle.cx_syntax_tree.specs.declared.expressions.TreePostfix.{TreePostfix, roll-TreePostfix}
use Rattle.cx_syntax_tree.specs.declared.expressions.TreeSuffix.{TreeSuffix}
use Rattle.cx_syntax_tree.specs.declared.expressions.TreeSuffix.TheVariants as suffix_is
use Rattle.cx_terminals.specs.Terminals.{Is, IsWord}
use Rattle.cx_reading.specs.Types.{IsType, IsTagName, a_tag}
use Rattle.cx_reading.specs.TypeFronts.{begins_type}
use Rattle.cx_reading.specs.Parsing.{and_then, pure, front, second, take, is_mark, expect, tag_name, many}
use Rattle.cx_reading.specs.Shapes.TypeParsers.{type_name}
use Rattle.cx_reading.specs.Agreement.{Items}
use Rattle.cx_reading.proofs.TokenLaws.{some_same, bound, moved, take_some, expect_some, some_expect, tag_some, some_tag}
use Rattle.cx_reading.proofs.RowLaws.{many_sound, many_complete, many_good, many_no_longer}
use Rattle.cx_reading.proofs.TypeLaws.{type_law}
use Rattle.cx_expressions.specs.Expressions.{Nested, IsExpr, IsSuffix, an_index, a_dot, an_arrow, a_step as a_suffix_step, IsPostfix, a_postfix, IsUnary, a_step as a_unary_step, an_operator, sizeof_unary, sizeof_type, a_postfix_alone, IsCast, a_cast, a_unary, IsOperand, an_operand}
use Rattle.cx_expressions.specs.Operators.{step_of}
use Rattle.cx_expressions.specs.declared.roles.Begin.{Begin}
use Rattle.cx_expressions.specs.declared.roles.Begin.TheVariants as begin_is
use Rattle.cx_expressions.specs.declared.roles.Behind.{Behind}
use Rattle.cx_expressions.specs.declared.roles.Behind.TheVariants as behind_is
use Rattle.cx_expressions.specs.Shapes.Roles.{begin_of, begins, begins_cast, cast_front, behind_of, follows, binds_of, Stops, Operand}
use Rattle.cx_expressions.specs.Shapes.Parsers.{Next, expr, index, suffix_by, suffix, head, postfix, size_if, size, unary_by, unary, cast_if, cast, operand}
use Rattle.cx_expressions.proofs.RoleLaws.{step_begins, operator_begins, begins_step, begins_operator, sizeof_is, open_is, step_behind, behind_step_of, index_is, dot_is, arrow_is, step_no_call, begins_at, follows_at, square_stops, close_ends_type}
use Rattle.cx_expressions.proofs.InnerLaws.{Rule, InnerLaws}
use Rattle.cx_expressions.proofs.ExprLaws.{NoCall, stops_no_call, is_primary, primary_operand, expr_law, head_law, head_primary, head_plain}

pub tag_shorter : (ts : List Lexeme) (x : NameAt) (rest : List Lexeme) → IsTagName ts x rest
    → length rest < length ts
tag_shorter _ x rest (a_tag is e) = omega arith

-- a cast begins with a bracket and a type
cast_front_opens : (b : Begin) (t : Terminal) → cast_front b t ≡ true → b ≡ begin_is.Open
cast_front_opens begin_is.Open t e = refl
cast_front_opens _ t e = absurd cc

cast_opens : (ts : List Lexeme) → begins_cast ts ≡ true → begins ts ≡ begin_is.Open
unfolding begins_cast
cast_opens ts e = cast_front_opens (begins ts) (second ts) e

cast_begins : (p : Lexeme) (ts : List Lexeme) → Is mark.OpenRound p → begins_type (front ts) ≡ true
    → begins_cast (p ∷ ts) ≡ true
unfolding begins_cast begins begin_of front second
cast_begins p ts is e = rw is e

sizeof_begins : (t : Terminal) → t ≡ terminal_is.Keyword word.Sizeof → begin_of t ≡ begin_is.Sizeof
unfolding begin_of
sizeof_begins t e = rw e refl

module _ {next : Next} {inner : Nested} (l : InnerLaws next inner) where
  -- ---- suffixes

  index_sound : (ts : List Lexeme) (x : TreeSuffix) (rest : List Lexeme)
      → follows ts ≡ behind_is.Index → index next ts ≡ Some (Some x, rest) → IsSuffix inner ts x rest
  unfolding index
  index_sound ts x rest b e =
      let a = bound (take ts) _ (Some x) rest e in
      let whole = take_some ts a.made a.mid a.first in
      let c = bound (expr next a.mid) _ (Some x) rest a.second in
      let d = bound (expect mark.CloseSquare c.mid) _ (Some x) rest c.second in
      let close = expect_some mark.CloseSquare c.mid d.made d.mid d.first in
      let same = some_same {A = Option TreeSuffix} (Some (suffix_is.Index a.made.at c.made d.made))
      (Some x) d.mid rest d.second in
      let is = index_is a.made.terminal (follows_at ts a.made a.mid _ whole b) in
      let inside : IsExpr inner.assign a.mid c.made (close.token ∷ d.mid) =
      subst (λ us. IsExpr inner.assign a.mid c.made us) close.whole
      ((expr_law l).sound a.mid c.made c.mid c.first) in
      let tree : x ≡ suffix_is.Index a.made.at c.made close.token.at =
      cc (same.0, close.holds.1) in
      subst (λ us. IsSuffix inner us x rest) (sym whole)
      (subst (λ us. IsSuffix inner (a.made ∷ a.mid) x us) same.1
      (an_index is inside close.holds.0 tree))

  dot_sound : (ts : List Lexeme) (x : TreeSuffix) (rest : List Lexeme)
      → follows ts ≡ behind_is.Dot → suffix_by next behind_is.Dot ts ≡ Some (Some x, rest)
      → IsSuffix inner ts x rest
  dot_sound ts x rest b e =
      let a = bound (take ts) (λ p. λ us. and_then (tag_name us)
      (λ member. pure (Some (suffix_is.Dot p.at member)))) (Some x) rest e in
      let whole = take_some ts a.made a.mid a.first in
      let c = bound (tag_name a.mid) (λ member. pure (Some (suffix_is.Dot a.made.at member)))
      (Some x) rest a.second in
      let same = some_same {A = Option TreeSuffix} (Some (suffix_is.Dot a.made.at c.made)) (Some x)
      c.mid rest c.second in
      let is = dot_is a.made.terminal (follows_at ts a.made a.mid _ whole b) in
      let tree : suffix_is.Dot a.made.at c.made ≡ x = cc (same.0) in
      subst (λ us. IsSuffix inner us x rest) (sym whole)
      (moved (IsSuffix inner) (a_dot is (tag_some a.mid c.made c.mid c.first) refl) tree same.1)

  arrow_sound : (ts : List Lexeme) (x : TreeSuffix) (rest : List Lexeme)
      → follows ts ≡ behind_is.Arrow → suffix_by next behind_is.Arrow ts ≡ Some (Some x, rest)
      → IsSuffix inner ts x rest
  arrow_sound ts x rest b e =
      let a = bound (take ts) (λ p. λ us. and_then (tag_name us)
      (λ member. pure (Some (suffix_is.Arrow p.at member)))) (Some x) rest e in
      let whole = take_some ts a.made a.mid a.first in
      let c = bound (tag_name a.mid) (λ member. pure (Some (suffix_is.Arrow a.made.at member)))
      (Some x) rest a.second in
      let same = some_same {A = Option TreeSuffix} (Some (suffix_is.Arrow a.made.at c.made)) (Some x)
      c.mid rest c.second in
      let is = arrow_is a.made.terminal (follows_at ts a.made a.mid _ whole b) in
      let tree : suffix_is.Arrow a.made.at c.made ≡ x = cc (same.0) in
      subst (λ us. IsSuffix inner us x rest) (sym whole)
      (moved (IsSuffix inner) (an_arrow is (tag_some a.mid c.made c.mid c.first) refl) tree same.1)

  suffix_step_sound : (s : Step) (ts : List Lexeme) (x : TreeSuffix) (rest : List Lexeme)
      → follows ts ≡ behind_is.Step s → suffix_by next (behind_is.Step s) ts ≡ Some (Some x, rest)
      → IsSuffix inner ts x rest
  suffix_step_sound s ts x rest b e =
      let a = bound (take ts) (λ p. pure (Some (suffix_is.Step s p.at))) (Some x) rest e in
      let whole = take_some ts a.made a.mid a.first in
      let same = some_same {A = Option TreeSuffix} (Some (suffix_is.Step s a.made.at)) (Some x) a.mid
      rest a.second in
      let is = behind_step_of a.made.terminal s (follows_at ts a.made a.mid _ whole b) in
      let tree : suffix_is.Step s a.made.at ≡ x = cc (same.0) in
      subst (λ us. IsSuffix inner us x rest) (sym whole)
      (moved (IsSuffix inner) (a_suffix_step is refl) tree same.1)

  suffix_sound_by : (b : Behind) (ts : List Lexeme) (x : TreeSuffix) (rest : List Lexeme)
      → follows ts ≡ b → suffix_by next b ts ≡ Some (Some x, rest) → IsSuffix inner ts x rest
  suffix_sound_by behind_is.Index ts x rest b e = index_sound ts x rest b e
  suffix_sound_by behind_is.Dot ts x rest b e = dot_sound ts x rest b e
  suffix_sound_by behind_is.Arrow ts x rest b e = arrow_sound ts x rest b e
  suffix_sound_by (behind_is.Step s) ts x rest b e = suffix_step_sound s ts x rest b e
  suffix_sound_by _ ts x rest b e =
      let same = some_same {A = Option TreeSuffix} None (Some x) ts rest e in absurd cc

  suffix_sound : (ts : List Lexeme) (x : TreeSuffix) (rest : List Lexeme)
      → suffix next ts ≡ Some (Some x, rest) → IsSuffix inner ts x rest
  unfolding suffix
  suffix_sound ts x rest e = suffix_sound_by (follows ts) ts x rest refl e

  index_some : (ts rest : List Lexeme) → index next ts ≡ Some (None, rest) → ⊥
  unfolding index
  index_some ts rest e =
      let a = bound (take ts) _ None rest e in
      let c = bound (expr next a.mid) _ None rest a.second in
      let d = bound (expect mark.CloseSquare c.mid) _ None rest c.second in
      let same = some_same {A = Option TreeSuffix} (Some (suffix_is.Index a.made.at c.made d.made))
      None d.mid rest d.second in
      absurd cc

  member_some : (f : ℕ → NameAt → TreeSuffix) (ts rest : List Lexeme)
      → and_then (take ts) (λ p. λ us. and_then (tag_name us) (λ member. pure (Some (f p.at member))))
      ≡ Some (None, rest) → ⊥
  member_some f ts rest e =
      let a = bound (take ts) (λ p. λ us. and_then (tag_name us)
      (λ member. pure (Some (f p.at member)))) None rest e in
      let c = bound (tag_name a.mid) (λ member. pure (Some (f a.made.at member))) None rest a.second in
      let same = some_same {A = Option TreeSuffix} (Some (f a.made.at c.made)) None c.mid rest
      c.second in
      absurd cc

  suffix_absent_by : (b : Behind) (ts rest : List Lexeme) → suffix_by next b ts ≡ Some (None, rest)
      → rest ≡ ts
  suffix_absent_by behind_is.Index ts rest e = absurd (index_some ts rest e)
  suffix_absent_by behind_is.Dot ts rest e = absurd (member_some suffix_is.Dot ts rest e)
  suffix_absent_by behind_is.Arrow ts rest e = absurd (member_some suffix_is.Arrow ts rest e)
  suffix_absent_by (behind_is.Step s) ts rest e =
      let a = bound (take ts) (λ p. pure (Some (suffix_is.Step s p.at))) None rest e in
      let same = some_same {A = Option TreeSuffix} (Some (suffix_is.Step s a.made.at)) None a.mid rest
      a.second in
      absurd cc
  suffix_absent_by _ ts rest e = sym (some_same {A = Option TreeSuffix} None None ts rest e).1

  suffix_absent : (ts rest : List Lexeme) → suffix next ts ≡ Some (None, rest) → rest ≡ ts
  unfolding suffix
  suffix_absent ts rest e = suffix_absent_by (follows ts) ts rest e

  suffix_step_complete : (p : Lexeme) (s : Step) (x : TreeSuffix) (rest : List Lexeme)
      → step_of p.terminal ≡ Some s → x ≡ suffix_is.Step s p.at
      → suffix_by next (behind_of p.terminal) (p ∷ rest) ≡ Some (Some x, rest)
  suffix_step_complete p s x rest is e = rw (step_behind p.terminal s is, e) refl

  suffix_complete : (ts : List Lexeme) (x : TreeSuffix) (rest : List Lexeme)
      → IsSuffix inner ts x rest → NoCall rest → suffix next ts ≡ Some (Some x, rest)
  unfolding suffix follows behind_of front index
  suffix_complete _ x rest (an_index {q = q} {ts = ts} {x = y} opens i close e) g =
      rw (
        opens,
        (expr_law l).complete ts y (q ∷ rest) i (square_stops q rest close),
        some_expect mark.CloseSquare q rest close,
        e,
      ) refl
  suffix_complete _ x rest (a_dot {ts = ts} {member = m} is t e) g =
      rw (is, some_tag ts m rest t, e) refl
  suffix_complete _ x rest (an_arrow {ts = ts} {member = m} is t e) g =
      rw (is, some_tag ts m rest t, e) refl
  suffix_complete _ x rest (a_suffix_step {p = p} {s = s} is e) g =
      suffix_step_complete p s x rest is e

  suffix_shorter : (ts : List Lexeme) (x : TreeSuffix) (rest : List Lexeme)
      → IsSuffix inner ts x rest → length rest < length ts
  suffix_shorter _ x rest (an_index {q = q} {ts = ts} {x = y} opens i close e) =
      let s = (expr_law l).shorter ts y (q ∷ rest) i in omega arith
  suffix_shorter _ x rest (a_dot {ts = ts} {member = m} is t e) =
      let s = tag_shorter ts m rest t in omega arith
  suffix_shorter _ x rest (an_arrow {ts = ts} {member = m} is t e) =
      let s = tag_shorter ts m rest t in omega arith
  suffix_shorter _ x rest (a_suffix_step is e) = omega arith

  suffix_begins : (ts : List Lexeme) (x : TreeSuffix) (rest : List Lexeme)
      → IsSuffix inner ts x rest → NoCall ts
  unfolding front is_mark
  suffix_begins _ x rest (an_index opens i close e) = rw opens refl
  suffix_begins _ x rest (a_dot is t e) = rw is refl
  suffix_begins _ x rest (an_arrow is t e) = rw is refl
  suffix_begins _ x rest (a_suffix_step {p = p} {s = s} is e) = step_no_call p.terminal s is

  suffix_row : Items NoCall (suffix next) (IsSuffix inner)
  suffix_row = record {
    sound = suffix_sound;
    complete = suffix_complete;
    shorter = suffix_shorter;
    begins = suffix_begins;
    absent = suffix_absent;
  }

  no_suffix_by : (b : Behind) → 0 < binds_of b → (ts : List Lexeme)
      → suffix_by next b ts ≡ Some (None, ts)
  no_suffix_by behind_is.Index h ts = absurd (omega (arith, h))
  no_suffix_by behind_is.Dot h ts = absurd (omega (arith, h))
  no_suffix_by behind_is.Arrow h ts = absurd (omega (arith, h))
  no_suffix_by (behind_is.Step s) h ts = absurd (omega (arith, h))
  no_suffix_by _ h ts = refl

  no_suffix : (ts : List Lexeme) → Stops 0 ts → suffix next ts ≡ Some (None, ts)
  unfolding suffix
  no_suffix ts s = no_suffix_by (follows ts) s ts

  -- ---- postfix expressions

  postfix_sound : (ts : List Lexeme) (x : TreePostfix) (rest : List Lexeme)
      → postfix next ts ≡ Some (x, rest) → IsPostfix inner ts x rest
  unfolding postfix
  postfix_sound ts x rest e =
      let a = bound (head next ts) _ x rest e in
      let b = bound (many (suffix next) a.mid) _ x rest a.second in
      let same = some_same (roll-TreePostfix (record { head = a.made; suffixes = b.made })) x b.mid
      rest b.second in
      moved (IsPostfix inner) (a_postfix ((head_law l).sound ts a.made a.mid a.first)
      (many_sound suffix_row a.mid b.made b.mid b.first) refl) same.0 same.1

  postfix_complete : (ts : List Lexeme) (x : TreePostfix) (rest : List Lexeme)
      → IsPostfix inner ts x rest → Stops 0 rest → postfix next ts ≡ Some (x, rest)
  unfolding postfix
  postfix_complete ts x rest (a_postfix {mid = mid} {head = h} {suffixes = found} i m e) s =
      let call = stops_no_call rest s in
      rw (
        (head_law l).complete ts h mid i (many_good suffix_row m call),
        many_complete suffix_row mid found rest m call (no_suffix rest s),
        e,
      ) refl

  postfix_shorter : (ts : List Lexeme) (x : TreePostfix) (rest : List Lexeme)
      → IsPostfix inner ts x rest → length rest < length ts
  postfix_shorter ts x rest (a_postfix {mid = mid} {head = h} i m e) =
      let a = (head_law l).shorter ts h mid i in let b = many_no_longer suffix_row m in omega arith

  postfix_primary : (ts : List Lexeme) (x : TreePostfix) (rest : List Lexeme)
      → IsPostfix inner ts x rest → is_primary (begins ts) ≡ true
  postfix_primary ts x rest (a_postfix {mid = mid} {head = h} i m e) = head_primary l ts h mid i

  postfix_plain : (ts : List Lexeme) (x : TreePostfix) (rest : List Lexeme)
      → IsPostfix inner ts x rest → begins_cast ts ≡ false
  postfix_plain ts x rest (a_postfix {mid = mid} {head = h} i m e) = head_plain l ts h mid i

  -- ---- unary expressions

  size_type_sound : (p : Lexeme) (ts : List Lexeme) (x : TreeUnary) (rest : List Lexeme)
      → IsWord word.Sizeof p → begins_cast ts ≡ true → size_if next true p.at ts ≡ Some (x, rest)
      → IsUnary inner (p ∷ ts) x rest
  size_type_sound p ts x rest is b e =
      let a = bound (take ts) _ x rest e in
      let whole = take_some ts a.made a.mid a.first in
      let c = bound (type_name a.mid) _ x rest a.second in
      let d = bound (expect mark.CloseRound c.mid) _ x rest c.second in
      let close = expect_some mark.CloseRound c.mid d.made d.mid d.first in
      let same = some_same (unary_is.SizeofType p.at a.made.at c.made d.made) x d.mid rest d.second in
      let opens = cast_opens ts b in
      let bracket = open_is a.made.terminal (begins_at ts a.made a.mid _ whole opens) in
      let inside : IsType a.mid c.made (close.token ∷ d.mid) =
      subst (λ us. IsType a.mid c.made us) close.whole (type_law.sound a.mid c.made c.mid c.first) in
      let tree : x ≡ unary_is.SizeofType p.at a.made.at c.made close.token.at =
      cc (same.0, close.holds.1) in
      subst (λ us. IsUnary inner (p ∷ us) x rest) (sym whole)
      (subst (λ us. IsUnary inner (p ∷ a.made ∷ a.mid) x us) same.1
      (sizeof_type is bracket inside close.holds.0 tree))

  size_by : (p : Lexeme) (b : Bool) (ts : List Lexeme) (x : TreeUnary) (rest : List Lexeme)
      → IsWord word.Sizeof p → begins_cast ts ≡ b → size_if next b p.at ts ≡ Some (x, rest)
      → IsUnary inner (p ∷ ts) x rest
  size_by p true ts x rest is b e = size_type_sound p ts x rest is b e
  size_by p false ts x rest is b e =
      let a = bound (next.unary ts) (λ y. pure (unary_is.SizeofUnary p.at y)) x rest e in
      let same = some_same (unary_is.SizeofUnary p.at a.made) x a.mid rest a.second in
      moved (IsUnary inner) (sizeof_unary is (l.unary.sound ts a.made a.mid a.first) refl) same.0
      same.1

  sizeof_sound : (ts : List Lexeme) (x : TreeUnary) (rest : List Lexeme)
      → begins ts ≡ begin_is.Sizeof → unary_by next begin_is.Sizeof ts ≡ Some (x, rest)
      → IsUnary inner ts x rest
  unfolding size
  sizeof_sound ts x rest b e =
      let a = bound (take ts) (λ p. size next p.at) x rest e in
      let whole = take_some ts a.made a.mid a.first in
      let is = sizeof_is a.made.terminal (begins_at ts a.made a.mid _ whole b) in
      subst (λ us. IsUnary inner us x rest) (sym whole)
      (size_by a.made (begins_cast a.mid) a.mid x rest is refl a.second)

  unary_step_sound : (s : Step) (ts : List Lexeme) (x : TreeUnary) (rest : List Lexeme)
      → begins ts ≡ begin_is.Step s → unary_by next (begin_is.Step s) ts ≡ Some (x, rest)
      → IsUnary inner ts x rest
  unary_step_sound s ts x rest b e =
      let a = bound (take ts) (λ p. λ us. and_then (next.unary us)
      (λ y. pure (unary_is.Step s p.at y))) x rest e in
      let whole = take_some ts a.made a.mid a.first in
      let c = bound (next.unary a.mid) (λ y. pure (unary_is.Step s a.made.at y)) x rest a.second in
      let same = some_same (unary_is.Step s a.made.at c.made) x c.mid rest c.second in
      let is = begins_step a.made.terminal s (begins_at ts a.made a.mid _ whole b) in
      subst (λ us. IsUnary inner us x rest) (sym whole)
      (moved (IsUnary inner) (a_unary_step is (l.unary.sound a.mid c.made c.mid c.first) refl)
      same.0 same.1)

  unary_operator_sound : (op : UnaryOperator) (ts : List Lexeme) (x : TreeUnary)
      (rest : List Lexeme) → begins ts ≡ begin_is.Operator op
      → unary_by next (begin_is.Operator op) ts ≡ Some (x, rest) → IsUnary inner ts x rest
  unary_operator_sound op ts x rest b e =
      let a = bound (take ts) (λ p. λ us. and_then (next.cast us)
      (λ y. pure (unary_is.Operator op p.at y))) x rest e in
      let whole = take_some ts a.made a.mid a.first in
      let c = bound (next.cast a.mid) (λ y. pure (unary_is.Operator op a.made.at y)) x rest
      a.second in
      let same = some_same (unary_is.Operator op a.made.at c.made) x c.mid rest c.second in
      let is = begins_operator a.made.terminal op (begins_at ts a.made a.mid _ whole b) in
      subst (λ us. IsUnary inner us x rest) (sym whole)
      (moved (IsUnary inner) (an_operator is (l.cast.sound a.mid c.made c.mid c.first) refl)
      same.0 same.1)

  postfix_alone : (ts : List Lexeme) (x : TreeUnary) (rest : List Lexeme)
      → and_then (postfix next ts) (λ y. pure (unary_is.Postfix y)) ≡ Some (x, rest)
      → IsUnary inner ts x rest
  postfix_alone ts x rest e =
      let a = bound (postfix next ts) (λ y. pure (unary_is.Postfix y)) x rest e in
      let same = some_same (unary_is.Postfix a.made) x a.mid rest a.second in
      moved (IsUnary inner) (a_postfix_alone (postfix_sound ts a.made a.mid a.first) refl) same.0
      same.1

  unary_sound_by : (b : Begin) (ts : List Lexeme) (x : TreeUnary) (rest : List Lexeme)
      → begins ts ≡ b → unary_by next b ts ≡ Some (x, rest) → IsUnary inner ts x rest
  unary_sound_by (begin_is.Step s) ts x rest b e = unary_step_sound s ts x rest b e
  unary_sound_by (begin_is.Operator op) ts x rest b e = unary_operator_sound op ts x rest b e
  unary_sound_by begin_is.Sizeof ts x rest b e = sizeof_sound ts x rest b e
  unary_sound_by _ ts x rest b e = postfix_alone ts x rest e

  unary_sound : (ts : List Lexeme) (x : TreeUnary) (rest : List Lexeme)
      → unary next ts ≡ Some (x, rest) → IsUnary inner ts x rest
  unfolding unary
  unary_sound ts x rest e = unary_sound_by (begins ts) ts x rest refl e

  primary_unary : (b : Begin) (ts : List Lexeme) → is_primary b ≡ true
      → unary_by next b ts ≡ and_then (postfix next ts) (λ y. pure (unary_is.Postfix y))
  primary_unary (begin_is.Step s) ts e = absurd cc
  primary_unary (begin_is.Operator op) ts e = absurd cc
  primary_unary begin_is.Sizeof ts e = absurd cc
  primary_unary _ ts e = refl

  unary_complete : (ts : List Lexeme) (x : TreeUnary) (rest : List Lexeme)
      → IsUnary inner ts x rest → Stops 0 rest → unary next ts ≡ Some (x, rest)
  unfolding unary begins front size
  unary_complete _ x rest (a_unary_step {p = p} {ts = ts} {s = s} {x = y} is r e) g =
      rw (step_begins p.terminal s is, l.unary.complete ts y rest r g, e) refl
  unary_complete _ x rest (an_operator {p = p} {ts = ts} {op = op} {x = y} is r e) g =
      rw (operator_begins p.terminal op is, l.cast.complete ts y rest r g, e) refl
  unary_complete _ x rest (sizeof_unary {p = p} {ts = ts} {x = y} is r e) g =
      rw (sizeof_begins p.terminal is, l.plain ts y rest r, l.unary.complete ts y rest r g, e) refl
  unary_complete _ x rest
      (sizeof_type {p = p} {q = q} {r = r} {ts = ts} {x = y} is opens t close e) g =
      rw (
        sizeof_begins p.terminal is,
        cast_begins q ts opens (type_law.begins ts y (r ∷ rest) t),
        type_law.complete ts y (r ∷ rest) t (close_ends_type r rest close),
        some_expect mark.CloseRound r rest close,
        e,
      ) refl
  unary_complete ts x rest (a_postfix_alone {x = y} r e) g =
      primary_unary (begins ts) ts (postfix_primary ts y rest r)
      ∙ rw (postfix_complete ts y rest r g, e) refl

  unary_shorter : (ts : List Lexeme) (x : TreeUnary) (rest : List Lexeme)
      → IsUnary inner ts x rest → length rest < length ts
  unary_shorter _ x rest (a_unary_step {ts = ts} {x = y} is r e) =
      let s = l.unary.shorter ts y rest r in omega arith
  unary_shorter _ x rest (an_operator {ts = ts} {x = y} is r e) =
      let s = l.cast.shorter ts y rest r in omega arith
  unary_shorter _ x rest (sizeof_unary {ts = ts} {x = y} is r e) =
      let s = l.unary.shorter ts y rest r in omega arith
  unary_shorter _ x rest (sizeof_type {r = r} {ts = ts} {x = y} is opens t close e) =
      let s = type_law.shorter ts y (r ∷ rest) t in omega arith
  unary_shorter ts x rest (a_postfix_alone {x = y} r e) = postfix_shorter ts y rest r

  unary_begins : (ts : List Lexeme) (x : TreeUnary) (rest : List Lexeme)
      → IsUnary inner ts x rest → Operand ts
  unfolding begins front
  unary_begins _ x rest (a_unary_step {p = p} {s = s} is r e) =
      rw (step_begins p.terminal s is) refl
  unary_begins _ x rest (an_operator {p = p} {op = op} is r e) =
      rw (operator_begins p.terminal op is) refl
  unary_begins _ x rest (sizeof_unary {p = p} is r e) = rw (sizeof_begins p.terminal is) refl
  unary_begins _ x rest (sizeof_type {p = p} is opens t close e) =
      rw (sizeof_begins p.terminal is) refl
  unary_begins ts x rest (a_postfix_alone {x = y} r e) =
      primary_operand (begins ts) (postfix_primary ts y rest r)

  -- a unary expression is no cast
  pub unary_plain : (ts : List Lexeme) (x : TreeUnary) (rest : List Lexeme)
      → IsUnary inner ts x rest → begins_cast ts ≡ false
  unfolding begins_cast begins front
  unary_plain _ x rest (a_unary_step {p = p} {s = s} is r e) =
      rw (step_begins p.terminal s is) refl
  unary_plain _ x rest (an_operator {p = p} {op = op} is r e) =
      rw (operator_begins p.terminal op is) refl
  unary_plain _ x rest (sizeof_unary {p = p} is r e) = rw (sizeof_begins p.terminal is) refl
  unary_plain _ x rest (sizeof_type {p = p} is opens t close e) =
      rw (sizeof_begins p.terminal is) refl
  unary_plain ts x rest (a_postfix_alone {x = y} r e) = postfix_plain ts y rest r

  pub unary_law : Rule 0 (unary next) (IsUnary inner)
  unary_law = record {
    sound = unary_sound;
    complete = unary_complete;
    shorter = unary_shorter;
    begins = unary_begins;
  }

  -- ---- casts

  cast_type_sound : (ts : List Lexeme) (x : TreeCast) (rest : List Lexeme)
      → begins_cast ts ≡ true → cast_if next true ts ≡ Some (x, rest) → IsCast inner ts x rest
  cast_type_sound ts x rest b e =
      let a = bound (take ts) _ x rest e in
      let whole = take_some ts a.made a.mid a.first in
      let c = bound (type_name a.mid) _ x rest a.second in
      let d = bound (expect mark.CloseRound c.mid) _ x rest c.second in
      let close = expect_some mark.CloseRound c.mid d.made d.mid d.first in
      let f = bound (next.cast d.mid) _ x rest d.second in
      let same = some_same (cast_is.Cast a.made.at c.made d.made f.made) x f.mid rest f.second in
      let bracket = open_is a.made.terminal (begins_at ts a.made a.mid _ whole (cast_opens ts b)) in
      let inside : IsType a.mid c.made (close.token ∷ d.mid) =
      subst (λ us. IsType a.mid c.made us) close.whole (type_law.sound a.mid c.made c.mid c.first) in
      let tree : x ≡ cast_is.Cast a.made.at c.made close.token.at f.made =
      cc (same.0, close.holds.1) in
      subst (λ us. IsCast inner us x rest) (sym whole)
      (subst (λ us. IsCast inner (a.made ∷ a.mid) x us) same.1
      (a_cast bracket inside close.holds.0 (l.cast.sound d.mid f.made f.mid f.first) tree))

  cast_by : (b : Bool) (ts : List Lexeme) (x : TreeCast) (rest : List Lexeme)
      → begins_cast ts ≡ b → cast_if next b ts ≡ Some (x, rest) → IsCast inner ts x rest
  cast_by true ts x rest b e = cast_type_sound ts x rest b e
  cast_by false ts x rest b e =
      let a = bound (unary next ts) (λ y. pure (cast_is.Unary y)) x rest e in
      let same = some_same (cast_is.Unary a.made) x a.mid rest a.second in
      moved (IsCast inner) (a_unary (unary_sound ts a.made a.mid a.first) refl) same.0 same.1

  cast_sound : (ts : List Lexeme) (x : TreeCast) (rest : List Lexeme)
      → cast next ts ≡ Some (x, rest) → IsCast inner ts x rest
  unfolding cast
  cast_sound ts x rest e = cast_by (begins_cast ts) ts x rest refl e

  cast_complete : (ts : List Lexeme) (x : TreeCast) (rest : List Lexeme) → IsCast inner ts x rest
      → Stops 0 rest → cast next ts ≡ Some (x, rest)
  unfolding cast
  cast_complete _ x rest
      (a_cast {p = p} {q = q} {ts = ts} {us = us} {x = y} {c = c} opens t close r e) g =
      rw (
        cast_begins p ts opens (type_law.begins ts y (q ∷ us) t),
        type_law.complete ts y (q ∷ us) t (close_ends_type q us close),
        some_expect mark.CloseRound q us close,
        l.cast.complete us c rest r g,
        e,
      ) refl
  cast_complete ts x rest (a_unary {x = y} r e) g =
      rw (unary_plain ts y rest r, unary_complete ts y rest r g, e) refl

  cast_shorter : (ts : List Lexeme) (x : TreeCast) (rest : List Lexeme) → IsCast inner ts x rest
      → length rest < length ts
  cast_shorter _ x rest (a_cast {q = q} {ts = ts} {us = us} {x = y} {c = c} opens t close r e) =
      let s = type_law.shorter ts y (q ∷ us) t in let m = l.cast.shorter us c rest r in omega arith
  cast_shorter ts x rest (a_unary {x = y} r e) = unary_shorter ts y rest r

  cast_operand : (ts : List Lexeme) (x : TreeCast) (rest : List Lexeme) → IsCast inner ts x rest
      → Operand ts
  unfolding begins begin_of front
  cast_operand _ x rest (a_cast opens t close r e) = rw opens refl
  cast_operand ts x rest (a_unary {x = y} r e) = unary_begins ts y rest r

  pub cast_law : Rule 0 (cast next) (IsCast inner)
  cast_law = record {
    sound = cast_sound;
    complete = cast_complete;
    shorter = cast_shorter;
    begins = cast_operand;
  }

  -- ---- operands of chains

  operand_sound : (ts : List Lexeme) (x : TreeLor) (rest : List Lexeme)
      → operand next ts ≡ Some (x, rest) → IsOperand inner ts x rest
  operand_sound ts x rest e =
      let a = bound (cast next ts) (λ y. pure (lor_is.Cast y)) x rest e in
      let same = some_same (lor_is.Cast a.made) x a.mid rest a.second in
      moved (IsOperand inner) (an_operand (cast_sound ts a.made a.mid a.first) refl) same.0 same.1

  operand_complete : (ts : List Lexeme) (x : TreeLor) (rest : List Lexeme)
      → IsOperand inner ts x rest → Stops 0 rest → operand next ts ≡ Some (x, rest)
  operand_complete ts x rest (an_operand {x = y} r e) g =
      rw (cast_complete ts y rest r g, e) refl

  operand_shorter : (ts : List Lexeme) (x : TreeLor) (rest : List Lexeme)
      → IsOperand inner ts x rest → length rest < length ts
  operand_shorter ts x rest (an_operand {x = y} r e) = cast_shorter ts y rest r

  operand_begins : (ts : List Lexeme) (x : TreeLor) (rest : List Lexeme)
      → IsOperand inner ts x rest → Operand ts
  operand_begins ts x rest (an_operand {x = y} r e) = cast_operand ts y rest r

  pub operand_law : Rule 0 (operand next) (IsOperand inner)
  operand_law = record {
    sound = operand_sound;
    complete = operand_complete;
    shorter = operand_shorter;
    begins = operand_begins;
  }
