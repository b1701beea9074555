-- Expressions with commas, arguments and heads: their readers read what the rules do.
use Rattle.std.proofs.Common.{◌≡◌, refl, sym, subst, ◌∙◌, ℕ, ◌<◌, ◌≤◌, Bool, true, false, List, ◌∷◌, length, Option, Some, None, arith}
use Rattle.cx_syntax_tree.specs.declared.terminals.Punctuator.TheVariants as mark
use Rattle.cx_syntax_tree.specs.declared.terminals.Lexeme.{Lexeme}
use Rattle.cx_syntax_tree.specs.declared.expressions.CommaAssign.{CommaAssign}
use Rattle.cx_syntax_tree.specs.declared.expressions.TreeExpr.{TreeExpr, roll-TreeExpr}
use Rattle.cx_syntax_tree.specs.declared.expressions.TreeArguments.{TreeArguments, roll-TreeArguments}
use Rattle.cx_syntax_tree.specs.declared.expressions.TreeHead.{TreeHead}
use Rattle.cx_syntax_tree.specs.declared.expressions.TreeHead.TheVariants as head_is
use Rattle.cx_terminals.specs.Terminals.{Is, IsName}
use Rattle.cx_reading.specs.Rules.{Many, Maybe, without, with_one, AfterComma}
use Rattle.cx_reading.specs.Types.{named}
use Rattle.cx_reading.specs.Parsing.{pure, front, take, is_mark, expect, eat, after_comma}
use Rattle.cx_reading.specs.Agreement.{Law, Items}
use Rattle.cx_reading.proofs.TokenLaws.{some_same, bound, moved, take_some, expect_some, some_expect, eat_some, eat_none, some_eat, none_eat, true_mark}
use Rattle.cx_reading.proofs.RowLaws.{many_sound, many_complete, many_good, many_no_longer, comma_items}
use Rattle.cx_expressions.specs.Expressions.{Nested, comma_assign, IsExpr, an_expr, IsArguments, arguments as some_arguments, IsHead, a_call, a_name, a_number, a_char, a_string, in_brackets}
use Rattle.cx_expressions.specs.declared.roles.Begin.{Begin}
use Rattle.cx_expressions.specs.declared.roles.Begin.TheVariants as begin_is
use Rattle.cx_expressions.specs.Shapes.Roles.{begin_of, is_operand, begins, begins_cast, follows, Stops, Operand}
use Rattle.cx_reading.specs.Parsing.{second}
use Rattle.cx_expressions.specs.Shapes.Parsers.{Next, more_assigns, expr, arguments, given_if, given, called, name_head, brackets, head_by, head}
use Rattle.cx_expressions.proofs.RoleLaws.{open_is, name_is, number_is, char_is, string_is, no_comma, no_call, begins_at, close_stops, comma_stops, operand_begins_no_type, operand_begins_no_close}
use Rattle.cx_expressions.proofs.InnerLaws.{Rule, InnerLaws}

-- no bracket of a call stands in front
abbrev pub NoCall : List Lexeme → Type 0
NoCall ts = is_mark mark.OpenRound (front ts) ≡ false

pub stops_no_call : (ts : List Lexeme) → Stops 0 ts → NoCall ts
unfolding follows
stops_no_call ts s = no_call (front ts) s

-- what begins no operator and no `sizeof`
abbrev pub is_primary : Begin → Bool
is_primary (begin_is.Name n) = true
is_primary begin_is.Number = true
is_primary begin_is.Char = true
is_primary begin_is.String = true
is_primary begin_is.Open = true
is_primary _ = false

pub primary_operand : (b : Begin) → is_primary b ≡ true → is_operand b ≡ true
primary_operand begin_is.Nothing e = absurd cc
primary_operand _ e = refl

module _ {next : Next} {inner : Nested} (l : InnerLaws next inner) where
  -- ---- rows of assignments

  comma_row : Items (Stops 12) (after_comma comma_assign next.assign)
      (AfterComma comma_assign inner.assign)
  comma_row = comma_items comma_assign l.assign comma_stops

  no_more_commas : (ts : List Lexeme) → Stops 13 ts
      → after_comma comma_assign next.assign ts ≡ Some (None, ts)
  unfolding after_comma follows
  no_more_commas ts s = rw (none_eat mark.Comma ts (no_comma (front ts) s)) refl

  more_sound : (ts : List Lexeme) (xs : List CommaAssign) (rest : List Lexeme)
      → more_assigns next ts ≡ Some (xs, rest) → Many (AfterComma comma_assign inner.assign) ts xs rest
  unfolding more_assigns
  more_sound ts xs rest e = many_sound comma_row ts xs rest e

  more_complete : (ts : List Lexeme) (xs : List CommaAssign) (rest : List Lexeme)
      → Many (AfterComma comma_assign inner.assign) ts xs rest → Stops 13 rest
      → more_assigns next ts ≡ Some (xs, rest)
  unfolding more_assigns
  more_complete ts xs rest m s =
      many_complete comma_row ts xs rest m (omega (arith, s)) (no_more_commas rest s)

  more_stops : {ts rest : List Lexeme} {xs : List CommaAssign}
      → Many (AfterComma comma_assign inner.assign) ts xs rest → Stops 13 rest → Stops 12 ts
  more_stops m s = many_good comma_row m (omega (arith, s))

  expr_sound : (ts : List Lexeme) (x : TreeExpr) (rest : List Lexeme)
      → expr next ts ≡ Some (x, rest) → IsExpr inner.assign ts x rest
  unfolding expr
  expr_sound ts x rest e =
      let a = bound (next.assign ts) _ x rest e in
      let b = bound (more_assigns next a.mid) _ x rest a.second in
      let same = some_same (roll-TreeExpr (record { first = a.made; more = b.made })) x b.mid rest
      b.second in
      moved (IsExpr inner.assign) (an_expr (l.assign.sound ts a.made a.mid a.first)
      (more_sound a.mid b.made b.mid b.first) refl) same.0 same.1

  expr_complete : (ts : List Lexeme) (x : TreeExpr) (rest : List Lexeme)
      → IsExpr inner.assign ts x rest → Stops 13 rest → expr next ts ≡ Some (x, rest)
  unfolding expr
  expr_complete ts x rest (an_expr {mid = mid} {first = first} {more = more} f m e) s =
      rw (l.assign.complete ts first mid f (more_stops m s), more_complete mid more rest m s, e) refl

  expr_shorter : (ts : List Lexeme) (x : TreeExpr) (rest : List Lexeme)
      → IsExpr inner.assign ts x rest → length rest < length ts
  expr_shorter ts x rest (an_expr {mid = mid} {first = first} f m e) =
      let a = l.assign.shorter ts first mid f in let b = many_no_longer comma_row m in omega arith

  expr_begins : (ts : List Lexeme) (x : TreeExpr) (rest : List Lexeme)
      → IsExpr inner.assign ts x rest → Operand ts
  expr_begins ts x rest (an_expr {mid = mid} {first = first} f m e) =
      l.assign.begins ts first mid f

  pub expr_law : Rule 13 (expr next) (IsExpr inner.assign)
  expr_law = record {
    sound = expr_sound;
    complete = expr_complete;
    shorter = expr_shorter;
    begins = expr_begins;
  }

  arguments_sound : (ts : List Lexeme) (x : TreeArguments) (rest : List Lexeme)
      → arguments next ts ≡ Some (x, rest) → IsArguments inner.assign ts x rest
  unfolding arguments
  arguments_sound ts x rest e =
      let a = bound (next.assign ts) _ x rest e in
      let b = bound (more_assigns next a.mid) _ x rest a.second in
      let same = some_same (roll-TreeArguments (record { first = a.made; more = b.made })) x b.mid
      rest b.second in
      moved (IsArguments inner.assign) (some_arguments (l.assign.sound ts a.made a.mid a.first)
      (more_sound a.mid b.made b.mid b.first) refl) same.0 same.1

  arguments_complete : (ts : List Lexeme) (x : TreeArguments) (rest : List Lexeme)
      → IsArguments inner.assign ts x rest → Stops 13 rest → arguments next ts ≡ Some (x, rest)
  unfolding arguments
  arguments_complete ts x rest (some_arguments {mid = mid} {first = first} {more = more} f m e) s =
      rw (l.assign.complete ts first mid f (more_stops m s), more_complete mid more rest m s, e) refl

  arguments_shorter : (ts : List Lexeme) (x : TreeArguments) (rest : List Lexeme)
      → IsArguments inner.assign ts x rest → length rest < length ts
  arguments_shorter ts x rest (some_arguments {mid = mid} {first = first} f m e) =
      let a = l.assign.shorter ts first mid f in let b = many_no_longer comma_row m in omega arith

  arguments_begins : (ts : List Lexeme) (x : TreeArguments) (rest : List Lexeme)
      → IsArguments inner.assign ts x rest → Operand ts
  arguments_begins ts x rest (some_arguments {mid = mid} {first = first} f m e) =
      l.assign.begins ts first mid f

  -- ---- between the brackets of a call

  given_by : (b : Bool) (ts : List Lexeme) (a : Option TreeArguments) (rest : List Lexeme)
      → given_if next b ts ≡ Some (a, rest) → Maybe (IsArguments inner.assign) ts a rest
  given_by true ts a rest e =
      let same = some_same {A = Option TreeArguments} None a ts rest e in
      moved (Maybe (IsArguments inner.assign)) without same.0 same.1
  given_by false ts a rest e =
      let b = bound (arguments next ts) _ a rest e in
      let same = some_same {A = Option TreeArguments} (Some b.made) a b.mid rest b.second in
      moved (Maybe (IsArguments inner.assign))
      (with_one (arguments_sound ts b.made b.mid b.first)) same.0 same.1

  given_sound : (ts : List Lexeme) (a : Option TreeArguments) (rest : List Lexeme)
      → given next ts ≡ Some (a, rest) → Maybe (IsArguments inner.assign) ts a rest
  unfolding given
  given_sound ts a rest e = given_by (is_mark mark.CloseRound (front ts)) ts a rest e

  given_complete : (ts : List Lexeme) (a : Option TreeArguments) (r : Lexeme) (rest : List Lexeme)
      → Maybe (IsArguments inner.assign) ts a (r ∷ rest) → Is mark.CloseRound r
      → given next ts ≡ Some (a, r ∷ rest)
  unfolding given front
  given_complete ts a r rest without is = rw (true_mark mark.CloseRound r.terminal is) refl
  given_complete ts a r rest (with_one {x = x} i) is =
      rw (
        operand_begins_no_close ts (arguments_begins ts x (r ∷ rest) i),
        arguments_complete ts x (r ∷ rest) i (close_stops r rest is),
      ) refl

  given_no_longer : (ts : List Lexeme) (a : Option TreeArguments) (rest : List Lexeme)
      → Maybe (IsArguments inner.assign) ts a rest → length rest ≤ length ts
  given_no_longer ts a rest without = omega arith
  given_no_longer ts a rest (with_one {x = x} i) =
      let s = arguments_shorter ts x rest i in omega arith

  -- ---- heads

  call_sound : (p q : Lexeme) (n opening : ℕ) (ts : List Lexeme) (x : TreeHead)
      (rest : List Lexeme) → IsName n p → Is mark.OpenRound q → opening ≡ q.at
      → called next (named n p) (Some opening) ts ≡ Some (x, rest)
      → IsHead inner (p ∷ q ∷ ts) x rest
  call_sound p q n opening ts x rest is opens at e =
      let a = bound (given next ts) _ x rest e in
      let b = bound (expect mark.CloseRound a.mid) _ x rest a.second in
      let close = expect_some mark.CloseRound a.mid b.made b.mid b.first in
      let same = some_same (head_is.Call (named n p) opening a.made b.made) x b.mid rest b.second in
      let inside : Maybe (IsArguments inner.assign) ts a.made (close.token ∷ b.mid) =
      subst (λ us. Maybe (IsArguments inner.assign) ts a.made us) close.whole
      (given_sound ts a.made a.mid a.first) in
      let tree : x ≡ head_is.Call (named n p) q.at a.made close.token.at =
      cc (same.0, at, close.holds.1) in
      subst (λ us. IsHead inner (p ∷ q ∷ ts) x us) same.1
      (a_call is opens inside close.holds.0 tree)

  name_by : (p : Lexeme) (n : ℕ) (found : Option ℕ) (ts mid : List Lexeme) (x : TreeHead)
      (rest : List Lexeme) → IsName n p → eat mark.OpenRound ts ≡ Some (found, mid)
      → called next (named n p) found mid ≡ Some (x, rest) → IsHead inner (p ∷ ts) x rest
  name_by p n None ts mid x rest is e h =
      let same = some_same (head_is.Name (named n p)) x mid rest h in
      moved (IsHead inner) (a_name is refl) same.0 (sym (eat_none mark.OpenRound ts mid e) ∙ same.1)
  name_by p n (Some opening) ts mid x rest is e h =
      let opens = eat_some mark.OpenRound ts opening mid e in
      subst (λ us. IsHead inner (p ∷ us) x rest) (sym opens.whole)
      (call_sound p opens.token n opening mid x rest is opens.holds.0 opens.holds.1 h)

  name_sound : (n : ℕ) (ts : List Lexeme) (x : TreeHead) (rest : List Lexeme)
      → begins ts ≡ begin_is.Name n → name_head next n ts ≡ Some (x, rest) → IsHead inner ts x rest
  unfolding name_head
  name_sound n ts x rest b e =
      let a = bound (take ts) _ x rest e in
      let whole = take_some ts a.made a.mid a.first in
      let c = bound (eat mark.OpenRound a.mid) _ x rest a.second in
      let is = name_is a.made.terminal n (begins_at ts a.made a.mid _ whole b) in
      subst (λ us. IsHead inner us x rest) (sym whole)
      (name_by a.made n c.made a.mid c.mid x rest is c.first c.second)

  brackets_sound : (ts : List Lexeme) (x : TreeHead) (rest : List Lexeme)
      → begins ts ≡ begin_is.Open → brackets next ts ≡ Some (x, rest) → IsHead inner ts x rest
  unfolding brackets
  brackets_sound ts x rest b e =
      let a = bound (take ts) _ x rest e in
      let whole = take_some ts a.made a.mid a.first in
      let c = bound (expr next a.mid) _ x rest a.second in
      let d = bound (expect mark.CloseRound c.mid) _ x rest c.second in
      let close = expect_some mark.CloseRound c.mid d.made d.mid d.first in
      let same = some_same (head_is.Brackets a.made.at c.made d.made) x d.mid rest d.second in
      let is = open_is a.made.terminal (begins_at ts a.made a.mid _ whole b) in
      let inside : IsExpr inner.assign a.mid c.made (close.token ∷ d.mid) =
      subst (λ us. IsExpr inner.assign a.mid c.made us) close.whole
      (expr_sound a.mid c.made c.mid c.first) in
      let tree : x ≡ head_is.Brackets a.made.at c.made close.token.at = cc (same.0, close.holds.1) in
      subst (λ us. IsHead inner us x rest) (sym whole)
      (subst (λ us. IsHead inner (a.made ∷ a.mid) x us) same.1
      (in_brackets is inside close.holds.0 tree))

  number_sound : (ts : List Lexeme) (x : TreeHead) (rest : List Lexeme)
      → begins ts ≡ begin_is.Number → head_by next begin_is.Number ts ≡ Some (x, rest)
      → IsHead inner ts x rest
  number_sound ts x rest b e =
      let a = bound (take ts) (λ p. pure (head_is.Number p.at)) x rest e in
      let whole = take_some ts a.made a.mid a.first in
      let same = some_same (head_is.Number a.made.at) x a.mid rest a.second in
      let is = number_is a.made.terminal (begins_at ts a.made a.mid _ whole b) in
      subst (λ us. IsHead inner us x rest) (sym whole)
      (moved (IsHead inner) (a_number is refl) same.0 same.1)

  char_sound : (ts : List Lexeme) (x : TreeHead) (rest : List Lexeme)
      → begins ts ≡ begin_is.Char → head_by next begin_is.Char ts ≡ Some (x, rest)
      → IsHead inner ts x rest
  char_sound ts x rest b e =
      let a = bound (take ts) (λ p. pure (head_is.Char p.at)) x rest e in
      let whole = take_some ts a.made a.mid a.first in
      let same = some_same (head_is.Char a.made.at) x a.mid rest a.second in
      let is = char_is a.made.terminal (begins_at ts a.made a.mid _ whole b) in
      subst (λ us. IsHead inner us x rest) (sym whole)
      (moved (IsHead inner) (a_char is refl) same.0 same.1)

  string_sound : (ts : List Lexeme) (x : TreeHead) (rest : List Lexeme)
      → begins ts ≡ begin_is.String → head_by next begin_is.String ts ≡ Some (x, rest)
      → IsHead inner ts x rest
  string_sound ts x rest b e =
      let a = bound (take ts) (λ p. pure (head_is.String p.at)) x rest e in
      let whole = take_some ts a.made a.mid a.first in
      let same = some_same (head_is.String a.made.at) x a.mid rest a.second in
      let is = string_is a.made.terminal (begins_at ts a.made a.mid _ whole b) in
      subst (λ us. IsHead inner us x rest) (sym whole)
      (moved (IsHead inner) (a_string is refl) same.0 same.1)

  head_sound_by : (b : Begin) (ts : List Lexeme) (x : TreeHead) (rest : List Lexeme)
      → begins ts ≡ b → head_by next b ts ≡ Some (x, rest) → IsHead inner ts x rest
  head_sound_by (begin_is.Name n) ts x rest b e = name_sound n ts x rest b e
  head_sound_by begin_is.Number ts x rest b e = number_sound ts x rest b e
  head_sound_by begin_is.Char ts x rest b e = char_sound ts x rest b e
  head_sound_by begin_is.String ts x rest b e = string_sound ts x rest b e
  head_sound_by begin_is.Open ts x rest b e = brackets_sound ts x rest b e
  head_sound_by _ ts x rest b e = absurd cc

  head_sound : (ts : List Lexeme) (x : TreeHead) (rest : List Lexeme)
      → head next ts ≡ Some (x, rest) → IsHead inner ts x rest
  unfolding head
  head_sound ts x rest e = head_sound_by (begins ts) ts x rest refl e

  head_complete : (ts : List Lexeme) (x : TreeHead) (rest : List Lexeme) → IsHead inner ts x rest
      → NoCall rest → head next ts ≡ Some (x, rest)
  unfolding head begins begin_of front name_head brackets
  head_complete _ x rest (a_call {p = p} {q = q} {r = r} {ts = ts} {n = n} {arguments = a} is opens m close e) g =
      rw (
        is,
        some_eat mark.OpenRound q ts opens,
        given_complete ts a r rest m close,
        some_expect mark.CloseRound r rest close,
        e,
      ) refl
  head_complete _ x rest (a_name is e) g = rw (is, none_eat mark.OpenRound rest g, e) refl
  head_complete _ x rest (a_number is e) g = rw (is, e) refl
  head_complete _ x rest (a_char is e) g = rw (is, e) refl
  head_complete _ x rest (a_string is e) g = rw (is, e) refl
  head_complete _ x rest (in_brackets {p = p} {q = q} {ts = ts} {x = y} opens i close e) g =
      rw (
        opens,
        expr_complete ts y (q ∷ rest) i (close_stops q rest close),
        some_expect mark.CloseRound q rest close,
        e,
      ) refl

  head_shorter : (ts : List Lexeme) (x : TreeHead) (rest : List Lexeme) → IsHead inner ts x rest
      → length rest < length ts
  head_shorter _ x rest (a_call {r = r} {ts = ts} {arguments = a} is opens m close e) =
      let s = given_no_longer ts a (r ∷ rest) m in omega arith
  head_shorter _ x rest (a_name is e) = omega arith
  head_shorter _ x rest (a_number is e) = omega arith
  head_shorter _ x rest (a_char is e) = omega arith
  head_shorter _ x rest (a_string is e) = omega arith
  head_shorter _ x rest (in_brackets {q = q} {ts = ts} {x = y} opens i close e) =
      let s = expr_shorter ts y (q ∷ rest) i in omega arith

  -- a head begins with none of the operators
  pub head_primary : (ts : List Lexeme) (x : TreeHead) (rest : List Lexeme) → IsHead inner ts x rest
      → is_primary (begins ts) ≡ true
  unfolding begins begin_of front
  head_primary _ x rest (a_call is opens m close e) = rw is refl
  head_primary _ x rest (a_name is e) = rw is refl
  head_primary _ x rest (a_number is e) = rw is refl
  head_primary _ x rest (a_char is e) = rw is refl
  head_primary _ x rest (a_string is e) = rw is refl
  head_primary _ x rest (in_brackets opens i close e) = rw opens refl

  -- a head is no cast
  pub head_plain : (ts : List Lexeme) (x : TreeHead) (rest : List Lexeme) → IsHead inner ts x rest
      → begins_cast ts ≡ false
  unfolding begins_cast begins begin_of front second
  head_plain _ x rest (a_call is opens m close e) = rw is refl
  head_plain _ x rest (a_name is e) = rw is refl
  head_plain _ x rest (a_number is e) = rw is refl
  head_plain _ x rest (a_char is e) = rw is refl
  head_plain _ x rest (a_string is e) = rw is refl
  head_plain _ x rest (in_brackets {q = q} {ts = ts} {x = y} opens i close e) =
      rw opens (operand_begins_no_type ts (expr_begins ts y (q ∷ rest) i))

  pub head_law : Law Operand NoCall (head next) (IsHead inner)
  head_law = record {
    sound = head_sound;
    complete = head_complete;
    shorter = head_shorter;
    begins = λ ts x rest r. primary_operand (begins ts) (head_primary ts x rest r);
  }
