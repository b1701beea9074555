-- What a reader of a row does beside the rule of the row.
use Rattle.std.proofs.Common.{◌≡◌, refl, ap, sym, subst, ◌∙◌, ℕ, zero, suc, ◌≤◌, ◌<◌, List, [], ◌∷◌, ◌++◌, length, Option, Some, None, arith}
use Rattle.cx_syntax_tree.specs.declared.terminals.Punctuator.TheVariants.{Comma}
use Rattle.cx_syntax_tree.specs.declared.terminals.Terminal.TheVariants as terminal_is
use Rattle.cx_syntax_tree.specs.declared.terminals.Lexeme.{Lexeme}
use Rattle.cx_reading.specs.Rules.{Relation, Many, no_more, one_more, Mark, mark, AfterComma, comma}
use Rattle.cx_reading.specs.Parsing.{Parser, front, eat, behind, many_step, many_from, many, after_mark, after_comma}
use Rattle.cx_reading.specs.Agreement.{Law, Items}
use Rattle.cx_reading.proofs.TokenLaws.{some_same, bound, moved, eat_some, eat_none, some_eat}

record Behind {A : Type 0} (found : List A) (o : Option (List A × List Lexeme)) (xs : List A)
    (rest : List Lexeme) : Type 0 where
  more : List A
  outcome : o ≡ Some (more, rest)
  joined : found ++ more ≡ xs

behind_some : {A : Type 0} (found : List A) (o : Option (List A × List Lexeme)) (xs : List A)
    (rest : List Lexeme) → behind found o ≡ Some (xs, rest) → Behind found o xs rest
behind_some found None xs rest e = absurd cc
behind_some found (Some read) xs rest e =
    let same = some_same (found ++ read.0) xs read.1 rest e in
    record { more = read.0; outcome = ap (λ us. Some (read.0, us)) same.1; joined = same.0 }

module _ {A : Type 0} {Good : List Lexeme → Type 0} {p : Parser (Option A)} {R : Relation A}
    (law : Items Good p R) where
  step_sound : (n : ℕ) (again : (ts : List Lexeme) (xs : List A) (rest : List Lexeme)
      → many_from p n ts ≡ Some (xs, rest) → Many R ts xs rest)
      (ts mid : List Lexeme) (found : Option A) (xs : List A) (rest : List Lexeme)
      → p ts ≡ Some (found, mid) → many_step (many_from p n) found mid ≡ Some (xs, rest)
      → Many R ts xs rest
  step_sound n again ts mid None xs rest e h =
      let same = some_same [] xs mid rest h in
      let here = law.absent ts mid e in
      moved (Many R) no_more same.0 (sym here ∙ same.1)
  step_sound n again ts mid (Some x) xs rest e h =
      let b = behind_some (x ∷ []) (many_from p n mid) xs rest h in
      moved (Many R) (one_more (law.sound ts x mid e) (again mid b.more rest b.outcome)) b.joined
      refl

  from_sound : (n : ℕ) (ts : List Lexeme) (xs : List A) (rest : List Lexeme)
      → many_from p n ts ≡ Some (xs, rest) → Many R ts xs rest
  unfolding many_from
  from_sound zero ts xs rest e =
      let same = some_same [] xs ts rest e in moved (Many R) no_more same.0 same.1
  from_sound (suc n) ts xs rest e =
      let b = bound (p ts) (many_step (many_from p n)) xs rest e in
      step_sound n (from_sound n) ts b.mid b.made xs rest b.first b.second

  pub many_sound : (ts : List Lexeme) (xs : List A) (rest : List Lexeme)
      → many p ts ≡ Some (xs, rest) → Many R ts xs rest
  unfolding many
  many_sound ts xs rest e = from_sound (length ts) ts xs rest e

  pub many_good : {ts : List Lexeme} {xs : List A} {rest : List Lexeme} → Many R ts xs rest
      → Good rest → Good ts
  many_good no_more g = g
  many_good (one_more {ts} {mid} {rest} {x} i m) g = law.begins ts x mid i

  pub many_no_longer : {ts : List Lexeme} {xs : List A} {rest : List Lexeme} → Many R ts xs rest
      → length rest ≤ length ts
  many_no_longer no_more = omega arith
  many_no_longer (one_more {ts} {mid} {rest} {x} i m) =
      let a = law.shorter ts x mid i in let b = many_no_longer m in omega arith

  from_complete : (n : ℕ) {ts : List Lexeme} {xs : List A} {rest : List Lexeme} → Many R ts xs rest
      → Good rest → p rest ≡ Some (None, rest) → length ts ≤ n → many_from p n ts ≡ Some (xs, rest)
  unfolding many_from
  from_complete zero no_more g a l = refl
  from_complete zero (one_more {ts} {mid} {rest} {x} i m) g a l =
      let s = law.shorter ts x mid i in absurd (omega arith)
  from_complete (suc n) no_more g a l = rw a refl
  from_complete (suc n) (one_more {ts} {mid} {rest} {x} i m) g a l =
      let s = law.shorter ts x mid i in
      let e = law.complete ts x mid i (many_good m g) in
      let r = from_complete n m g a (omega arith) in
      rw (e, r) refl

  pub many_complete : (ts : List Lexeme) (xs : List A) (rest : List Lexeme) → Many R ts xs rest
      → Good rest → p rest ≡ Some (None, rest) → many p ts ≡ Some (xs, rest)
  unfolding many
  many_complete ts xs rest m g a = from_complete (length ts) m g a (omega arith)

-- ---- what stands behind a comma

module _ {A B : Type 0} (made : ℕ → A → B) {Begins Ends : List Lexeme → Type 0} {p : Parser A}
    {R : Relation A} (law : Law Begins Ends p R) where
  comma_by : (ts mid : List Lexeme) (found : Option ℕ) (x : B) (rest : List Lexeme)
      → eat Comma ts ≡ Some (found, mid) → after_mark made p found mid ≡ Some (Some x, rest)
      → AfterComma made R ts x rest
  comma_by ts mid None x rest e h =
      let same = some_same {A = Option B} None (Some x) mid rest h in absurd cc
  comma_by ts mid (Some at) x rest e h =
      let front = eat_some Comma ts at mid e in
      let b = bound (p mid) (λ y. λ us. Some (Some (made at y), us)) (Some x) rest h in
      let same = some_same {A = Option B} (Some (made at b.made)) (Some x) b.mid rest b.second in
      let here : Mark Comma ts at mid =
      subst (λ us. Mark Comma us at mid) (sym front.whole) (mark front.holds.0 front.holds.1) in
      let same_x : made at b.made ≡ x = cc in
      moved (AfterComma made R) (comma here (law.sound mid b.made b.mid b.first) refl) same_x same.1

  comma_sound : (ts : List Lexeme) (x : B) (rest : List Lexeme)
      → after_comma made p ts ≡ Some (Some x, rest) → AfterComma made R ts x rest
  unfolding after_comma
  comma_sound ts x rest e =
      let b = bound (eat Comma ts) (after_mark made p) (Some x) rest e in
      comma_by ts b.mid b.made x rest b.first b.second

  comma_complete : (ts : List Lexeme) (x : B) (rest : List Lexeme) → AfterComma made R ts x rest
      → Ends rest → after_comma made p ts ≡ Some (Some x, rest)
  unfolding after_comma
  comma_complete _ x rest (comma {mid = us} {at = at} {x = y} (mark {p = q} is e) r f) g =
      rw (some_eat Comma q us is, law.complete us y rest r g, f, e) refl

  comma_shorter : (ts : List Lexeme) (x : B) (rest : List Lexeme) → AfterComma made R ts x rest
      → length rest < length ts
  comma_shorter _ x rest (comma {mid = us} {x = y} (mark is e) r f) =
      let s = law.shorter us y rest r in omega arith

  comma_gone : (ts mid : List Lexeme) (found : Option ℕ) (rest : List Lexeme)
      → eat Comma ts ≡ Some (found, mid) → after_mark made p found mid ≡ Some (None, rest)
      → rest ≡ ts
  comma_gone ts mid None rest e h = sym (some_same None None mid rest h).1 ∙ eat_none Comma ts mid e
  comma_gone ts mid (Some at) rest e h =
      let b = bound (p mid) (λ y. λ us. Some (Some (made at y), us)) None rest h in
      let same = some_same {A = Option B} (Some (made at b.made)) None b.mid rest b.second in
      absurd cc

  comma_absent : (ts rest : List Lexeme) → after_comma made p ts ≡ Some (None, rest) → rest ≡ ts
  unfolding after_comma
  comma_absent ts rest e =
      let b = bound (eat Comma ts) (after_mark made p) None rest e in
      comma_gone ts b.mid b.made rest b.first b.second

  comma_front : (ts : List Lexeme) (x : B) (rest : List Lexeme) → AfterComma made R ts x rest
      → front ts ≡ terminal_is.Punctuator Comma
  unfolding front
  comma_front _ x rest (comma (mark is e) r f) = is

  pub comma_items : ((ts : List Lexeme) → front ts ≡ terminal_is.Punctuator Comma → Ends ts)
      → Items Ends (after_comma made p) (AfterComma made R)
  unfolding front
  comma_items behind_comma = record {
    sound = comma_sound;
    complete = comma_complete;
    shorter = comma_shorter;
    begins = λ ts x rest r. behind_comma ts (comma_front ts x rest r);
    absent = comma_absent;
  }
