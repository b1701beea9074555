-- What the steps read that take one token.
use Rattle.std.proofs.Common.{◌≡◌, refl, ap, sym, subst, ◌∙◌, ℕ, true, false, if◌then◌else◌, List, [], ◌∷◌, Option, Some, None}
use denote.Enum.Bare.{same_true, true_same}
use Rattle.cx_syntax_tree.specs.contracts.terminals.Punctuator.{the_type}
use Rattle.cx_syntax_tree.specs.declared.terminals.Punctuator.{Punctuator}
use Rattle.cx_syntax_tree.specs.declared.terminals.Terminal.{Terminal}
use Rattle.cx_syntax_tree.specs.declared.terminals.Terminal.TheVariants as terminal_is
use Rattle.cx_syntax_tree.specs.declared.terminals.Lexeme.{Lexeme}
use Rattle.cx_syntax_tree.specs.declared.expressions.NameAt.{NameAt}
use Rattle.cx_terminals.specs.Terminals.{Is, any_name}
use Rattle.cx_reading.specs.Rules.{Relation}
use Rattle.cx_reading.specs.Types.{IsTagName, a_tag, named}
use Rattle.cx_reading.specs.Parsing.{Parser, and_then, front, take, is_mark, expect, eat, tag_name, named_by, one_of, taken}

-- ---- outcomes

value_of : {A : Type 0} → A → Option (A × List Lexeme) → A
value_of x None = x
value_of x (Some read) = read.0

rest_of : {A : Type 0} → List Lexeme → Option (A × List Lexeme) → List Lexeme
rest_of ts None = ts
rest_of ts (Some read) = read.1

pub some_same : {A : Type 0} (x y : A) (ts us : List Lexeme)
    → ◌≡◌ {A = Option (A × List Lexeme)} (Some (x, ts)) (Some (y, us)) → (x ≡ y) × (ts ≡ us)
unfolding value_of rest_of
some_same x y ts us e = (ap (value_of x) e, ap (rest_of ts) e)

-- the parts of an outcome that two steps made
pub record Bound {A B : Type 0} (o : Option (A × List Lexeme)) (f : A → Parser B) (x : B)
    (rest : List Lexeme) : Type 0 where
  pub made : A
  pub mid : List Lexeme
  pub first : o ≡ Some (made, mid)
  pub second : f made mid ≡ Some (x, rest)

pub bound : {A B : Type 0} (o : Option (A × List Lexeme)) (f : A → Parser B) (x : B)
    (rest : List Lexeme) → and_then o f ≡ Some (x, rest) → Bound o f x rest
bound None f x rest e = absurd cc
bound (Some read) f x rest e = record { made = read.0; mid = read.1; first = refl; second = e }

-- a relation at equal trees and tokens
pub moved : {A : Type 0} (R : Relation A) {ts : List Lexeme} {x y : A} {us vs : List Lexeme}
    → R ts x us → x ≡ y → us ≡ vs → R ts y vs
moved R {ts} {x} {y} {us} {vs} h e f = subst (R ts y) f (subst (λ z. R ts z us) e h)

-- ---- one token

-- the tokens begin with one that is so
pub record Begun (Q : Lexeme → Type 0) (ts rest : List Lexeme) : Type 0 where
  pub token : Lexeme
  pub whole : ts ≡ token ∷ rest
  pub holds : Q token

pub take_some : (ts : List Lexeme) (p : Lexeme) (rest : List Lexeme) → take ts ≡ Some (p, rest)
    → ts ≡ p ∷ rest
take_some [] p rest e = absurd cc
take_some (q ∷ ts) p rest e =
    let same = some_same q p ts rest e in ap (λ r. r ∷ ts) same.0 ∙ ap (λ us. p ∷ us) same.1

pub mark_true : (m : Punctuator) (t : Terminal) → is_mark m t ≡ true
    → t ≡ terminal_is.Punctuator m
unfolding is_mark
mark_true m (terminal_is.Punctuator n) e =
    ap terminal_is.Punctuator (sym (same_true the_type tt m n e))
mark_true m _ e = absurd cc

pub true_mark : (m : Punctuator) (t : Terminal) → t ≡ terminal_is.Punctuator m
    → is_mark m t ≡ true
unfolding is_mark
true_mark m t e = rw e (true_same the_type m m refl)

pub expect_some : (m : Punctuator) (ts : List Lexeme) (at : ℕ) (rest : List Lexeme)
    → expect m ts ≡ Some (at, rest) → Begun (λ p. Is m p × (at ≡ p.at)) ts rest
unfolding expect
expect_some m [] at rest e = absurd cc
expect_some m (p ∷ ts) at rest e =
    elim (is_mark m p.terminal)
    as (λ b. is_mark m p.terminal ≡ b
    → ◌≡◌ {A = Option (ℕ × List Lexeme)} (if b then Some (p.at, ts) else None)
    (Some (at, rest))
    → Begun (λ q. Is m q × (at ≡ q.at)) (p ∷ ts) rest) [
      | true ↦ λ is h. let same = some_same p.at at ts rest h in
          record {
            token = p;
            whole = ap (λ us. p ∷ us) same.1;
            holds = (mark_true m p.terminal is, sym same.0);
          }
      | false ↦ λ is h. absurd cc
    ] refl e

pub some_expect : (m : Punctuator) (p : Lexeme) (ts : List Lexeme) → Is m p
    → expect m (p ∷ ts) ≡ Some (p.at, ts)
unfolding expect
some_expect m p ts is = rw (true_mark m p.terminal is) refl

pub eat_some : (m : Punctuator) (ts : List Lexeme) (at : ℕ) (rest : List Lexeme)
    → eat m ts ≡ Some (Some at, rest) → Begun (λ p. Is m p × (at ≡ p.at)) ts rest
unfolding eat
eat_some m [] at rest e =
    let same = some_same {A = Option ℕ} None (Some at) [] rest e in absurd cc
eat_some m (p ∷ ts) at rest e =
    elim (is_mark m p.terminal)
    as (λ b. is_mark m p.terminal ≡ b
    → ◌≡◌ {A = Option (Option ℕ × List Lexeme)}
    (if b then Some (Some p.at, ts) else Some (None, p ∷ ts)) (Some (Some at, rest))
    → Begun (λ q. Is m q × (at ≡ q.at)) (p ∷ ts) rest) [
      | true ↦ λ is h. let same = some_same {A = Option ℕ} (Some p.at) (Some at) ts rest h in
          let here : at ≡ p.at = cc in
          record {
            token = p;
            whole = ap (λ us. p ∷ us) same.1;
            holds = (mark_true m p.terminal is, here);
          }
      | false ↦ λ is h. let same = some_same {A = Option ℕ} None (Some at) (p ∷ ts) rest h in
          absurd cc
    ] refl e

pub eat_none : (m : Punctuator) (ts rest : List Lexeme) → eat m ts ≡ Some (None, rest)
    → rest ≡ ts
unfolding eat
eat_none m [] rest e = sym (some_same None None [] rest e).1
eat_none m (p ∷ ts) rest e =
    elim (is_mark m p.terminal)
    as (λ b. ◌≡◌ {A = Option (Option ℕ × List Lexeme)}
    (if b then Some (Some p.at, ts) else Some (None, p ∷ ts)) (Some (None, rest))
    → rest ≡ p ∷ ts) [
      | true ↦ λ h. let same = some_same {A = Option ℕ} (Some p.at) None ts rest h in absurd cc
      | false ↦ λ h. sym (some_same None None (p ∷ ts) rest h).1
    ] e

pub some_eat : (m : Punctuator) (p : Lexeme) (ts : List Lexeme) → Is m p
    → eat m (p ∷ ts) ≡ Some (Some p.at, ts)
unfolding eat
some_eat m p ts is = rw (true_mark m p.terminal is) refl

pub none_eat : (m : Punctuator) (ts : List Lexeme) → is_mark m (front ts) ≡ false
    → eat m ts ≡ Some (None, ts)
unfolding eat front
none_eat m [] e = refl
none_eat m (p ∷ ts) e = rw e refl

-- ---- names

pub tag_some : (ts : List Lexeme) (x : NameAt) (rest : List Lexeme)
    → tag_name ts ≡ Some (x, rest) → IsTagName ts x rest
unfolding tag_name
tag_some [] x rest e = absurd cc
tag_some (p ∷ ts) x rest e =
    elim (any_name p.terminal)
    as (λ o. any_name p.terminal ≡ o → named_by o p ts ≡ Some (x, rest)
    → IsTagName (p ∷ ts) x rest) [
      | None ↦ λ is h. absurd cc
      | Some n ↦ λ is h. let same = some_same (named n p) x ts rest h in
          moved IsTagName (a_tag is refl) same.0 same.1
    ] refl e

pub some_tag : (ts : List Lexeme) (x : NameAt) (rest : List Lexeme) → IsTagName ts x rest
    → tag_name ts ≡ Some (x, rest)
unfolding tag_name
some_tag _ x rest (a_tag is e) = rw (is, e) refl

-- ---- a token by a function

pub one_some : {A : Type 0} (f : Lexeme → Option A) (ts : List Lexeme) (x : A)
    (rest : List Lexeme) → one_of f ts ≡ Some (Some x, rest) → Begun (λ p. f p ≡ Some x) ts rest
unfolding one_of
one_some {A} f [] x rest e =
    let same = some_same {A = Option A} None (Some x) [] rest e in absurd cc
one_some {A} f (p ∷ ts) x rest e =
    elim (f p)
    as (λ o. f p ≡ o → taken o p ts ≡ Some (Some x, rest)
    → Begun (λ q. f q ≡ Some x) (p ∷ ts) rest) [
      | None ↦ λ is h. let same = some_same {A = Option A} None (Some x) (p ∷ ts) rest h in absurd cc
      | Some y ↦ λ is h. let same = some_same {A = Option A} (Some y) (Some x) ts rest h in
          record { token = p; whole = ap (λ us. p ∷ us) same.1; holds = is ∙ same.0 }
    ] refl e

pub one_none : {A : Type 0} (f : Lexeme → Option A) (ts rest : List Lexeme)
    → one_of f ts ≡ Some (None, rest) → rest ≡ ts
unfolding one_of
one_none f [] rest e = sym (some_same None None [] rest e).1
one_none {A} f (p ∷ ts) rest e =
    elim (f p)
    as (λ o. taken o p ts ≡ Some (None, rest) → rest ≡ p ∷ ts) [
      | None ↦ λ h. sym (some_same None None (p ∷ ts) rest h).1
      | Some y ↦ λ h. let same = some_same {A = Option A} (Some y) None ts rest h in absurd cc
    ] e

pub some_one : {A : Type 0} (f : Lexeme → Option A) (p : Lexeme) (ts : List Lexeme) (x : A)
    → f p ≡ Some x → one_of f (p ∷ ts) ≡ Some (Some x, ts)
unfolding one_of
some_one f p ts x e = rw e refl

pub none_one : {A : Type 0} (f : Lexeme → Option A) (ts : List Lexeme)
    → ((p : Lexeme) (us : List Lexeme) → ts ≡ p ∷ us → f p ≡ None) → one_of f ts ≡ Some (None, ts)
unfolding one_of
none_one f [] none = refl
none_one f (p ∷ ts) none = rw (none p ts refl) refl
