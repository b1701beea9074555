-- A text's head and body taken apart and put together, as the reader does.
use Rattle.std.proofs.Common.{◌≡◌, ℕ, true, false, List, [], ◌∷◌, ◌++◌, map, Option, Some, None, MatchOption, IfNone, refl, sym, ◌∙◌, ap, append_assoc}
use Rattle.std.proofs.lemmas.List.{map-append}
use Rattle.cx_tokens.specs.declared.token.Token.{Token}
use Rattle.cx_first.specs.declared.tree.Statement.{Statement}
use Rattle.cx_first.specs.declared.terminals.Terminal.{Terminal}
use Rattle.cx_first.specs.declared.terminals.Terminal.TheVariants as terminal_is
use Rattle.cx_first.specs.declared.statements.Awaits.{Awaits}
use Rattle.cx_first.specs.declared.statements.Awaits.TheVariants as awaits
use Rattle.cx_first.specs.Tree.{Form, form_of, Source}
use Rattle.cx_first.specs.Names.{Names}
use Rattle.cx_first.specs.Terminals.{terminal}
use Rattle.cx_first.specs.Grammar.{assignment, a_return, Reading, a_declaration, a_statement, Body, closed, more, ReadsText, nothing, a_function}
use Rattle.cx_first.specs.Descent.{TerminalAt, is_end, is_closed, HeaderAt}

-- the same terminal at the same place has the same behind it
pub terminal_along : (wanted : Terminal) (tokens others rest behind : List Token) → TerminalAt wanted tokens rest → TerminalAt wanted others behind → tokens ≡ others → rest ≡ behind
terminal_along wanted tokens others rest behind a b e =
    let k : a.token ∷ rest ≡ b.token ∷ behind = sym a.whole ∙ (e ∙ b.whole) in cc

-- the end of a body
end_is : (s : Terminal) → is_end s ≡ true → s ≡ terminal_is.End
end_is terminal_is.End e = refl
end_is terminal_is.Comma e = absurd cc
end_is terminal_is.Semicolon e = absurd cc
end_is terminal_is.Plus e = absurd cc
end_is terminal_is.Minus e = absurd cc
end_is terminal_is.Star e = absurd cc
end_is terminal_is.Slash e = absurd cc
end_is terminal_is.Int e = absurd cc
end_is terminal_is.Void e = absurd cc
end_is terminal_is.Return e = absurd cc
end_is terminal_is.Name e = absurd cc
end_is (terminal_is.Number n) e = absurd cc
end_is terminal_is.Open e = absurd cc
end_is terminal_is.Close e = absurd cc
end_is terminal_is.Begin e = absurd cc
end_is terminal_is.Equals e = absurd cc
end_is terminal_is.Foreign e = absurd cc

pub body_ends : (limit : ℕ) (function : List ℕ) (here : Awaits) (names : Names) (ts : List Token) → is_closed here ts ≡ true
    → Body limit function here names ts [] names
unfolding is_closed
body_ends limit function awaits.Statement names (p ∷ []) e = closed (end_is (terminal p) e)
body_ends limit function awaits.Statement names [] e = absurd cc
body_ends limit function awaits.Statement names (p ∷ q ∷ ts) e = absurd cc
body_ends limit function awaits.Declarator names ts e = absurd cc

end_reads : {limit : ℕ} {function : List ℕ} {names then : Names} {p : Token} {ts rest : List Token} {form : Form} {next : Awaits}
    → terminal p ≡ terminal_is.End → Reading limit function names awaits.Statement (p ∷ ts) form next then rest → ⊥
end_reads e (a_declaration f d g) = absurd cc
end_reads e (a_statement (assignment f g h x)) = absurd cc
end_reads e (a_statement (a_return f x)) = absurd cc

pub closed_is : (p : Token) → terminal p ≡ terminal_is.End → is_closed awaits.Statement (p ∷ []) ≡ true
unfolding is_closed
closed_is p e = ap is_end e

pub closed_parts : {limit : ℕ} {function : List ℕ} {names all : Names} {p : Token} {forms : List Form} → terminal p ≡ terminal_is.End
    → Body limit function awaits.Statement names (p ∷ []) forms all → (forms ≡ []) × (all ≡ names)
closed_parts e (closed f) = (refl, refl)
closed_parts e (more r b) = absurd (end_reads e r)

pub body_ended : (limit : ℕ) (function : List ℕ) (here : Awaits) (names all : Names) (ts : List Token) (forms : List Form) → is_closed here ts ≡ true
    → Body limit function here names ts forms all → (forms ≡ []) × (all ≡ names)
unfolding is_closed
body_ended limit function awaits.Statement names all (p ∷ []) forms e b = closed_parts (end_is (terminal p) e) b
body_ended limit function awaits.Statement names all [] forms e b = absurd cc
body_ended limit function awaits.Statement names all (p ∷ q ∷ ts) forms e b = absurd cc
body_ended limit function awaits.Declarator names all ts forms e b = absurd cc

-- a body that goes on
pub record GoesOn (limit : ℕ) (function : List ℕ) (here : Awaits) (names : Names) (ts : List Token) (forms : List Form) (all : Names) : Type 0 where
  pub form : Form
  pub others : List Form
  pub next : Awaits
  pub then : Names
  pub rest : List Token
  pub forms_are : forms ≡ form ∷ others
  pub reading : Reading limit function names here ts form next then rest
  pub body : Body limit function next then rest others all

pub body_parts : {limit : ℕ} {function : List ℕ} {here : Awaits} {names all : Names} {ts : List Token} {forms : List Form} → is_closed here ts ≡ false
    → Body limit function here names ts forms all → GoesOn limit function here names ts forms all
body_parts e (closed {p = p} f) = absurd (let k : is_closed awaits.Statement (p ∷ []) ≡ true = closed_is p f in cc)
body_parts e (more {next = next} {then = then} {rest = rest} {form = form} {forms = others} r b) = record {
  form = form;
  others = others;
  next = next;
  then = then;
  rest = rest;
  forms_are = refl;
  reading = r;
  body = b;
}

pub forms_on : (statements new : List Statement) (form : Statement) (forms : List Form) → new ≡ statements ++ form ∷ []
    → map form_of new ++ forms ≡ map form_of statements ++ form_of form ∷ forms
forms_on statements new form forms e =
    rw (e, map-append form_of statements (form ∷ [])) append_assoc_one
  where
    append_assoc_one : (map form_of statements ++ form_of form ∷ []) ++ forms ≡ map form_of statements ++ form_of form ∷ forms
    append_assoc_one = append_assoc (map form_of statements) (form_of form ∷ []) forms

pub none_of : {X : Type 0} (r : Option X) (P R : Type 0) (Q : X → Type 0) → MatchOption r P Q → (P → R) → IfNone r R
none_of None P R Q m f = f m
none_of (Some x) P R Q m f = tt

-- a text and its head
pub text_made : (limit : ℕ) (tokens rest : List Token) (name : Token) (forms : List Form) (names : Names) → HeaderAt tokens name rest
    → Body limit name.text awaits.Statement [] rest forms names → ReadsText limit tokens (record { names = names; statements = forms })
text_made limit tokens rest name forms names h b =
    let o = h.opening in
    let whole : tokens ≡ h.int.token ∷ name ∷ o.opening.token ∷ o.void.token ∷ o.closing.token ∷ o.beginning.token ∷ rest =
    h.int.whole ∙ ap (λ x. h.int.token ∷ x) (h.named
    ∙ ap (λ x. name ∷ x) (o.opening.whole
    ∙ ap (λ x. o.opening.token ∷ x) (o.void.whole
    ∙ ap (λ x. o.void.token ∷ x) (o.closing.whole
    ∙ ap (λ x. o.closing.token ∷ x) o.beginning.whole)))) in
    rw whole (a_function h.int.signed h.signed o.opening.signed o.void.signed o.closing.signed o.beginning.signed b)

pub record Headed (limit : ℕ) (tokens : List Token) (source : Source) : Type 0 where
  pub name : Token
  pub rest : List Token
  pub header : HeaderAt tokens name rest
  pub body : Body limit name.text awaits.Statement [] rest source.statements source.names

pub text_parts : {limit : ℕ} {tokens : List Token} {source : Source} → (tokens ≡ [] → ⊥) → ReadsText limit tokens source → Headed limit tokens source
text_parts n nothing = absurd (n refl)
text_parts n (a_function {int = int} {name = name} {opening = opening} {void = void} {closing = closing} {beginning = beginning} {rest = rest} i f o v c b body) = record {
  name = name;
  rest = rest;
  header = record {
    behind_int = name ∷ opening ∷ void ∷ closing ∷ beginning ∷ rest;
    behind_name = opening ∷ void ∷ closing ∷ beginning ∷ rest;
    int = record { token = int; whole = refl; signed = i };
    named = refl;
    signed = f;
    opening = record {
      behind_open = void ∷ closing ∷ beginning ∷ rest;
      behind_void = closing ∷ beginning ∷ rest;
      behind_close = beginning ∷ rest;
      opening = record { token = opening; whole = refl; signed = o };
      void = record { token = void; whole = refl; signed = v };
      closing = record { token = closing; whole = refl; signed = c };
      beginning = record { token = beginning; whole = refl; signed = b };
    };
  };
  body = body;
}

pub empty_text : {limit : ℕ} {tokens : List Token} {source : Source} → tokens ≡ [] → ReadsText limit tokens source
    → (source.names ≡ []) × (source.statements ≡ [])
empty_text e nothing = (refl, refl)
empty_text e (a_function i f o v c b body) = absurd cc

-- one text has one head
pub header_same : (tokens rest behind : List Token) (name other : Token) → HeaderAt tokens name rest → HeaderAt tokens other behind
    → (name ≡ other) × (rest ≡ behind)
header_same tokens rest behind name other h k =
    let a = terminal_along _ _ _ _ _ h.int k.int refl in
    let named : name ∷ h.behind_name ≡ other ∷ k.behind_name = sym h.named ∙ (a ∙ k.named) in
    let b : h.behind_name ≡ k.behind_name = cc in
    let c = terminal_along _ _ _ _ _ h.opening.opening k.opening.opening b in
    let d = terminal_along _ _ _ _ _ h.opening.void k.opening.void c in
    let e = terminal_along _ _ _ _ _ h.opening.closing k.opening.closing d in
    let f = terminal_along _ _ _ _ _ h.opening.beginning k.opening.beginning e in
    ((let g : name ≡ other = cc in g), f)
