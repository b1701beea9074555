-- At most one tree reads the tokens of a text.
use Rattle.std.proofs.Common.{◌≡◌, ℕ, true, false, List, [], ◌∷◌, length, take, drop, Option, Some, refl, sym, ◌∙◌, ap, subst, arith}
use Rattle.cx_tokens.specs.declared.token.Token.{Token}
use Rattle.cx_first.specs.declared.terminals.Terminal.{Terminal}
use Rattle.cx_first.specs.declared.terminals.Terminal.TheVariants as terminal_is
use Rattle.cx_first.specs.declared.statements.Awaits.{Awaits}
use Rattle.cx_first.specs.declared.statements.Awaits.TheVariants as awaits
use Rattle.cx_first.specs.Tree.{Tree, number, variable, negation, brackets, Form, declares, assigns, returns, Source}
use Rattle.cx_first.specs.Names.{Names, index_of}
use Rattle.cx_first.specs.Terminals.{terminal}
use Rattle.cx_first.specs.Grammar.{Reads, a_number, a_variable, a_negation, in_brackets, a_chain, Chains, ends, goes_on, Expression, Initialiser, without, initialised, Declarator, declares_a, follows, Simple, assignment, a_return, Reading, a_declaration, a_declarator, a_statement, Body, closed, more, ReadsText}
use Rattle.cx_first.specs.Descent.{Stops, TerminalAt, ends_expression, is_closed}
use Rattle.cx_first.proofs.DescentLaws.{closed_stops, bracket_parts, chains_stop, chain_parts, chains_parts}
use Rattle.cx_first.proofs.ExpressionLaws.{expression_counted, parts_of}
use Rattle.cx_first.proofs.StatementLaws.{equals_parts, bare_parts, declarator_parts, declaration_parts, follows_ends, semicolon_ends, assigned_parts, returned_parts, declaration_behind, statement_parts}
use Rattle.cx_first.proofs.ReaderLaws.{closed_parts, body_ended, body_parts, text_parts, empty_text, header_same}

-- one operand
number_parts : {names : Names} {p : Token} {n : ℕ} {ts rest : List Token} {t : Tree} → terminal p ≡ terminal_is.Number n → Reads names 0 (p ∷ ts) t rest
    → (number n p.place ≡ t) × (ts ≡ rest)
number_parts {p = p} {n = n} e (a_number {n = m} f) =
    let k : terminal_is.Number n ≡ terminal_is.Number m = sym e ∙ f in
    let same : n ≡ m = cc in
    (ap (λ x. number x p.place) same, refl)
number_parts e (a_variable f g) = absurd cc
number_parts e (a_negation f g) = absurd cc
number_parts e (in_brackets f g h) = absurd cc
number_parts e (a_chain f g h) = absurd (omega arith)

variable_parts : {names : Names} {p : Token} {i : ℕ} {ts rest : List Token} {t : Tree} → terminal p ≡ terminal_is.Name → index_of names p.text ≡ Some i
    → Reads names 0 (p ∷ ts) t rest → (variable i p.place ≡ t) × (ts ≡ rest)
variable_parts e f (a_number g) = absurd cc
variable_parts {p = p} {i = i} e f (a_variable {i = j} g h) =
    let k : Some i ≡ Some j = sym f ∙ h in
    let same : i ≡ j = cc in
    (ap (λ x. variable x p.place) same, refl)
variable_parts e f (a_negation g h) = absurd cc
variable_parts e f (in_brackets g h k) = absurd cc
variable_parts e f (a_chain g h k) = absurd (omega arith)

record Negated (names : Names) (p : Token) (ts : List Token) (t : Tree) (rest : List Token) : Type 0 where
  pub inner : Tree
  pub is : t ≡ negation p.place inner
  pub reads : Reads names 0 ts inner rest

negation_parts : {names : Names} {p : Token} {ts rest : List Token} {t : Tree} → terminal p ≡ terminal_is.Minus → Reads names 0 (p ∷ ts) t rest
    → Negated names p ts t rest
negation_parts e (a_number f) = absurd cc
negation_parts e (a_variable f g) = absurd cc
negation_parts e (a_negation {t = t} f g) = record { inner = t; is = refl; reads = g }
negation_parts e (in_brackets f g h) = absurd cc
negation_parts e (a_chain f g h) = absurd (omega arith)

chains_ended : {names : Names} {level : ℕ} {a t : Tree} {ts rest : List Token} → Stops level ts → Chains names level a ts t rest → (a ≡ t) × (ts ≡ rest)
chains_ended s ends = (refl, refl)
chains_ended s (goes_on {op = op} o l e r g) = absurd (omega (arith, s op o))

rests_same : (p q : Token) (a b : List Token) → p ∷ a ≡ q ∷ b → a ≡ b
rests_same p q a b e = cc

mutual
  pub reads_same : {names : Names} {level : ℕ} {ts rest behind : List Token} {t other : Tree} → Reads names level ts t rest → Stops level rest
      → Reads names level ts other behind → Stops level behind → (t ≡ other) × (rest ≡ behind)
  reads_same (a_number e) s r k = number_parts e r
  reads_same (a_variable e f) s r k = variable_parts e f r
  reads_same (a_negation {p = p} e f) s r k =
      let b = negation_parts e r in
      let same = reads_same f s b.reads k in
      (ap (λ x. negation p.place x) same.0 ∙ sym b.is, same.1)
  reads_same {behind = behind} (in_brackets {q = q} {rest = rest} e f g) s r k =
      let b = bracket_parts _ _ _ _ _ e r in
      let same = reads_same f (closed_stops q rest g) b.reads (closed_stops b.close behind b.closes) in
      (ap brackets same.0 ∙ sym b.tree, rests_same q b.close rest behind same.1)
  reads_same (a_chain {below = below} e f g) s r k =
      let b = chain_parts below e r in
      let first = reads_same f (chains_stop below e g s) b.reads (b.stops k) in
      chains_same g s (rw (first.0, first.1) b.chains) k

  pub chains_same : {names : Names} {level : ℕ} {a t other : Tree} {ts rest behind : List Token} → Chains names level a ts t rest → Stops level rest
      → Chains names level a ts other behind → Stops level behind → (t ≡ other) × (rest ≡ behind)
  chains_same ends s c k = chains_ended s c
  chains_same (goes_on {below = below} {p = p} {op = op} o l e r g) s c k =
      let b = chains_parts below op e o l c k in
      let right = reads_same r (chains_stop below e g s) b.reads b.stops in
      chains_same g s (rw (right.0, right.1) b.chains) k

expression_same : {limit : ℕ} {names : Names} {ts rest behind : List Token} {t other : Tree} {mark terminal_too : Terminal}
    → Expression limit names ts t mark rest → ends_expression mark ≡ true → Expression limit names ts other terminal_too behind → ends_expression terminal_too ≡ true
    → (t ≡ other) × (mark ≡ terminal_too) × (rest ≡ behind)
expression_same {limit} {names} {ts} {rest} {behind} {t} {other} {mark} {terminal_too} a m b n =
    let count = length a.tokens in
    let counted = sym (expression_counted limit names ts t mark rest a m) in
    let x = parts_of limit names ts (take count ts) (drop count ts) t mark rest count a m counted refl refl in
    let y = parts_of limit names ts (take count ts) (drop count ts) other terminal_too behind count b n counted refl refl in
    let tokens : b.tokens ≡ a.tokens = sym y.0 ∙ x.0 in
    let lasts : a.last ∷ rest ≡ b.last ∷ behind = sym x.1 ∙ y.1 in
    let last : a.last ≡ b.last = cc in
    let trees = reads_same a.reads tt (subst (λ z. Reads names 2 z other []) tokens b.reads) tt in
    (trees.0, sym a.marked ∙ (ap terminal last ∙ b.marked), rests_same a.last b.last rest behind lasts)

initialiser_same : {limit : ℕ} {names : Names} {ts rest behind : List Token} {value other : Option Tree} {mark terminal_too : Terminal}
    → Initialiser limit names ts value mark rest → ends_expression mark ≡ true → Initialiser limit names ts other terminal_too behind → ends_expression terminal_too ≡ true
    → (value ≡ other) × (mark ≡ terminal_too) × (rest ≡ behind)
initialiser_same {mark = mark} (without e n) m b k = bare_parts mark e n b
initialiser_same (initialised e x) m b k =
    let p = equals_parts e b in
    let same = expression_same x m p.expression k in
    (ap Some same.0 ∙ sym p.is, same.1, same.2)

declarator_same : {limit : ℕ} {function : List ℕ} {names then others : Names} {ts rest behind : List Token} {form other : Form} {mark terminal_too : Terminal}
    → Declarator limit function names ts form mark then rest → ends_expression mark ≡ true
    → Declarator limit function names ts other terminal_too others behind → ends_expression terminal_too ≡ true
    → (form ≡ other) × (mark ≡ terminal_too) × (then ≡ others) × (rest ≡ behind)
declarator_same {names = names} (declares_a {p = p} n f i) m d k =
    let q = declarator_parts d in
    let same = initialiser_same i m q.initialiser k in
    (ap (λ v. declares (length names) p.place v) same.0 ∙ sym q.is, same.1, sym q.names_are, same.2)

declaration_same : {limit : ℕ} {function : List ℕ} {names then others : Names} {ts rest behind : List Token} {form other : Form} {mark : Terminal} {next after : Awaits}
    → Declarator limit function names ts form mark then rest → follows mark ≡ Some next
    → Reading limit function names awaits.Declarator ts other after others behind
    → (form ≡ other) × (next ≡ after) × (then ≡ others) × (rest ≡ behind)
declaration_same {mark = mark} {next = next} {after = after} d f r =
    let q = declaration_parts r in
    let same = declarator_same d (follows_ends mark next f) q.declarator (follows_ends q.mark after q.follow) in
    let k : Some next ≡ Some after = sym f ∙ (ap follows same.1 ∙ q.follow) in
    (same.0, (let h : next ≡ after = cc in h), same.2, same.3)

simple_same : {limit : ℕ} {names : Names} {ts rest behind : List Token} {form other : Form} → Simple limit names ts form rest → Simple limit names ts other behind
    → (form ≡ other) × (rest ≡ behind)
simple_same {limit} {names} {behind = behind} (assignment {p = p} {i = i} {t = t} {ts = ts} n e f x) s =
    let q = assigned_parts n s in
    let indices : Some i ≡ Some q.index = sym e ∙ q.named in
    let index : i ≡ q.index = cc in
    let there : q.behind ≡ ts = rests_same q.equals.token _ q.behind ts (sym q.equals.whole) in
    let here : Expression limit names ts q.tree terminal_is.Semicolon behind = subst (λ z. Expression limit names z q.tree terminal_is.Semicolon behind) there q.expression in
    let same = expression_same x semicolon_ends here semicolon_ends in
    (ap (λ j. assigns j p.place t) index ∙ (ap (λ y. assigns q.index p.place y) same.0 ∙ sym q.is), same.2)
simple_same (a_return {p = p} n x) s =
    let q = returned_parts n s in
    let same = expression_same x semicolon_ends q.expression semicolon_ends in
    (ap (λ t. returns p.place t) same.0 ∙ sym q.is, same.2)

no_int : {limit : ℕ} {names : Names} {ts rest us : List Token} {form : Form} → Simple limit names ts form rest → TerminalAt terminal_is.Int ts us → ⊥
no_int (assignment {p = p} n e f x) a = absurd (let k : a.token ≡ p = (let h = a.whole in cc) in let l : terminal p ≡ terminal_is.Int = ap terminal (sym k) ∙ a.signed in cc)
no_int (a_return {p = p} n x) a = absurd (let k : a.token ≡ p = (let h = a.whole in cc) in let l : terminal p ≡ terminal_is.Int = ap terminal (sym k) ∙ a.signed in cc)

reading_same : {limit : ℕ} {function : List ℕ} {here next after : Awaits} {names then others : Names} {ts rest behind : List Token} {form other : Form}
    → Reading limit function names here ts form next then rest → Reading limit function names here ts other after others behind
    → (form ≡ other) × (next ≡ after) × (then ≡ others) × (rest ≡ behind)
reading_same (a_declaration {p = p} {ts = ts} e d f) r =
    declaration_same d f (declaration_behind (record { token = p; whole = refl; signed = e }) r)
reading_same (a_declarator d f) r = declaration_same d f r
reading_same (a_statement s) r =
    let q = statement_parts (λ us a. no_int s a) r in
    let same = simple_same s q.simple in
    (same.0, sym q.next_is, sym q.names_are, same.1)

goes_on_open : (limit : ℕ) (function : List ℕ) (here : Awaits) (names all : Names) (ts : List Token) (form : Form) (forms : List Form)
    → Body limit function here names ts (form ∷ forms) all → is_closed here ts ≡ false
goes_on_open limit function here names all ts form forms b = elim (is_closed here ts) as (λ x. is_closed here ts ≡ x → x ≡ false) [
  | true ↦ λ e. absurd (let k : form ∷ forms ≡ [] = (body_ended limit function here names all ts (form ∷ forms) e b).0 in cc)
  | false ↦ λ e. refl
] refl

body_moved : {limit : ℕ} {function : List ℕ} {next after : Awaits} {then others all : Names} {rest behind : List Token} {forms : List Form}
    → next ≡ after → then ≡ others → rest ≡ behind → Body limit function after others behind forms all → Body limit function next then rest forms all
body_moved e f g b = rw (e, f, g) b

pub body_same : {limit : ℕ} {function : List ℕ} {here : Awaits} {names all others : Names} {ts : List Token} {forms more_forms : List Form}
    → Body limit function here names ts forms all → Body limit function here names ts more_forms others → (forms ≡ more_forms) × (all ≡ others)
body_same (closed e) b = let q = closed_parts e b in (sym q.0, sym q.1)
body_same {limit} {function} {here} {names} {all} {others} {ts} (more {form = form} {forms = forms} r b) c =
    let q = body_parts (goes_on_open limit function here names all ts form forms (more r b)) c in
    let same = reading_same r q.reading in
    let rest = body_same b (body_moved same.1 same.2 same.3 q.body) in
    (ap (λ x. x ∷ forms) same.0 ∙ (ap (λ x. q.form ∷ x) rest.0 ∙ sym q.forms_are), rest.1)

source_same : (a b : Source) → a.names ≡ b.names → a.statements ≡ b.statements → a ≡ b
source_same a b e f = λ i. record { names = e i; statements = f i }

pub text_same : (limit : ℕ) (tokens : List Token) (a b : Source) → ReadsText limit tokens a → ReadsText limit tokens b → a ≡ b
text_same limit [] a b r s =
    let p = empty_text refl r in
    let q = empty_text refl s in
    source_same a b (p.0 ∙ sym q.0) (p.1 ∙ sym q.1)
text_same limit (x ∷ xs) a b r s =
    let full : x ∷ xs ≡ [] → ⊥ = λ e. absurd cc in
    let p = text_parts full r in
    let q = text_parts full s in
    let heads = header_same (x ∷ xs) p.rest q.rest p.name q.name p.header q.header in
    let bodies = body_same p.body (rw (heads.0, heads.1) q.body) in
    source_same a b bodies.1 bodies.0
