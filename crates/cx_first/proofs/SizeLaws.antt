-- A tree has at most as many nodes and brackets as tokens, and a text at most as many statements.
use Rattle.std.proofs.Common.{ℕ, ◌+◌, ◌<◌, ◌≤◌, ◌^◌, List, length, All, Option, IfSome, ap, arith, length-append}
use Rattle.std.proofs.lemmas.List.Elements.{All-cons}
use Rattle.cx_tokens.specs.declared.token.Token.{Token}
use Rattle.cx_first.specs.declared.terminals.Terminal.{Terminal}
use Rattle.cx_first.specs.declared.statements.Awaits.{Awaits}
use Rattle.cx_first.specs.Tree.{Tree, Form, Source}
use Rattle.cx_first.specs.Names.{Names}
use Rattle.cx_first.specs.Evaluation.{size}
use Rattle.cx_first.specs.Runs.{IsSmall, IsSmallForm, IsNumbered}
use Rattle.cx_first.specs.Grammar.{Reads, a_number, a_variable, a_negation, in_brackets, a_chain, Chains, ends, goes_on, Expression, Initialiser, without, initialised, Declarator, declares_a, Simple, assignment, a_return, Reading, a_declaration, a_declarator, a_statement, Body, closed, more, ReadsText, nothing, a_function}

mutual
  unfolding size

  pub reads_size : {names : Names} {level : ℕ} {ts rest : List Token} {t : Tree} → Reads names level ts t rest → size t + length rest ≤ length ts
  reads_size (a_number e) = omega arith
  reads_size (a_variable e f) = omega arith
  reads_size (a_negation e f) = omega (arith, reads_size f)
  reads_size (in_brackets e f g) = omega (arith, reads_size f)
  reads_size (a_chain e f g) = omega (arith, reads_size f, chains_size g)

  pub chains_size : {names : Names} {level : ℕ} {a t : Tree} {ts rest : List Token} → Chains names level a ts t rest
      → size t + length rest ≤ size a + length ts
  chains_size ends = omega arith
  chains_size (goes_on o l e r g) = omega (arith, reads_size r, chains_size g)

expression_small : {limit : ℕ} {names : Names} {ts rest : List Token} {t : Tree} {mark : Terminal} → limit < 2 ^ 32
    → Expression limit names ts t mark rest → IsSmall t
expression_small l e = omega (arith, reads_size e.reads, e.short)

expression_shorter : {limit : ℕ} {names : Names} {ts rest : List Token} {t : Tree} {mark : Terminal}
    → Expression limit names ts t mark rest → length rest < length ts
expression_shorter e = omega (arith, ap length e.whole, length-append {A = Token})

initialiser_small : {limit : ℕ} {names : Names} {ts rest : List Token} {value : Option Tree} {mark : Terminal} → limit < 2 ^ 32
    → Initialiser limit names ts value mark rest → IfSome value IsSmall × (length rest < length ts)
initialiser_small l (without e n) = (tt, omega arith)
initialiser_small l (initialised e x) = (expression_small l x, omega (arith, expression_shorter x))

declarator_small : {limit : ℕ} {function : List ℕ} {names then : Names} {ts rest : List Token} {form : Form} {mark : Terminal} → limit < 2 ^ 32
    → Declarator limit function names ts form mark then rest → IsSmallForm form × (length rest < length ts)
declarator_small l (declares_a n f i) = let h = initialiser_small l i in (h.0, omega (arith, h.1))

simple_small : {limit : ℕ} {names : Names} {ts rest : List Token} {form : Form} → limit < 2 ^ 32
    → Simple limit names ts form rest → IsSmallForm form × (length rest < length ts)
simple_small l (assignment e f g x) = (expression_small l x, omega (arith, expression_shorter x))
simple_small l (a_return e x) = (expression_small l x, omega (arith, expression_shorter x))

reading_small : {limit : ℕ} {function : List ℕ} {here next : Awaits} {names then : Names} {ts rest : List Token} {form : Form} → limit < 2 ^ 32
    → Reading limit function names here ts form next then rest → IsSmallForm form × (length rest < length ts)
reading_small l (a_declaration e d f) = let h = declarator_small l d in (h.0, omega (arith, h.1))
reading_small l (a_declarator d f) = declarator_small l d
reading_small l (a_statement s) = simple_small l s

body_small : {limit : ℕ} {function : List ℕ} {here : Awaits} {names all : Names} {ts : List Token} {forms : List Form} → limit < 2 ^ 32
    → Body limit function here names ts forms all → All IsSmallForm forms × (length forms < length ts)
body_small l (closed e) = ((λ k d h. absurd (omega arith)), omega arith)
body_small l (more {form = form} {forms = forms} r b) =
    let h = reading_small l r in
    let g = body_small l b in
    (All-cons IsSmallForm form forms h.0 g.0, omega (arith, h.1, g.1))

pub text_numbered : (limit : ℕ) (tokens : List Token) (source : Source) → limit < 2 ^ 32 → length tokens < 2 ^ 32 → ReadsText limit tokens source
    → IsNumbered source
text_numbered limit tokens source l n nothing = record { count = omega arith; sizes = λ k d h. absurd (omega arith) }
text_numbered limit tokens source l n (a_function i f o v c b body) =
    let h = body_small l body in record { count = omega (arith, h.1); sizes = h.0 }
