-- The grammar's statements taken apart and put together, as the reader does.
use Rattle.std.proofs.Common.{◌≡◌, ℕ, true, List, [], ◌∷◌, ◌++◌, length, Option, Some, None, refl, sym, ◌∙◌, subst}
use Rattle.cx_base.specs.declared.place.Place.{Place}
use Rattle.cx_tokens.specs.declared.token.Token.{Token}
use Rattle.cx_first.specs.declared.terminals.Terminal.{Terminal}
use Rattle.cx_first.specs.declared.terminals.Terminal.TheVariants as terminal_is
use Rattle.cx_first.specs.declared.statements.Awaits.{Awaits}
use Rattle.cx_first.specs.declared.statements.Awaits.TheVariants as awaits
use Rattle.cx_first.specs.Tree.{Tree, Form, declares, assigns, returns}
use Rattle.cx_first.specs.Names.{Names, index_of}
use Rattle.cx_first.specs.Terminals.{terminal}
use Rattle.cx_first.specs.Grammar.{Expression, Initialiser, without, initialised, Declarator, declares_a, follows, Simple, assignment, a_return, Reading, a_declaration, a_declarator, a_statement}
use Rattle.cx_first.specs.Descent.{TerminalAt, ends_expression, NewNameAt}

-- initialisers
pub initialised_at : {limit : ℕ} {names : Names} {q : Token} {ts rest : List Token} {t : Tree} {mark : Terminal} → terminal q ≡ terminal_is.Equals
    → Expression limit names ts t mark rest → Initialiser limit names (q ∷ ts) (Some t) mark rest
initialised_at e x = initialised e x

pub record Valued (limit : ℕ) (names : Names) (ts : List Token) (value : Option Tree) (mark : Terminal) (rest : List Token) : Type 0 where
  pub tree : Tree
  pub is : value ≡ Some tree
  pub expression : Expression limit names ts tree mark rest

pub equals_parts : {limit : ℕ} {names : Names} {q : Token} {ts rest : List Token} {value : Option Tree} {mark : Terminal} → terminal q ≡ terminal_is.Equals
    → Initialiser limit names (q ∷ ts) value mark rest → Valued limit names ts value mark rest
equals_parts e (without f n) = absurd (n (sym f ∙ e))
equals_parts e (initialised {t = t} f x) = record { tree = t; is = refl; expression = x }

pub bare_at : {limit : ℕ} {names : Names} {q : Token} {rest : List Token} {mark : Terminal} → terminal q ≡ mark → (mark ≡ terminal_is.Equals → ⊥)
    → Initialiser limit names (q ∷ rest) None mark rest
bare_at e n = without e n

pub bare_parts : {limit : ℕ} {names : Names} {q : Token} {ts rest : List Token} {value : Option Tree} {mark : Terminal} (here : Terminal) → terminal q ≡ here
    → (here ≡ terminal_is.Equals → ⊥) → Initialiser limit names (q ∷ ts) value mark rest → (None ≡ value) × (here ≡ mark) × (ts ≡ rest)
bare_parts here e n (without f m) = (refl, sym e ∙ f, refl)
bare_parts here e n (initialised f x) = absurd (n (sym e ∙ f))

-- declarators
pub declared_made : (limit : ℕ) (function : List ℕ) (names new : Names) (tokens : List Token) (p : Token) (ts rest : List Token) (n : ℕ) (value : Option Tree) (mark : Terminal)
    → NewNameAt function names tokens p ts → n ≡ length names → new ≡ names ++ p.text ∷ []
    → Initialiser limit new ts value mark rest → Declarator limit function names tokens (declares n p.place value) mark new rest
declared_made limit function names new tokens p ts rest n value mark o e f i =
    rw (o.whole, e, f) (declares_a o.named o.fresh (subst (λ ns. Initialiser limit ns ts value mark rest) f i))

pub record Declared (limit : ℕ) (names : Names) (p : Token) (ts : List Token) (form : Form) (mark : Terminal) (then : Names) (rest : List Token) : Type 0 where
  pub value : Option Tree
  pub is : form ≡ declares (length names) p.place value
  pub names_are : then ≡ names ++ p.text ∷ []
  pub initialiser : Initialiser limit (names ++ p.text ∷ []) ts value mark rest

pub declarator_parts : {limit : ℕ} {function : List ℕ} {names then : Names} {p : Token} {ts rest : List Token} {form : Form} {mark : Terminal}
    → Declarator limit function names (p ∷ ts) form mark then rest → Declared limit names p ts form mark then rest
declarator_parts (declares_a {value = value} n f i) = record { value = value; is = refl; names_are = refl; initialiser = i }

pub declares_same : (n m : ℕ) (at : Place) (a b : Option Tree) (form : Form) → n ≡ m → a ≡ b → form ≡ declares m at b → declares n at a ≡ form
declares_same n m at a b form e f g = cc

pub record Declaration (limit : ℕ) (function : List ℕ) (names : Names) (ts : List Token) (form : Form) (next : Awaits) (then : Names) (rest : List Token) : Type 0 where
  pub mark : Terminal
  pub declarator : Declarator limit function names ts form mark then rest
  pub follow : follows mark ≡ Some next

pub declaration_parts : {limit : ℕ} {function : List ℕ} {names then : Names} {ts rest : List Token} {form : Form} {next : Awaits}
    → Reading limit function names awaits.Declarator ts form next then rest → Declaration limit function names ts form next then rest
declaration_parts (a_declarator {mark = mark} d f) = record { mark = mark; declarator = d; follow = f }

pub follows_ends : (mark : Terminal) (next : Awaits) → follows mark ≡ Some next → ends_expression mark ≡ true
unfolding follows ends_expression
follows_ends terminal_is.Comma next e = refl
follows_ends terminal_is.Semicolon next e = refl
follows_ends terminal_is.Plus next e = absurd cc
follows_ends terminal_is.Minus next e = absurd cc
follows_ends terminal_is.Star next e = absurd cc
follows_ends terminal_is.Slash next e = absurd cc
follows_ends terminal_is.Int next e = absurd cc
follows_ends terminal_is.Void next e = absurd cc
follows_ends terminal_is.Return next e = absurd cc
follows_ends terminal_is.Name next e = absurd cc
follows_ends (terminal_is.Number n) next e = absurd cc
follows_ends terminal_is.Open next e = absurd cc
follows_ends terminal_is.Close next e = absurd cc
follows_ends terminal_is.Begin next e = absurd cc
follows_ends terminal_is.End next e = absurd cc
follows_ends terminal_is.Equals next e = absurd cc
follows_ends terminal_is.Foreign next e = absurd cc

pub semicolon_ends : ends_expression terminal_is.Semicolon ≡ true
unfolding ends_expression
semicolon_ends = refl

-- assignments and returns
pub assigned_made : (limit : ℕ) (names : Names) (p : Token) (ts behind rest : List Token) (i : ℕ) (t : Tree) → terminal p ≡ terminal_is.Name
    → Some i ≡ index_of names p.text → TerminalAt terminal_is.Equals ts behind → Expression limit names behind t terminal_is.Semicolon rest
    → Simple limit names (p ∷ ts) (assigns i p.place t) rest
assigned_made limit names p ts behind rest i t n e a x = rw a.whole (assignment n (sym e) a.signed x)

pub record Assigned (limit : ℕ) (names : Names) (p : Token) (ts : List Token) (form : Form) (rest : List Token) : Type 0 where
  pub index : ℕ
  pub tree : Tree
  pub behind : List Token
  pub equals : TerminalAt terminal_is.Equals ts behind
  pub named : index_of names p.text ≡ Some index
  pub is : form ≡ assigns index p.place tree
  pub expression : Expression limit names behind tree terminal_is.Semicolon rest

pub assigned_parts : {limit : ℕ} {names : Names} {p : Token} {ts rest : List Token} {form : Form} → terminal p ≡ terminal_is.Name
    → Simple limit names (p ∷ ts) form rest → Assigned limit names p ts form rest
assigned_parts n (assignment {q = q} {i = i} {t = t} {ts = behind} f g h x) = record {
  index = i;
  tree = t;
  behind = behind;
  equals = record { token = q; whole = refl; signed = h };
  named = g;
  is = refl;
  expression = x;
}
assigned_parts n (a_return f x) = absurd cc

pub assigns_same : (i j : ℕ) (at : Place) (a b : Tree) (found : Option ℕ) (form : Form) → Some i ≡ found → found ≡ Some j → a ≡ b
    → form ≡ assigns j at b → assigns i at a ≡ form
assigns_same i j at a b found form e f g h = let k : Some i ≡ Some j = e ∙ f in let same : i ≡ j = cc in cc

pub record Returned (limit : ℕ) (names : Names) (p : Token) (ts : List Token) (form : Form) (rest : List Token) : Type 0 where
  pub tree : Tree
  pub is : form ≡ returns p.place tree
  pub expression : Expression limit names ts tree terminal_is.Semicolon rest

pub returned_parts : {limit : ℕ} {names : Names} {p : Token} {ts rest : List Token} {form : Form} → terminal p ≡ terminal_is.Return
    → Simple limit names (p ∷ ts) form rest → Returned limit names p ts form rest
returned_parts n (assignment f g h x) = absurd cc
returned_parts n (a_return {t = t} f x) = record { tree = t; is = refl; expression = x }

-- statements
pub declaration_made : {limit : ℕ} {function : List ℕ} {names then : Names} {tokens ts rest : List Token} {form : Form} {next : Awaits}
    → TerminalAt terminal_is.Int tokens ts → Reading limit function names awaits.Declarator ts form next then rest
    → Reading limit function names awaits.Statement tokens form next then rest
declaration_made a r = let d = declaration_parts r in rw a.whole (a_declaration a.signed d.declarator d.follow)

simple_int : {limit : ℕ} {names : Names} {p : Token} {ts rest : List Token} {form : Form} → terminal p ≡ terminal_is.Int → Simple limit names (p ∷ ts) form rest → ⊥
simple_int n (assignment f g h x) = absurd cc
simple_int n (a_return f x) = absurd cc

declaration_at : {limit : ℕ} {function : List ℕ} {names then : Names} {p : Token} {ts rest : List Token} {form : Form} {next : Awaits}
    → terminal p ≡ terminal_is.Int → Reading limit function names awaits.Statement (p ∷ ts) form next then rest
    → Reading limit function names awaits.Declarator ts form next then rest
declaration_at n (a_declaration e d f) = a_declarator d f
declaration_at n (a_statement s) = absurd (simple_int n s)

pub declaration_behind : {limit : ℕ} {function : List ℕ} {names then : Names} {tokens ts rest : List Token} {form : Form} {next : Awaits}
    → TerminalAt terminal_is.Int tokens ts → Reading limit function names awaits.Statement tokens form next then rest
    → Reading limit function names awaits.Declarator ts form next then rest
declaration_behind a r = declaration_at a.signed (rw a.whole at r)

pub record Stated (limit : ℕ) (names : Names) (ts : List Token) (form : Form) (next : Awaits) (then : Names) (rest : List Token) : Type 0 where
  pub next_is : next ≡ awaits.Statement
  pub names_are : then ≡ names
  pub simple : Simple limit names ts form rest

pub statement_parts : {limit : ℕ} {function : List ℕ} {names then : Names} {ts rest : List Token} {form : Form} {next : Awaits}
    → ((us : List Token) → TerminalAt terminal_is.Int ts us → ⊥) → Reading limit function names awaits.Statement ts form next then rest
    → Stated limit names ts form next then rest
statement_parts n (a_declaration {p = p} {ts = ts} e d f) = absurd (n ts (record { token = p; whole = refl; signed = e }))
statement_parts n (a_statement s) = record { next_is = refl; names_are = refl; simple = s }
