-- The grammar of first texts (C11 6.5.1, 6.5.3, 6.5.5, 6.5.6, 6.7, 6.8 and 6.9.1, cut to one
-- function of int).
use Rattle.std.specs.Prelude.{◌≡◌, ◌≢◌, ℕ, ◌+◌, ◌≤◌, List, [], ◌∷◌, ◌++◌, length, Option, Some, None}
use Rattle.cx_tokens.specs.declared.token.Token.{Token}
use Rattle.cx_first.specs.declared.tree.Operator.{Operator}
use Rattle.cx_first.specs.declared.tree.Operator.TheVariants.{Add, Subtract, Multiply, Divide}
use Rattle.cx_first.specs.declared.terminals.Terminal.{Terminal}
use Rattle.cx_first.specs.declared.terminals.Terminal.TheVariants as terminal_is
use Rattle.cx_first.specs.declared.statements.Awaits.{Awaits}
use Rattle.cx_first.specs.declared.statements.Awaits.TheVariants as awaits
use Rattle.cx_first.specs.Tree.{Tree, number, variable, negation, binary, brackets, Form, declares, assigns, returns, Source}
use Rattle.cx_first.specs.Names.{Names, index_of}
use Rattle.cx_first.specs.Terminals.{terminal}

-- the operator that a terminal is between two operands
unfoldable pub operator_of : Terminal → Option Operator
operator_of terminal_is.Plus = Some Add
operator_of terminal_is.Minus = Some Subtract
operator_of terminal_is.Star = Some Multiply
operator_of terminal_is.Slash = Some Divide
operator_of other = None

-- how loosely an operator binds: 1 for * and / (C11 6.5.5), 2 for + and - (C11 6.5.6)
unfoldable pub level_of : Operator → ℕ
level_of Multiply = 1
level_of Divide = 1
level_of Add = 2
level_of Subtract = 2

-- Reads names level tokens tree rest: a front of the tokens is an expression of operators up to
-- this level, the tree, and the rest stands behind it. A name is one of those that are declared so
-- far.
mutual
  pub data Reads (names : Names) : ℕ → List Token → Tree → List Token → Type 0 where
    a_number : {p : Token} {n : ℕ} {rest : List Token} → terminal p ≡ terminal_is.Number n
        → Reads names 0 (p ∷ rest) (number n p.place) rest
    a_variable : {p : Token} {i : ℕ} {rest : List Token} → terminal p ≡ terminal_is.Name
        → index_of names p.text ≡ Some i
        → Reads names 0 (p ∷ rest) (variable i p.place) rest
    a_negation : {p : Token} {ts rest : List Token} {t : Tree} → terminal p ≡ terminal_is.Minus
        → Reads names 0 ts t rest
        → Reads names 0 (p ∷ ts) (negation p.place t) rest
    in_brackets : {p q : Token} {ts rest : List Token} {t : Tree} → terminal p ≡ terminal_is.Open
        → Reads names 2 ts t (q ∷ rest)
        → terminal q ≡ terminal_is.Close → Reads names 0 (p ∷ ts) (brackets t) rest
    a_chain : {level below : ℕ} {ts mid rest : List Token} {a t : Tree} → level ≡ below + 1
        → Reads names below ts a mid
        → Chains names level a mid t rest → Reads names level ts t rest

  -- what stands behind the tree a goes on with operators of this level and their right operands,
  -- from left to right
  pub data Chains (names : Names) : ℕ → Tree → List Token → Tree → List Token → Type 0 where
    ends : {level : ℕ} {a : Tree} {rest : List Token} → Chains names level a rest a rest
    goes_on : {level below : ℕ} {p : Token} {op : Operator} {ts mid rest : List Token}
        {a b t : Tree}
        → operator_of (terminal p) ≡ Some op → level_of op ≡ level → level ≡ below + 1
        → Reads names below ts b mid
        → Chains names level (binary op p.place a b) mid t rest
        → Chains names level a (p ∷ ts) t rest

-- an expression of at most so many tokens, and a mark behind it
pub record Expression (limit : ℕ) (names : Names) (ts : List Token) (t : Tree) (mark : Terminal)
    (rest : List Token) : Type 0 where
  pub tokens : List Token
  pub last : Token
  pub whole : ts ≡ tokens ++ last ∷ rest
  pub marked : terminal last ≡ mark
  pub short : length tokens ≤ limit
  pub reads : Reads names 2 tokens t []

-- a name that is not declared yet, and is not the function's
pub record IsNew (function : List ℕ) (names : Names) (name : List ℕ) : Type 0 where
  pub fresh : index_of names name ≡ None
  pub other : name ≢ function

-- an initialiser, where there is one, and a mark behind it
pub data Initialiser (limit : ℕ) (names : Names) : List Token → Option Tree → Terminal → List Token
    → Type 0 where
  without : {q : Token} {mark : Terminal} {rest : List Token} → terminal q ≡ mark
      → mark ≢ terminal_is.Equals
      → Initialiser limit names (q ∷ rest) None mark rest
  initialised : {q : Token} {mark : Terminal} {t : Tree} {ts rest : List Token}
      → terminal q ≡ terminal_is.Equals
      → Expression limit names ts t mark rest → Initialiser limit names (q ∷ ts) (Some t) mark rest

-- a declarator and the mark behind it: its own initialiser already sees its name (C11 6.2.1p7)
pub data Declarator (limit : ℕ) (function : List ℕ) (names : Names) : List Token → Form → Terminal
    → Names → List Token → Type 0 where
  declares_a : {p : Token} {mark : Terminal} {value : Option Tree} {ts rest : List Token}
      → terminal p ≡ terminal_is.Name
      → IsNew function names p.text → Initialiser limit (names ++ p.text ∷ []) ts value mark rest
      → Declarator limit function names (p ∷ ts)
      (declares (length names) p.place value) mark (names ++ p.text ∷ []) rest

-- what may follow behind the mark at the end of a declarator (C11 6.7p1)
unfoldable pub follows : Terminal → Option Awaits
follows terminal_is.Comma = Some awaits.Declarator
follows terminal_is.Semicolon = Some awaits.Statement
follows other = None

-- an assignment or a return (C11 6.5.16, 6.8.3, 6.8.6.4)
pub data Simple (limit : ℕ) (names : Names) : List Token → Form → List Token → Type 0 where
  assignment : {p q : Token} {i : ℕ} {t : Tree} {ts rest : List Token}
      → terminal p ≡ terminal_is.Name
      → index_of names p.text ≡ Some i → terminal q ≡ terminal_is.Equals
      → Expression limit names ts t terminal_is.Semicolon rest
      → Simple limit names (p ∷ q ∷ ts) (assigns i p.place t) rest
  a_return : {p : Token} {t : Tree} {ts rest : List Token} → terminal p ≡ terminal_is.Return
      → Expression limit names ts t terminal_is.Semicolon rest
      → Simple limit names (p ∷ ts) (returns p.place t) rest

-- one statement or declarator: what is awaited, the names, the tokens, the form, and what, with
-- which names, follows
pub data Reading (limit : ℕ) (function : List ℕ) (names : Names) : Awaits → List Token → Form
    → Awaits → Names → List Token → Type 0 where
  a_declaration : {then : Names} {p : Token} {ts rest : List Token} {form : Form} {mark : Terminal}
      {next : Awaits}
      → terminal p ≡ terminal_is.Int → Declarator limit function names ts form mark then rest
      → follows mark ≡ Some next
      → Reading limit function names awaits.Statement (p ∷ ts) form next then rest
  a_declarator : {then : Names} {ts rest : List Token} {form : Form} {mark : Terminal}
      {next : Awaits}
      → Declarator limit function names ts form mark then rest → follows mark ≡ Some next
      → Reading limit function names awaits.Declarator ts form next then rest
  a_statement : {ts rest : List Token} {form : Form} → Simple limit names ts form rest
      → Reading limit function names awaits.Statement ts form awaits.Statement names rest

-- the rest of a function's body (C11 6.8.2), up to its last token
pub data Body (limit : ℕ) (function : List ℕ) : Awaits → Names → List Token → List Form → Names
    → Type 0 where
  closed : {names : Names} {p : Token} → terminal p ≡ terminal_is.End
      → Body limit function awaits.Statement names (p ∷ []) [] names
  more : {here next : Awaits} {names then all : Names} {ts rest : List Token} {form : Form}
      {forms : List Form}
      → Reading limit function names here ts form next then rest
      → Body limit function next then rest forms all
      → Body limit function here names ts (form ∷ forms) all

-- the tokens of a text: none, or one function int Name ( void ) { .. } (C11 6.9.1)
pub data ReadsText (limit : ℕ) : List Token → Source → Type 0 where
  nothing : ReadsText limit [] (record { names = []; statements = [] })
  a_function : {int name opening void closing beginning : Token} {rest : List Token}
      {forms : List Form} {names : Names}
      → terminal int ≡ terminal_is.Int → terminal name ≡ terminal_is.Name
      → terminal opening ≡ terminal_is.Open → terminal void ≡ terminal_is.Void
      → terminal closing ≡ terminal_is.Close → terminal beginning ≡ terminal_is.Begin
      → Body limit name.text awaits.Statement [] rest forms names
      → ReadsText limit (int ∷ name ∷ opening ∷ void ∷ closing ∷ beginning ∷ rest)
      (record { names = names; statements = forms })

-- how many tokens an expression may have
abbrev pub most_tokens : ℕ
most_tokens = 256

-- a first text
abbrev pub IsFirstText : List Token → Source → Type 0
IsFirstText tokens source = ReadsText most_tokens tokens source
