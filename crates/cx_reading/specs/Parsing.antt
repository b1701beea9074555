-- Reading from a list of tokens, step by step. Each rule of the grammar has a reader of this form
-- beside its relation, and they are proved to agree.
use Rattle.std.specs.Prelude.{◌≡◌, ℕ, zero, suc, Bool, false, if◌then◌else◌, List, [], ◌∷◌, ◌++◌, length, Option, Some, None, Result, Ok, Err}
use denote.Enum.Bare.{sameb}
use denote.Ref.{MutBor}
use Rattle.cx_syntax_tree.specs.contracts.terminals.Punctuator.{the_type}
use Rattle.cx_syntax_tree.specs.contracts.terminals.Keyword.{the_type as the_keywords}
use Rattle.cx_syntax_tree.specs.declared.terminals.Keyword.{Keyword}
use Rattle.cx_syntax_tree.specs.declared.terminals.Punctuator.{Punctuator}
use Rattle.cx_syntax_tree.specs.declared.terminals.Punctuator.TheVariants.{Comma}
use Rattle.cx_syntax_tree.specs.declared.terminals.Terminal.{Terminal}
use Rattle.cx_syntax_tree.specs.declared.terminals.Terminal.TheVariants as terminal_is
use Rattle.cx_syntax_tree.specs.declared.terminals.Lexeme.{Lexeme}
use Rattle.cx_syntax_tree.specs.declared.expressions.NameAt.{NameAt}
use Rattle.cx_terminals.specs.Terminals.{any_name}
use Rattle.cx_reading.specs.declared.refusal.Refusal.{Refusal}
use Rattle.cx_reading.specs.declared.refusal.Refusal.TheVariants as refusal_is
use Rattle.cx_reading.specs.Types.{named}

-- what was read and the tokens behind it, or nothing where they do not read
abbrev pub Parser : Type 0 → Type 0
Parser A = List Lexeme → Option (A × List Lexeme)

abbrev pub and_then : {A B : Type 0} → Option (A × List Lexeme) → (A → Parser B)
    → Option (B × List Lexeme)
and_then (Some read) f = f read.0 read.1
and_then None f = None

-- one after the other
infixl 10 ◌>>=◌
abbrev pub ◌>>=◌ : {A B : Type 0} → Parser A → (A → Parser B) → Parser B
p >>= f = λ ts. and_then (p ts) f

infixl 10 ◌>>◌
abbrev pub ◌>>◌ : {A B : Type 0} → Parser A → Parser B → Parser B
p >> q = p >>= (λ _. q)

abbrev pub pure : {A : Type 0} → A → Parser A
pure a = λ ts. Some (a, ts)

abbrev pub refuse : {A : Type 0} → Parser A
refuse = λ ts. None

-- ---- the next token

abbrev pub next : List Lexeme → Option Lexeme
next [] = None
next (p ∷ ts) = Some p

-- its terminal symbol, or at the end one that is no token of C
unfoldable pub front : List Lexeme → Terminal
front [] = terminal_is.Foreign
front (p ∷ ts) = p.terminal

-- the terminal symbol of the token behind the next one
unfoldable pub second : List Lexeme → Terminal
second [] = terminal_is.Foreign
second (p ∷ ts) = front ts

-- any token
abbrev pub take : Parser Lexeme
take [] = None
take (p ∷ ts) = Some (p, ts)

unfoldable pub is_mark : Punctuator → Terminal → Bool
is_mark m (terminal_is.Punctuator n) = sameb the_type m n
is_mark m _ = false

unfoldable pub is_word : Keyword → Terminal → Bool
is_word k (terminal_is.Keyword l) = sameb the_keywords k l
is_word k _ = false

-- this punctuator, and its place
unfoldable pub expect : Punctuator → Parser ℕ
expect m [] = None
expect m (p ∷ ts) = if is_mark m p.terminal then Some (p.at, ts) else None

-- this keyword, and its place
unfoldable pub expect_word : Keyword → Parser ℕ
expect_word k [] = None
expect_word k (p ∷ ts) = if is_word k p.terminal then Some (p.at, ts) else None

-- the punctuator, if it comes next
unfoldable pub eat : Punctuator → Parser (Option ℕ)
eat m [] = Some (None, [])
eat m (p ∷ ts) = if is_mark m p.terminal then Some (Some p.at, ts) else Some (None, p ∷ ts)

-- the keyword, if it comes next
unfoldable pub eat_word : Keyword → Parser (Option ℕ)
eat_word k [] = Some (None, [])
eat_word k (p ∷ ts) = if is_word k p.terminal then Some (Some p.at, ts) else Some (None, p ∷ ts)

abbrev pub named_by : Option ℕ → Lexeme → Parser NameAt
named_by (Some n) p ts = Some (named n p, ts)
named_by None p ts = None

abbrev pub plain : Terminal → Option ℕ
plain (terminal_is.Name n) = Some n
plain _ = None

-- an identifier that is no type name
unfoldable pub plain_name : Parser NameAt
plain_name [] = None
plain_name (p ∷ ts) = named_by (plain p.terminal) p ts

-- an identifier in a name space of its own (C11 6.2.3)
unfoldable pub tag_name : Parser NameAt
tag_name [] = None
tag_name (p ∷ ts) = named_by (any_name p.terminal) p ts

-- ---- rows

abbrev pub taken : {A : Type 0} → Option A → Lexeme → Parser (Option A)
taken (Some x) p ts = Some (Some x, ts)
taken None p ts = Some (None, p ∷ ts)

-- what the next token is to the function, if it is something
unfoldable pub one_of : {A : Type 0} → (Lexeme → Option A) → Parser (Option A)
one_of f [] = Some (None, [])
one_of f (p ∷ ts) = taken (f p) p ts

-- items in front of those that were read
abbrev pub behind : {A : Type 0} → List A → Option (List A × List Lexeme)
    → Option (List A × List Lexeme)
behind found None = None
behind found (Some read) = Some (found ++ read.0, read.1)

-- an item and those that are read behind it, or the end of the row
abbrev pub many_step : {A : Type 0} → Parser (List A) → Option A → Parser (List A)
many_step others None ts = Some ([], ts)
many_step others (Some x) ts = behind (x ∷ []) (others ts)

unfoldable pub many_from : {A : Type 0} → Parser (Option A) → ℕ → Parser (List A)
many_from item zero ts = Some ([], ts)
many_from item (suc turns) ts = and_then (item ts) (many_step (many_from item turns))

-- items up to the first that is absent. Each takes a token, so there are no more of them than those
unfoldable pub many : {A : Type 0} → Parser (Option A) → Parser (List A)
many item ts = many_from item (length ts) ts

-- what stands behind a comma, if one comes next
abbrev pub after_mark : {A B : Type 0} → (ℕ → A → B) → Parser A → Option ℕ → Parser (Option B)
after_mark made p None = pure None
after_mark made p (Some at) = p >>= (λ x. pure (Some (made at x)))

unfoldable pub after_comma : {A B : Type 0} → (ℕ → A → B) → Parser A → Parser (Option B)
after_comma made p = eat Comma >>= after_mark made p

-- ---- what a function that reads ensures: the outcome, unless memory fails

abbrev pub Reads : {A : Type 0} → Option (A × List Lexeme) → Result A Refusal → List Lexeme → Type 0
Reads outcome (Ok a) new = outcome ≡ Some (a, new)
Reads outcome (Err e) new = e ≡ refusal_is.Syntax → outcome ≡ None

-- the calls of a function value read what the parser does
abbrev pub IsReader : {A : Type 0} → Parser A
    → (MutBor (List Lexeme) → Result A Refusal → MutBor (List Lexeme) → Type 0) → Type 0
IsReader {A} p post = (old new : MutBor (List Lexeme)) (r : Result A Refusal) → post old r new
    → Reads (p old.now) r new.now

-- the answer is this tree, and these tokens are left, unless memory ran out
abbrev pub Gives : {A : Type 0} → A → List Lexeme → Result A Refusal → List Lexeme → Type 0
Gives a rest (Ok x) new = (x ≡ a) × (new ≡ rest)
Gives a rest (Err e) new = e ≡ refusal_is.NoMemory
