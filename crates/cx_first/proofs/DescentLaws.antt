-- The grammar's expressions taken apart and put together, as the reader does.
use Rattle.std.proofs.Common.{◌≡◌, ℕ, ◌+◌, ◌<◌, ◌≤◌, List, [], ◌∷◌, Some, refl, sym, ◌∙◌, ap, subst, arith}
use Rattle.cx_base.specs.declared.place.Place.{Place}
use Rattle.cx_tokens.specs.declared.token.Token.{Token}
use Rattle.cx_first.specs.declared.tree.Expr.{Expr}
use Rattle.cx_first.specs.declared.tree.Expr.TheVariants.{Number, Variable, Negation, Binary, Brackets}
use Rattle.cx_first.specs.declared.tree.Operator.{Operator}
use Rattle.cx_first.specs.declared.tree.Operator.TheVariants.{Add, Subtract, Multiply, Divide}
use Rattle.cx_first.specs.declared.terminals.Terminal.{Terminal}
use Rattle.cx_first.specs.declared.terminals.Terminal.TheVariants as terminal_is
use Rattle.cx_first.specs.Tree.{Tree, tree_of, binary, brackets}
use Rattle.cx_first.specs.Names.{Names, index_of}
use Rattle.cx_first.specs.Terminals.{terminal}
use Rattle.cx_first.specs.Grammar.{Reads, a_number, a_variable, a_negation, in_brackets, a_chain, Chains, ends, goes_on, operator_of, level_of}
use Rattle.cx_first.specs.Descent.{Stops, OperatorAt, NoOperator, TerminalAt}
use Rattle.cx_first.proofs.TreeLaws.{tree_number, tree_variable, tree_negation, tree_binary, tree_brackets}

-- together
pub reads_number : (names : Names) (p : Token) (n : ℕ) (rest : List Token) → terminal p ≡ terminal_is.Number n
    → Reads names 0 (p ∷ rest) (tree_of (Number n p.place)) rest
reads_number names p n rest e = rw tree_number (a_number e)

pub reads_variable : (names : Names) (p : Token) (i : ℕ) (rest : List Token) → terminal p ≡ terminal_is.Name → index_of names p.text ≡ Some i
    → Reads names 0 (p ∷ rest) (tree_of (Variable i p.place)) rest
reads_variable names p i rest e f = rw tree_variable (a_variable e f)

pub reads_negation : (names : Names) (p : Token) (a : Expr) (ts rest : List Token) → terminal p ≡ terminal_is.Minus → Reads names 0 ts (tree_of a) rest
    → Reads names 0 (p ∷ ts) (tree_of (Negation p.place a)) rest
reads_negation names p a ts rest e f = rw tree_negation (a_negation e f)

pub reads_brackets : (names : Names) (p : Token) (a : Expr) (ts behind rest : List Token) → terminal p ≡ terminal_is.Open
    → Reads names 2 ts (tree_of a) behind → TerminalAt terminal_is.Close behind rest → Reads names 0 (p ∷ ts) (tree_of (Brackets a)) rest
reads_brackets names p a ts behind rest e f g =
    rw tree_brackets (in_brackets e (subst (λ b. Reads names 2 ts (tree_of a) b) g.whole f) g.signed)

pub reads_chain : (names : Names) (level below : ℕ) (ts mid rest : List Token) (a t : Tree) → level ≡ below + 1
    → Reads names below ts a mid → Chains names level a mid t rest → Reads names level ts t rest
reads_chain names level below ts mid rest a t e f g = a_chain e f g

pub chains_more : (names : Names) (level below : ℕ) (a b : Expr) (op : Operator) (p : Token) (tokens behind after end : List Token) (t : Tree)
    → level ≡ below + 1 → OperatorAt level tokens op p behind → Reads names below behind (tree_of b) after
    → Chains names level (tree_of (Binary op p.place a b)) after t end → Chains names level (tree_of a) tokens t end
chains_more names level below a b op p tokens behind after end t e o r g =
    rw o.whole (goes_on o.operator o.binds e r (rw tree_binary at g))

-- apart
pub operator_level : (s : Terminal) (op : Operator) → operator_of s ≡ Some op → (0 < level_of op) × (level_of op ≤ 2)
unfolding level_of
operator_level s Multiply e = (omega arith, omega arith)
operator_level s Divide e = (omega arith, omega arith)
operator_level s Add e = (omega arith, omega arith)
operator_level s Subtract e = (omega arith, omega arith)

no_operator : (op : Operator) → operator_of terminal_is.Close ≡ Some op → ⊥
unfolding operator_of
no_operator op e = absurd cc

close_stops : (s : Terminal) (op : Operator) → s ≡ terminal_is.Close → operator_of s ≡ Some op → ⊥
close_stops s op e h = no_operator op (subst (λ x. operator_of x ≡ Some op) e h)

pub closed_stops : (close : Token) (rest : List Token) → terminal close ≡ terminal_is.Close → Stops 2 (close ∷ rest)
closed_stops close rest c = λ op e. absurd (close_stops (terminal close) op c e)

-- an expression in brackets
pub record Bracketed (names : Names) (ts : List Token) (t : Tree) (rest : List Token) : Type 0 where
  pub inner : Tree
  pub close : Token
  pub tree : t ≡ brackets inner
  pub reads : Reads names 2 ts inner (close ∷ rest)
  pub closes : terminal close ≡ terminal_is.Close

pub bracket_parts : (names : Names) (p : Token) (ts rest : List Token) (t : Tree) → terminal p ≡ terminal_is.Open
    → Reads names 0 (p ∷ ts) t rest → Bracketed names ts t rest
bracket_parts names p ts rest t o (a_number e) = absurd cc
bracket_parts names p ts rest t o (a_variable e f) = absurd cc
bracket_parts names p ts rest t o (a_negation e f) = absurd cc
bracket_parts names p ts rest t o (in_brackets {q = q} {t = inner} e f g) = record { inner = inner; close = q; tree = refl; reads = f; closes = g }
bracket_parts names p ts rest t o (a_chain e f g) = absurd (omega arith)

pub record Chained (names : Names) (level below : ℕ) (ts : List Token) (t : Tree) (rest : List Token) : Type 0 where
  pub first : Tree
  pub mid : List Token
  pub reads : Reads names below ts first mid
  pub chains : Chains names level first mid t rest
  pub stops : Stops level rest → Stops below mid

pub chains_stop : {names : Names} {level : ℕ} {a t : Tree} {ts rest : List Token} (below : ℕ) → level ≡ below + 1
    → Chains names level a ts t rest → Stops level rest → Stops below ts
chains_stop {rest = []} below e ends s = tt
chains_stop {rest = x ∷ xs} below e ends s = λ op h. omega (arith, s op h)
chains_stop below e (goes_on {op = op} o l k r g) s = λ other h. let same : op ≡ other = cc in let k : level_of op ≡ level_of other = ap level_of same in omega (arith, k)

pub chain_parts : {m : ℕ} {names : Names} {ts rest : List Token} {t : Tree} (below : ℕ) → m ≡ below + 1 → Reads names m ts t rest → Chained names m below ts t rest
chain_parts below e (a_number f) = absurd (omega arith)
chain_parts below e (a_variable f g) = absurd (omega arith)
chain_parts below e (a_negation f g) = absurd (omega arith)
chain_parts below e (in_brackets f g h) = absurd (omega arith)
chain_parts {m} {names} {ts} {rest} {t} below e (a_chain {below = n} {mid = mid} {a = a} f g h) =
    let same : n ≡ below = omega arith in
    record { first = a; mid = mid; reads = subst (λ x. Reads names x ts a mid) same g; chains = h; stops = chains_stop below e h }

pub record Continued (names : Names) (level below : ℕ) (a : Tree) (op : Operator) (p : Token) (ts : List Token) (t : Tree) (rest : List Token) : Type 0 where
  pub right : Tree
  pub mid : List Token
  pub reads : Reads names below ts right mid
  pub chains : Chains names level (binary op p.place a right) mid t rest
  pub stops : Stops below mid

pub chains_parts : {level : ℕ} {names : Names} {a t : Tree} {p : Token} {ts rest : List Token} (below : ℕ) (op : Operator) → level ≡ below + 1
    → operator_of (terminal p) ≡ Some op → level_of op ≡ level → Chains names level a (p ∷ ts) t rest → Stops level rest
    → Continued names level below a op p ts t rest
chains_parts {level} below op e o l ends s = absurd (omega (arith, s op o))
chains_parts {level} {names} {a} {t} {p} {ts} {rest} below op e o l (goes_on {below = n} {op = other} {mid = mid} {b = b} f g h r c) s =
    let same : n ≡ below = omega arith in
    let alike : other ≡ op = cc in
    record {
      right = b;
      mid = mid;
      reads = subst (λ x. Reads names x ts b mid) same r;
      chains = subst (λ x. Chains names level (binary x p.place a b) mid t rest) alike c;
      stops = chains_stop below e c s;
    }

-- where no operator of the level stands at the front, a chain has ended
pub chains_end : {level : ℕ} {names : Names} {a t : Tree} {tokens rest : List Token} → NoOperator level tokens → Chains names level a tokens t rest
    → (t ≡ a) × (rest ≡ tokens)
chains_end n ends = (refl, refl)
chains_end n (goes_on {p = p} {op = op} {ts = ts} f g h r c) = absurd (n op p ts (record { whole = refl; operator = f; binds = g }))

-- what the reader's results come to
pub brackets_same : (x a : Expr) (t inner : Tree) → x ≡ a → tree_of a ≡ inner → t ≡ brackets inner → tree_of (Brackets x) ≡ t
brackets_same x a t inner e f g = tree_brackets x ∙ (ap (λ y. brackets (tree_of y)) e ∙ (ap brackets f ∙ sym g))

pub terminal_same : (wanted : Terminal) (tokens rest other : List Token) (p : Token) → TerminalAt wanted tokens rest → tokens ≡ p ∷ other → rest ≡ other
terminal_same wanted tokens rest other p c e = let k : c.token ∷ rest ≡ p ∷ other = sym c.whole ∙ e in cc

pub terminal_is_at : (wanted : Terminal) (tokens rest : List Token) (p : Token) → terminal p ≡ wanted → tokens ≡ p ∷ rest → TerminalAt wanted tokens rest
terminal_is_at wanted tokens rest p c e = record { token = p; whole = e; signed = c }

pub binary_same : (x a y b : Expr) (op : Operator) (at : Place) (left right : Tree) → x ≡ a → tree_of a ≡ left → y ≡ b → tree_of b ≡ right
    → tree_of (Binary op at x y) ≡ binary op at left right
binary_same x a y b op at left right e f g h =
    tree_binary op at x y ∙ (ap (λ z. binary op at z (tree_of y)) (ap tree_of e ∙ f) ∙ ap (λ z. binary op at left z) (ap tree_of g ∙ h))

pub chains_on : (names : Names) (level : ℕ) (x a y b : Expr) (op : Operator) (at : Place) (right t : Tree) (after mid end : List Token)
    → x ≡ a → y ≡ b → tree_of b ≡ right → after ≡ mid → Chains names level (binary op at (tree_of a) right) mid t end
    → Chains names level (tree_of (Binary op at x y)) after t end
chains_on names level x a y b op at right t after mid end e f g h c = rw (binary_same x a y b op at (tree_of a) right e refl f g, h) c
