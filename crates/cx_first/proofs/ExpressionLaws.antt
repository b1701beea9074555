-- An expression is what stands before the first mark that ends one.
use Rattle.std.proofs.Common.{◌≡◌, ℕ, zero, suc, ◌+◌, ◌≤◌, ◌==◌, Bool, true, false, List, [], ◌∷◌, ◌++◌, length, take, drop, Option, Some, None, option_map, refl, sym, ◌∙◌, ap, subst, arith}
use Rattle.std.proofs.lemmas.Bool.Decides.{nat_tests}
use Rattle.cx_tokens.specs.declared.token.Token.{Token}
use Rattle.cx_first.specs.declared.tree.Operator.{Operator}
use Rattle.cx_first.specs.declared.terminals.Terminal.{Terminal}
use Rattle.cx_first.specs.declared.terminals.Terminal.TheVariants as terminal_is
use Rattle.cx_first.specs.Tree.{Tree}
use Rattle.cx_first.specs.Names.{Names}
use Rattle.cx_first.specs.Terminals.{terminal}
use Rattle.cx_first.specs.Grammar.{Reads, a_number, a_variable, a_negation, in_brackets, a_chain, Chains, ends, goes_on, operator_of, Expression}
use Rattle.cx_first.specs.Descent.{ends_expression, one_more, ends_after}

-- none of the tokens ends an expression
abbrev pub Inside : List Token → Type 0
Inside [] = Unit {0}
Inside (p ∷ rest) = (ends_expression (terminal p) ≡ false) × Inside rest

operator_inside : (s : Terminal) (op : Operator) → operator_of s ≡ Some op → ends_expression s ≡ false
unfolding operator_of ends_expression
operator_inside terminal_is.Plus op e = refl
operator_inside terminal_is.Minus op e = refl
operator_inside terminal_is.Star op e = refl
operator_inside terminal_is.Slash op e = refl
operator_inside terminal_is.Comma op e = absurd cc
operator_inside terminal_is.Semicolon op e = absurd cc
operator_inside terminal_is.Int op e = absurd cc
operator_inside terminal_is.Void op e = absurd cc
operator_inside terminal_is.Return op e = absurd cc
operator_inside terminal_is.Name op e = absurd cc
operator_inside (terminal_is.Number n) op e = absurd cc
operator_inside terminal_is.Open op e = absurd cc
operator_inside terminal_is.Close op e = absurd cc
operator_inside terminal_is.Begin op e = absurd cc
operator_inside terminal_is.End op e = absurd cc
operator_inside terminal_is.Equals op e = absurd cc
operator_inside terminal_is.Foreign op e = absurd cc

terminal_inside : (s wanted : Terminal) → s ≡ wanted → ends_expression wanted ≡ false → ends_expression s ≡ false
terminal_inside s wanted e h = ap ends_expression e ∙ h

number_inside : (n : ℕ) → ends_expression (terminal_is.Number n) ≡ false
unfolding ends_expression
number_inside n = refl

name_inside : ends_expression terminal_is.Name ≡ false
unfolding ends_expression
name_inside = refl

minus_inside : ends_expression terminal_is.Minus ≡ false
unfolding ends_expression
minus_inside = refl

open_inside : ends_expression terminal_is.Open ≡ false
unfolding ends_expression
open_inside = refl

close_inside : ends_expression terminal_is.Close ≡ false
unfolding ends_expression
close_inside = refl

mutual
  pub reads_inside : {names : Names} {level : ℕ} {ts rest : List Token} {t : Tree} → Reads names level ts t rest → Inside rest → Inside ts
  reads_inside (a_number {p = p} {n = n} e) i = (terminal_inside (terminal p) (terminal_is.Number n) e (number_inside n), i)
  reads_inside (a_variable {p = p} e f) i = (terminal_inside (terminal p) terminal_is.Name e name_inside, i)
  reads_inside (a_negation {p = p} e f) i = (terminal_inside (terminal p) terminal_is.Minus e minus_inside, reads_inside f i)
  reads_inside (in_brackets {p = p} {q = q} e f g) i =
      (terminal_inside (terminal p) terminal_is.Open e open_inside, reads_inside f (terminal_inside (terminal q) terminal_is.Close g close_inside, i))
  reads_inside (a_chain e f g) i = reads_inside f (chains_inside g i)

  pub chains_inside : {names : Names} {level : ℕ} {a t : Tree} {ts rest : List Token} → Chains names level a ts t rest → Inside rest → Inside ts
  chains_inside ends i = i
  chains_inside (goes_on {p = p} {op = op} o l e r g) i = (operator_inside (terminal p) op o, reads_inside r (chains_inside g i))

-- where the first mark stands
before_mark : (limit : ℕ) (es : List Token) (last : Token) (rest : List Token) → Inside es → ends_expression (terminal last) ≡ true
    → length es ≤ limit → ends_after limit (es ++ last ∷ rest) ≡ Some (length es)
unfolding ends_after
before_mark limit [] last rest i m h = rw m refl
before_mark zero (e ∷ es) last rest i m h = absurd (omega arith)
before_mark (suc limit) (e ∷ es) last rest i m h = rw (i.0, before_mark limit es last rest i.1 m (omega arith)) refl

-- what is counted stands before a mark
pub record Marked (limit n : ℕ) (tokens : List Token) : Type 0 where
  pub last : Token
  pub rest : List Token
  pub behind : drop n tokens ≡ last ∷ rest
  pub short : length (take n tokens) ≤ limit
  pub whole : tokens ≡ take n tokens ++ last ∷ rest
  pub ends : ends_expression (terminal last) ≡ true

map_suc : (o : Option ℕ) (n : ℕ) → option_map suc o ≡ Some n → (m : ℕ) × (n ≡ suc m) × (o ≡ Some m)
map_suc None n e = absurd cc
map_suc (Some m) n e = (m, (let k : n ≡ suc m = cc in k), refl)

further : (limit n : ℕ) (p : Token) (rest : List Token) → (m : ℕ) × (n ≡ suc m) × (ends_after limit rest ≡ Some m)
    → ((m : ℕ) → ends_after limit rest ≡ Some m → Marked limit m rest) → Marked (suc limit) n (p ∷ rest)
further limit n p rest (m, e, f) go =
    let k = go m f in
    subst (λ x. Marked (suc limit) x (p ∷ rest)) (sym e) (record {
      last = k.last;
      rest = k.rest;
      behind = k.behind;
      short = omega (arith, k.short);
      whole = ap (λ x. p ∷ x) k.whole;
      ends = k.ends;
    })

marked_at : (limit n : ℕ) (p : Token) (rest : List Token) (b : Bool) → ends_expression (terminal p) ≡ b
    → one_more b limit (λ fewer. ends_after fewer rest) ≡ Some n
    → ((fewer m : ℕ) → ends_after fewer rest ≡ Some m → Marked fewer m rest) → Marked limit n (p ∷ rest)
marked_at limit zero p rest true t e go =
    record { last = p; rest = rest; behind = refl; short = omega arith; whole = refl; ends = t }
marked_at limit (suc n) p rest true t e go = absurd cc
marked_at zero n p rest false t e go = absurd cc
marked_at (suc limit) n p rest false t e go = further limit n p rest (map_suc (ends_after limit rest) n e) (go limit)

pub marked : (limit n : ℕ) (tokens : List Token) → ends_after limit tokens ≡ Some n → Marked limit n tokens
unfolding ends_after
marked limit n [] e = absurd cc
marked limit n (p ∷ rest) e = marked_at limit n p rest (ends_expression (terminal p)) refl e (λ fewer m f. marked fewer m rest f)

-- counting goes on token by token
map_sum : (count : ℕ) (o : Option ℕ) → option_map (λ n. count + n) (option_map suc o) ≡ option_map (λ n. count + 1 + n) o
map_sum count None = refl
map_sum count (Some n) = ap Some (omega arith)

pub counts_stop : (all : Option ℕ) (left count : ℕ) (p : Token) (behind rest : List Token)
    → all ≡ option_map (λ n. count + n) (ends_after left rest) → rest ≡ p ∷ behind → ends_expression (terminal p) ≡ true → Some count ≡ all
unfolding ends_after
counts_stop all left count p behind rest g r t =
    let here : ends_after left (p ∷ behind) ≡ Some 0 = rw t refl in
    let same : option_map (λ n. count + n) (ends_after left rest) ≡ Some (count + 0) = rw (r, here) refl in
    sym (g ∙ (same ∙ ap Some (omega arith)))

pub counts_out : (all : Option ℕ) (left count : ℕ) (p : Token) (behind rest : List Token)
    → all ≡ option_map (λ n. count + n) (ends_after left rest) → rest ≡ p ∷ behind → ends_expression (terminal p) ≡ false → left ≡ 0 → None ≡ all
unfolding ends_after
counts_out all left count p behind rest g r t z =
    let here : ends_after left (p ∷ behind) ≡ None = rw (z, t) refl in
    let same : option_map (λ n. count + n) (ends_after left rest) ≡ None = rw (r, here) refl in
    sym (g ∙ same)

pub counts_on : (all : Option ℕ) (left fewer count : ℕ) (p : Token) (behind rest : List Token)
    → all ≡ option_map (λ n. count + n) (ends_after left rest) → rest ≡ p ∷ behind → ends_expression (terminal p) ≡ false → left ≡ suc fewer
    → all ≡ option_map (λ n. count + 1 + n) (ends_after fewer behind)
unfolding ends_after
counts_on all left fewer count p behind rest g r t z =
    let here : ends_after left (p ∷ behind) ≡ option_map suc (ends_after fewer behind) = rw (z, t) refl in
    let same : option_map (λ n. count + n) (ends_after left rest) ≡ option_map (λ n. count + n) (option_map suc (ends_after fewer behind)) = rw (r, here) refl in
    g ∙ (same ∙ map_sum count (ends_after fewer behind))

pub counts_none : (all : Option ℕ) (left count : ℕ) (rest : List Token)
    → all ≡ option_map (λ n. count + n) (ends_after left rest) → rest ≡ [] → None ≡ all
unfolding ends_after
counts_none all left count rest g r =
    let same : option_map (λ n. count + n) (ends_after left rest) ≡ None = rw r refl in
    sym (g ∙ same)

-- the reader's parts of an expression
pub expression_counted : (limit : ℕ) (names : Names) (ts : List Token) (t : Tree) (mark : Terminal) (rest : List Token)
    → (e : Expression limit names ts t mark rest) → ends_expression mark ≡ true → ends_after limit ts ≡ Some (length e.tokens)
expression_counted limit names ts t mark rest e m =
    rw e.whole (before_mark limit e.tokens e.last rest (reads_inside e.reads tt) (ap ends_expression e.marked ∙ m) e.short)

take_front : (es more : List Token) → take (length es) (es ++ more) ≡ es
take_front [] more = refl
take_front (e ∷ es) more = ap (λ x. e ∷ x) (take_front es more)

drop_front : (es more : List Token) → drop (length es) (es ++ more) ≡ more
drop_front [] more = refl
drop_front (e ∷ es) more = drop_front es more

pub parts_of : (limit : ℕ) (names : Names) (ts front back : List Token) (t : Tree) (mark : Terminal) (rest : List Token) (count : ℕ)
    (e : Expression limit names ts t mark rest) → ends_expression mark ≡ true → Some count ≡ ends_after limit ts
    → front ≡ take count ts → back ≡ drop count ts → (front ≡ e.tokens) × (back ≡ e.last ∷ rest)
parts_of limit names ts front back t mark rest count e m c f b =
    let k : Some count ≡ Some (length e.tokens) = c ∙ expression_counted limit names ts t mark rest e m in
    let same : count ≡ length e.tokens = cc in
    (f ∙ rw (same, e.whole) (take_front e.tokens (e.last ∷ rest)), b ∙ rw (same, e.whole) (drop_front e.tokens (e.last ∷ rest)))

pub empty_is : (ts : List Token) → true ≡ (length ts == 0) → ts ≡ []
empty_is [] h = refl
empty_is (p ∷ rest) h = absurd (grind (arith, nat_tests, h))

pub full_is : (ts : List Token) → false ≡ (length ts == 0) → ts ≡ [] → ⊥
full_is [] h e = absurd cc
full_is (p ∷ rest) h e = absurd cc

pub expression_made : (limit : ℕ) (names : Names) (ts front back left : List Token) (t : Tree) (last : Token) (mark : Terminal) (rest : List Token) (count : ℕ)
    → Some count ≡ ends_after limit ts → front ≡ take count ts → back ≡ drop count ts → back ≡ last ∷ rest → mark ≡ terminal last
    → Reads names 2 front t left → left ≡ [] → Expression limit names ts t mark rest
expression_made limit names ts front back left t last mark rest count c f b d m r n =
    let k = marked limit count ts (sym c) in
    let same : k.last ∷ k.rest ≡ last ∷ rest = sym k.behind ∙ (sym b ∙ d) in
    record {
      tokens = take count ts;
      last = last;
      whole = k.whole ∙ ap (λ x. take count ts ++ x) same;
      marked = sym m;
      short = k.short;
      reads = subst (λ x. Reads names 2 (take count ts) t x) n (subst (λ x. Reads names 2 x t left) f r);
    }

pub counted_within : (limit count : ℕ) (ts : List Token) → Some count ≡ ends_after limit ts → count ≤ length ts
counted_within limit count ts c = let k = marked limit count ts (sym c) in drop_within count ts k.last k.rest k.behind
  where
    drop_within : (n : ℕ) (xs : List Token) (x : Token) (rest : List Token) → drop n xs ≡ x ∷ rest → n ≤ length xs
    drop_within zero xs x rest e = omega arith
    drop_within (suc n) [] x rest e = absurd cc
    drop_within (suc n) (y ∷ ys) x rest e = omega (arith, drop_within n ys x rest e)
