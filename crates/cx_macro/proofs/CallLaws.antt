-- Brackets and arguments, token by token.
use Rattle.std.proofs.Common.{◌≡◌, ℕ, zero, suc, ◌+◌, ◌-◌, List, [], ◌∷◌, ◌++◌, Bool, true, false, cond, ◌&&◌, ◌||◌, ◌==◌, Option, Some, None, refl, sym, ◌∙◌, ap, subst, arith, ◌⊎◌, ⊎_elim, ◌<◌, MatchOption}
use Rattle.std.proofs.lemmas.List.{append_assoc, append-nil}
use Rattle.std.proofs.lemmas.Bool.Decides.{nat_tests}
use Rattle.std.proofs.Common.{length-append, bytes_eq, codes, is_none, length, ◌*◌, ◌≤◌}
use Rattle.std.proofs.lemmas.Slice.Eq.{bytes_eq-Decides}
use Rattle.cx_tokens.specs.declared.token.Token.{Token}
use Rattle.cx_tokens.specs.Brackets.{is_punct, is_punctuator}
use Rattle.cx_macro.specs.Shapes.Steps.{weights}
use Rattle.cx_macro.specs.Arguments.{Arguments, Bracketed, is_close, is_comma, is_open}
use Rattle.cx_macro.specs.Shapes.Counting.{arguments_of, Cut, Named, bracketed, cut_at_comma, is_nothing, tokens_or_none, with_variable, named_arguments, with_argument, with_front, with_inner}
use Rattle.cx_macro.specs.Shapes.Calls.{behind_arguments, behind_front, behind_inner, deeper}
use Rattle.cx_macro.specs.Shapes.Segments.{Cuts, CutsText, left_behind}
use Rattle.cx_macro.specs.Shapes.Segments.Cuts.{cuts_none, cuts_one}
use Rattle.cx_macro.specs.declared.segment.Segment.{Segment}

behind_inner-push : (front : List Token) (t : Token) (b : Option Bracketed) → behind_inner front (with_inner t b) ≡ behind_inner (front ++ t ∷ []) b
behind_inner-push front t None = refl
behind_inner-push front t (Some b) = ap (λ x. Some (record { inner = x; closing = b.closing; after = b.after })) (sym (append_assoc front (t ∷ []) b.inner))

pub behind_inner-nil : (b : Option Bracketed) → behind_inner [] b ≡ b
behind_inner-nil None = refl
behind_inner-nil (Some b) = refl

pub bracketed_end : (front : List Token) (depth : ℕ) → behind_inner front (bracketed depth []) ≡ None
unfolding bracketed
bracketed_end front depth = refl

pub bracketed_close : (front : List Token) (depth : ℕ) (t : Token) (ts : List Token) → depth ≡ 0 → is_close t ≡ true
    → behind_inner front (bracketed depth (t ∷ ts)) ≡ Some (record { inner = front; closing = t; after = ts })
unfolding bracketed
bracketed_close front zero t ts e c = rw (c, append-nil front) refl
bracketed_close front (suc d) t ts e c = absurd (omega arith)

true_is_not_false : true ≡ false → ⊥
true_is_not_false e = absurd cc

pub is_open_is_not_close : (t : Token) → is_open t ≡ true → is_close t ≡ false
unfolding is_punctuator
is_open_is_not_close t e = not_close (is_punct t.kind) t.text e
  where
    not_close : (b : Bool) (text : List ℕ) → (b && bytes_eq (codes "(") text) ≡ true → (b && bytes_eq (codes ")") text) ≡ false
    not_close false text e = refl
    not_close true text e =
        let same : codes "(" ≡ text = (bytes_eq-Decides (codes "(") text).0 e in
        subst (λ x. bytes_eq (codes ")") x ≡ false) same refl

pub is_close_is_not_open : (t : Token) → is_close t ≡ true → is_open t ≡ false
is_close_is_not_open t c = at (is_open t) refl
  where
    at : (b : Bool) → is_open t ≡ b → b ≡ false
    at false o = refl
    at true o = let n = is_open_is_not_close t o in absurd cc

pub bracketed_goes : (front : List Token) (depth : ℕ) (t : Token) (ts : List Token) → ((depth == 0) && is_close t) ≡ false
    → behind_inner front (bracketed depth (t ∷ ts)) ≡ behind_inner (front ++ t ∷ []) (bracketed (deeper depth t) ts)
unfolding bracketed deeper
bracketed_goes front zero t ts e = step (is_close t) (is_open t) e
  where
    step : (close opened : Bool) → close ≡ false
        → behind_inner front (cond close (Some (record { inner = []; closing = t; after = ts })) (with_inner t (bracketed (cond opened 1 0) ts)))
        ≡ behind_inner (front ++ t ∷ []) (bracketed (cond opened (0 + 1) (cond close (0 - 1) 0)) ts)
    step true opened h = absurd cc
    step false true h = behind_inner-push front t (bracketed 1 ts)
    step false false h = behind_inner-push front t (bracketed 0 ts)
bracketed_goes front (suc d) t ts e =
    behind_inner-push front t (bracketed (cond (is_close t) d (cond (is_open t) (suc (suc d)) (suc d))) ts)
    ∙ ap (λ n. behind_inner (front ++ t ∷ []) (bracketed n ts)) (depths (is_close t) (is_open t) d (is_open_is_not_close t))
  where
    depths : (close opened : Bool) (d : ℕ) → (opened ≡ true → close ≡ false)
        → cond close d (cond opened (suc (suc d)) (suc d)) ≡ cond opened (suc d + 1) (cond close (suc d - 1) (suc d))
    depths true true d h = absurd (true_is_not_false (h refl))
    depths true false d h = omega arith
    depths false true d h = omega arith
    depths false false d h = refl

pub is_open_is_not_comma : (t : Token) → is_open t ≡ true → is_comma t ≡ false
unfolding is_punctuator
is_open_is_not_comma t e = not_comma (is_punct t.kind) t.text e
  where
    not_comma : (b : Bool) (text : List ℕ) → (b && bytes_eq (codes "(") text) ≡ true → (b && bytes_eq (codes ",") text) ≡ false
    not_comma false text e = refl
    not_comma true text e =
        let same : codes "(" ≡ text = (bytes_eq-Decides (codes "(") text).0 e in
        subst (λ x. bytes_eq (codes ",") x ≡ false) same refl

behind_front-push : (front : List Token) (t : Token) (c : Cut) → behind_front front (with_front t c) ≡ behind_front (front ++ t ∷ []) c
behind_front-push front t c = ap (λ x. record { front = x; after = c.after }) (sym (append_assoc front (t ∷ []) c.front))

pub cut_end : (front : List Token) (depth : ℕ) → behind_front front (cut_at_comma depth []) ≡ record { front = front; after = None }
unfolding cut_at_comma
cut_end front depth = rw (append-nil front) refl

pub cut_comma : (front : List Token) (depth : ℕ) (t : Token) (ts : List Token) → depth ≡ 0 → is_comma t ≡ true
    → behind_front front (cut_at_comma depth (t ∷ ts)) ≡ record { front = front; after = Some ts }
unfolding cut_at_comma
cut_comma front depth t ts e c = rw (e, c, append-nil front) refl

pub cut_goes : (front : List Token) (depth : ℕ) (t : Token) (ts : List Token) → ((depth == 0) && is_comma t) ≡ false
    → behind_front front (cut_at_comma depth (t ∷ ts)) ≡ behind_front (front ++ t ∷ []) (cut_at_comma (deeper depth t) ts)
unfolding cut_at_comma deeper
cut_goes front depth t ts e = step (is_comma t) (depth == 0) (deeper depth t) e
  where
    step : (comma none : Bool) (n : ℕ) → (none && comma) ≡ false
        → behind_front front (cond (comma && none) (record { front = []; after = Some ts }) (with_front t (cut_at_comma n ts)))
        ≡ behind_front (front ++ t ∷ []) (cut_at_comma n ts)
    step true true n h = absurd cc
    step true false n h = behind_front-push front t (cut_at_comma n ts)
    step false none n h = behind_front-push front t (cut_at_comma n ts)

and_left : (a b : Bool) → (a && b) ≡ true → a ≡ true
and_left true b e = refl
and_left false b e = absurd cc

and_right : (a b : Bool) → (a && b) ≡ true → b ≡ true
and_right true b e = e
and_right false b e = absurd cc

is_zero : (n : ℕ) → (n == 0) ≡ true → n ≡ 0
is_zero n e = grind (arith, nat_tests)

-- the same, as the code goes on
pub bracketed_closes : (inner ahead rest : List Token) (depth : ℕ) (t : Token) (all : Option Bracketed) → behind_inner inner (bracketed depth ahead) ≡ all
    → ahead ≡ t ∷ rest → ((depth == 0) && is_close t) ≡ true → all ≡ Some (record { inner = inner; closing = t; after = rest })
bracketed_closes inner ahead rest depth t all h w e =
    sym (subst (λ x. behind_inner inner (bracketed depth x) ≡ all) w h)
    ∙ bracketed_close inner depth t rest (is_zero depth (and_left (depth == 0) (is_close t) e)) (and_right (depth == 0) (is_close t) e)

pub bracketed_more : (inner inner' ahead rest : List Token) (depth depth' : ℕ) (t : Token) (all : Option Bracketed)
    → behind_inner inner (bracketed depth ahead) ≡ all → ahead ≡ t ∷ rest → ((depth == 0) && is_close t) ≡ false → depth' ≡ deeper depth t
    → inner' ≡ inner ++ t ∷ [] → behind_inner inner' (bracketed depth' rest) ≡ all
bracketed_more inner inner' ahead rest depth depth' t all h w e d i =
    subst (λ x. behind_inner x (bracketed depth' rest) ≡ all) (sym i) (subst (λ x. behind_inner (inner ++ t ∷ []) (bracketed x rest) ≡ all) (sym d)
    (sym (bracketed_goes inner depth t rest e) ∙ subst (λ x. behind_inner inner (bracketed depth x) ≡ all) w h))

pub bracketed_open : (inner ahead : List Token) (depth : ℕ) (all : Option Bracketed) → behind_inner inner (bracketed depth ahead) ≡ all → ahead ≡ [] → all ≡ None
bracketed_open inner ahead depth all h w = sym (subst (λ x. behind_inner inner (bracketed depth x) ≡ all) w h) ∙ bracketed_end inner depth

pub cut_parts : (front ahead rest : List Token) (depth : ℕ) (t : Token) (all : Cut) → behind_front front (cut_at_comma depth ahead) ≡ all
    → ahead ≡ t ∷ rest → ((depth == 0) && is_comma t) ≡ true → all ≡ record { front = front; after = Some rest }
cut_parts front ahead rest depth t all h w e =
    sym (subst (λ x. behind_front front (cut_at_comma depth x) ≡ all) w h)
    ∙ cut_comma front depth t rest (is_zero depth (and_left (depth == 0) (is_comma t) e)) (and_right (depth == 0) (is_comma t) e)

pub cut_more : (front front' ahead rest : List Token) (depth depth' : ℕ) (t : Token) (all : Cut)
    → behind_front front (cut_at_comma depth ahead) ≡ all → ahead ≡ t ∷ rest → ((depth == 0) && is_comma t) ≡ false → depth' ≡ deeper depth t
    → front' ≡ front ++ t ∷ [] → behind_front front' (cut_at_comma depth' rest) ≡ all
cut_more front front' ahead rest depth depth' t all h w e d i =
    subst (λ x. behind_front x (cut_at_comma depth' rest) ≡ all) (sym i) (subst (λ x. behind_front (front ++ t ∷ []) (cut_at_comma x rest) ≡ all) (sym d)
    (sym (cut_goes front depth t rest e) ∙ subst (λ x. behind_front front (cut_at_comma depth x) ≡ all) w h))

pub cut_none : (front ahead : List Token) (depth : ℕ) (all : Cut) → behind_front front (cut_at_comma depth ahead) ≡ all → ahead ≡ []
    → all ≡ record { front = front; after = None }
cut_none front ahead depth all h w = sym (subst (λ x. behind_front front (cut_at_comma depth x) ≡ all) w h) ∙ cut_end front depth

pub behind_arguments-nil : (n : Option Named) → behind_arguments [] n ≡ n
behind_arguments-nil None = refl
behind_arguments-nil (Some n) = refl

behind_arguments-push : (front : List (List Token)) (argument : List Token) (n : Option Named)
    → behind_arguments front (with_argument argument n) ≡ behind_arguments (front ++ argument ∷ []) n
behind_arguments-push front argument None = refl
behind_arguments-push front argument (Some n) =
    ap (λ x. Some (record { arguments = x; after = n.after })) (sym (append_assoc front (argument ∷ []) n.arguments))

pub named_suc : (n : ℕ) (ts : List Token) → named_arguments (suc n) (Some ts) ≡ with_argument (cut_at_comma 0 ts).front (named_arguments n (cut_at_comma 0 ts).after)
unfolding named_arguments
named_suc n ts = refl

pub named_more : (arguments arguments' : List (List Token)) (left left' : ℕ) (text rest : Option (List Token)) (ts argument : List Token) (all : Option Named)
    → behind_arguments arguments (named_arguments left text) ≡ all → left ≡ suc left' → text ≡ Some ts
    → cut_at_comma 0 ts ≡ record { front = argument; after = rest } → arguments' ≡ arguments ++ argument ∷ []
    → behind_arguments arguments' (named_arguments left' rest) ≡ all
named_more arguments arguments' left left' text rest ts argument all h l t c a =
    subst (λ x. behind_arguments x (named_arguments left' rest) ≡ all) (sym a)
    (subst (λ x. behind_arguments (arguments ++ x.front ∷ []) (named_arguments left' x.after) ≡ all) c
    (sym (behind_arguments-push arguments (cut_at_comma 0 ts).front (named_arguments left' (cut_at_comma 0 ts).after))
    ∙ (ap (behind_arguments arguments) (sym (named_suc left' ts))
    ∙ subst (λ x. behind_arguments arguments (named_arguments (suc left') x) ≡ all) t (subst (λ x. behind_arguments arguments (named_arguments x text) ≡ all) l h))))

pub named_few : (arguments : List (List Token)) (left left' : ℕ) (text : Option (List Token)) (all : Option Named)
    → behind_arguments arguments (named_arguments left text) ≡ all → left ≡ suc left' → text ≡ None → all ≡ None
unfolding named_arguments
named_few arguments left left' text all h l t =
    sym (subst (λ x. behind_arguments arguments (named_arguments (suc left') x) ≡ all) t (subst (λ x. behind_arguments arguments (named_arguments x text) ≡ all) l h))

pub named_done : (arguments : List (List Token)) (left : ℕ) (text : Option (List Token)) (all : Option Named)
    → behind_arguments arguments (named_arguments left text) ≡ all → left ≡ 0 → all ≡ Some (record { arguments = arguments; after = text })
unfolding named_arguments
named_done arguments left text all h l =
    sym (subst (λ x. behind_arguments arguments (named_arguments x text) ≡ all) l h)
    ∙ ap (λ x. Some (record { arguments = x; after = text })) (append-nil arguments)

-- the lengths of brackets and arguments
HasLength : ℕ → Option Bracketed → Type 0
HasLength n None = Unit {0}
HasLength n (Some b) = n ≡ length b.inner + 1 + length b.after

inner_length : (n : ℕ) (t : Token) (r : Option Bracketed) → HasLength n r → HasLength (suc n) (with_inner t r)
unfolding HasLength
inner_length n t None h = tt
inner_length n t (Some b) h = omega arith

first_length : (closes : Bool) (t : Token) (ts : List Token) (r : Option Bracketed) → HasLength (length ts) r
    → HasLength (suc (length ts)) (cond closes (Some (record { inner = []; closing = t; after = ts })) (with_inner t r))
unfolding HasLength
first_length true t ts r h = omega arith
first_length false t ts r h = inner_length (length ts) t r h

has_length : (depth : ℕ) (ts : List Token) → HasLength (length ts) (bracketed depth ts)
unfolding HasLength bracketed
has_length depth [] = tt
has_length zero (t ∷ ts) = first_length (is_close t) t ts (bracketed (cond (is_open t) 1 0) ts) (has_length (cond (is_open t) 1 0) ts)
has_length (suc d) (t ∷ ts) =
    inner_length (length ts) t (bracketed (cond (is_close t) d (cond (is_open t) (suc (suc d)) (suc d))) ts)
    (has_length (cond (is_close t) d (cond (is_open t) (suc (suc d)) (suc d))) ts)

pub bracketed_length : (depth : ℕ) (ts : List Token) (b : Bracketed) → bracketed depth ts ≡ Some b → length ts ≡ length b.inner + 1 + length b.after
unfolding HasLength
bracketed_length depth ts b e = subst (HasLength (length ts)) e (has_length depth ts)

-- twice the room that a text takes
text_room : Option (List Token) → ℕ
text_room None = 0
text_room (Some ts) = 2 * length ts + 2

CutFits : ℕ → Cut → Type 0
CutFits n cut = 2 * length cut.front + text_room cut.after ≤ n

cut_first : (parts : Bool) (t : Token) (ts : List Token) (cut : Cut) → CutFits (2 * length ts) cut
    → CutFits (2 * suc (length ts)) (cond parts (record { front = []; after = Some ts }) (with_front t cut))
unfolding CutFits text_room
cut_first true t ts cut h = omega arith
cut_first false t ts cut h = omega arith

cut_room : (depth : ℕ) (ts : List Token) → CutFits (2 * length ts) (cut_at_comma depth ts)
unfolding CutFits cut_at_comma text_room
cut_room depth [] = omega arith
cut_room depth (t ∷ ts) =
    cut_first (is_comma t && (depth == 0)) t ts (cut_at_comma (cond (is_open t) (depth + 1) (cond (is_close t) (depth - 1) depth)) ts)
    (cut_room (cond (is_open t) (depth + 1) (cond (is_close t) (depth - 1) depth)) ts)

FitsIn : ℕ → Option Named → Type 0
FitsIn n None = Unit {0}
FitsIn n (Some named) = weights named.arguments + text_room named.after ≤ n

argument_fits : (m n : ℕ) (argument : List Token) (r : Option Named) → FitsIn m r → 2 * length argument + 1 + m ≤ n → FitsIn n (with_argument argument r)
unfolding FitsIn
argument_fits m n argument None h le = tt
argument_fits m n argument (Some named) h le = omega arith

named_fits : (n : ℕ) (text : Option (List Token)) → FitsIn (text_room text) (named_arguments n text)
unfolding CutFits FitsIn text_room named_arguments
named_fits zero text = omega arith
named_fits (suc n) None = tt
named_fits (suc n) (Some ts) =
    argument_fits (text_room (cut_at_comma 0 ts).after) (2 * length ts + 2) (cut_at_comma 0 ts).front (named_arguments n (cut_at_comma 0 ts).after)
    (named_fits n (cut_at_comma 0 ts).after) (let h = cut_room 0 ts in omega (arith, h))

pub weights-append : (a b : List (List Token)) → weights (a ++ b) ≡ weights a + weights b
weights-append [] b = omega arith
weights-append (x ∷ xs) b = let h = weights-append xs b in omega (arith, h)

last_fits : (behind : Option (List Token)) → 2 * length (tokens_or_none behind) ≤ text_room behind
unfolding text_room
last_fits None = omega arith
last_fits (Some ts) = omega arith

variable_fits : (n : ℕ) (variadic nothing : Bool) (found : Option Named) (raw : Arguments) → FitsIn n found → with_variable variadic nothing found ≡ Some raw
    → weights raw.given ≤ n + 1
unfolding FitsIn text_room
variable_fits n variadic nothing None raw h e = absurd cc
variable_fits n true nothing (Some named) raw h e =
    let same : raw.given ≡ named.arguments ++ tokens_or_none named.after ∷ [] = cc in
    let sums = ap weights same ∙ weights-append named.arguments (tokens_or_none named.after ∷ []) in
    let last = last_fits named.after in
    omega (arith, sums, last)
variable_fits n false nothing (Some named) raw h e = without named.after e (omega arith)
  where
    without : (behind : Option (List Token)) → with_variable false nothing (Some (record { arguments = named.arguments; after = behind })) ≡ Some raw
        → weights named.arguments ≤ n → weights raw.given ≤ n + 1
    without None f le = let same : raw.given ≡ named.arguments = cc in let sums = ap weights same in omega (arith, sums)
    without (Some ts) f le = absurd cc

pub arguments_weight : (n : ℕ) (variadic : Bool) (inner : List Token) (raw : Arguments) → arguments_of n variadic inner ≡ Some raw
    → weights raw.given ≤ 2 * length inner + 3
unfolding arguments_of text_room
arguments_weight zero false [] raw e =
    let same : raw.given ≡ [] = cc in
    let sums = ap weights same in
    omega (arith, sums)
arguments_weight zero true [] raw e = variable_fits 2 true true (named_arguments 0 (Some [])) raw (named_fits 0 (Some [])) e
arguments_weight zero true (t ∷ ts) raw e =
    let h = variable_fits (text_room (Some (t ∷ ts))) true false (named_arguments 0 (Some (t ∷ ts))) raw (named_fits 0 (Some (t ∷ ts))) e in
    omega (arith, h)
arguments_weight zero false (t ∷ ts) raw e =
    let h = variable_fits (text_room (Some (t ∷ ts))) false false (named_arguments 0 (Some (t ∷ ts))) raw (named_fits 0 (Some (t ∷ ts))) e in
    omega (arith, h)
arguments_weight (suc n) variadic inner raw e =
    let h = variable_fits (text_room (Some inner)) variadic false (named_arguments (suc n) (Some inner)) raw (named_fits (suc n) (Some inner)) e in
    omega (arith, h)

-- segments one behind the other
pub cuts_both : {a b : List Segment} {first middle last : List Token} {x y : List (List Token)} → Cuts a first x middle → Cuts b middle y last
    → Cuts (a ++ b) first (x ++ y) last
cuts_both cuts_none d = d
cuts_both (cuts_one s piece ending p e c) d = cuts_one s piece ending p e (cuts_both c d)

-- a text with a closing bracket behind it is the front, one token that ends it, and the rest
Splits : List Token → Cut → Type 0
Splits ts cut =
    (closing : Token) (behind : List Token)
    → (ending : List Token) × (1 ≡ length ending) × (ts ++ closing ∷ behind ≡ cut.front ++ (ending ++ left_behind cut.after closing behind))

split_first : (parts : Bool) (t : Token) (ts : List Token) (cut : Cut) → Splits ts cut
    → Splits (t ∷ ts) (cond parts (record { front = []; after = Some ts }) (with_front t cut))
unfolding Splits
split_first true t ts cut h closing behind = (t ∷ [], refl, refl)
split_first false t ts cut h closing behind = let p = h closing behind in (p.0, p.1, ap (λ x. t ∷ x) p.2)

cut_splits : (depth : ℕ) (ts : List Token) → Splits ts (cut_at_comma depth ts)
unfolding Splits cut_at_comma
cut_splits depth [] closing behind = (closing ∷ [], refl, refl)
cut_splits depth (t ∷ ts) closing behind =
    split_first (is_comma t && (depth == 0)) t ts (cut_at_comma (cond (is_open t) (depth + 1) (cond (is_close t) (depth - 1) depth)) ts)
    (cut_splits (cond (is_open t) (depth + 1) (cond (is_close t) (depth - 1) depth)) ts) closing behind

pub cut_counts : (ts : List Token) (closing : Token) (behind : List Token)
    → length (ts ++ closing ∷ behind) ≡ length (cut_at_comma 0 ts).front + (1 + length (left_behind (cut_at_comma 0 ts).after closing behind))
unfolding Splits
cut_counts ts closing behind =
    let p = cut_splits 0 ts closing behind in
    let front = (cut_at_comma 0 ts).front in
    let left = left_behind (cut_at_comma 0 ts).after closing behind in
    ap length p.2 ∙ (length-append front (p.0 ++ left) ∙ ap (λ n. length front + n) (length-append p.0 left ∙ ap (λ n. n + length left) (sym p.1)))

-- the segment of the tokens up to a comma
cuts_front : (s : Segment) (ts front : List Token) (rest : Option (List Token)) → cut_at_comma 0 ts ≡ record { front = front; after = rest }
    → s.tokens ≡ length front → s.is_ended ≡ true → CutsText (s ∷ []) ts (front ∷ []) rest
unfolding Splits
cuts_front s ts front rest c n e closing behind =
    let p = subst (Splits ts) c (cut_splits 0 ts) closing behind in
    subst (λ x. Cuts (s ∷ []) x (front ∷ []) (left_behind rest closing behind)) (sym p.2)
    (cuts_one s front p.0 n (ap (λ b. cond b 1 0) e ∙ p.1) cuts_none)

pub cuts_more : (segments segments' : List Segment) (text ts front : List Token) (raw : List (List Token)) (left rest : Option (List Token)) (s : Segment)
    → CutsText segments text raw left → left ≡ Some ts → cut_at_comma 0 ts ≡ record { front = front; after = rest }
    → s.tokens ≡ length front → s.is_ended ≡ true → segments' ≡ segments ++ s ∷ [] → CutsText segments' text (raw ++ front ∷ []) rest
cuts_more segments segments' text ts front raw left rest s h l c n e p closing behind =
    subst (λ x. Cuts x (text ++ closing ∷ behind) (raw ++ front ∷ []) (left_behind rest closing behind)) (sym p)
    (cuts_both (subst (CutsText segments text raw) l h closing behind) (cuts_front s ts front rest c n e closing behind))

-- the segment of the variable argument
pub cuts_absent : (behind : Option (List Token)) → behind ≡ None → (closing : Token) (rest : List Token)
    → Cuts (record { tokens = 0; is_ended = false } ∷ []) (left_behind behind closing rest) (tokens_or_none behind ∷ []) rest
cuts_absent behind e closing rest =
    subst (λ b. Cuts (record { tokens = 0; is_ended = false } ∷ []) (left_behind b closing rest) (tokens_or_none b ∷ []) rest) (sym e)
    (cuts_one (record { tokens = 0; is_ended = false }) [] [] refl refl cuts_none)

pub cuts_present : (behind : Option (List Token)) (ts : List Token) (n : ℕ) → behind ≡ Some ts → n ≡ length ts → (closing : Token) (rest : List Token)
    → Cuts (record { tokens = n; is_ended = true } ∷ []) (left_behind behind closing rest) (tokens_or_none behind ∷ []) rest
cuts_present behind ts n e l closing rest =
    subst (λ b. Cuts (record { tokens = n; is_ended = true } ∷ []) (left_behind b closing rest) (tokens_or_none b ∷ []) rest) (sym e)
    (cuts_one (record { tokens = n; is_ended = true }) ts (closing ∷ []) l refl cuts_none)

-- the arguments with the variable one, and their segments
pub cuts_variable : (variadic nothing left_out : Bool) (named : Named) (segments segments' : List Segment) (text : List Token) (s : Segment) → variadic ≡ true
    → left_out ≡ (nothing || is_none named.after) → CutsText segments text named.arguments named.after
    → ((closing : Token) (rest : List Token) → Cuts (s ∷ []) (left_behind named.after closing rest) (tokens_or_none named.after ∷ []) rest)
    → segments' ≡ segments ++ s ∷ []
    → (all : List (List Token)) × (with_variable variadic nothing (Some named) ≡ Some (record { given = all; left_out = left_out })) × CutsText segments' text all None
cuts_variable variadic nothing left_out named segments segments' text s v o h k p = (
  named.arguments ++ tokens_or_none named.after ∷ [],
  ap (λ b. with_variable b nothing (Some named)) v ∙ ap (λ b. Some (record { given = named.arguments ++ tokens_or_none named.after ∷ []; left_out = b })) (sym o),
  λ closing behind.
      subst (λ x. Cuts x (text ++ closing ∷ behind) (named.arguments ++ tokens_or_none named.after ∷ []) behind) (sym p) (cuts_both (h closing behind) (k closing behind)),
)

pub cuts_exact : (variadic nothing : Bool) (arguments : List (List Token)) (left : Option (List Token)) (segments : List Segment) (text : List Token) → variadic ≡ false
    → left ≡ None → CutsText segments text arguments left
    → (all : List (List Token)) × (with_variable variadic nothing (Some (record { arguments = arguments; after = left })) ≡ Some (record { given = all; left_out = false }))
    × CutsText segments text all None
cuts_exact variadic nothing arguments left segments text v e h = (
  arguments,
  ap (λ b. with_variable b nothing (Some (record { arguments = arguments; after = left }))) v
      ∙ ap (λ b. with_variable false nothing (Some (record { arguments = arguments; after = b }))) e,
  subst (CutsText segments text arguments) e h,
)

-- where there is a parameter, an empty text is an argument
arguments_by : (n : ℕ) (variadic : Bool) (inner : List Token) → (0 < n) ⊎ (variadic ≡ true)
    → arguments_of n variadic inner ≡ with_variable variadic (is_nothing n inner) (named_arguments n (Some inner))
unfolding arguments_of
arguments_by zero true [] h = refl
arguments_by zero false [] h =
    ⊎_elim
    (λ (l : 0 < 0). absurd (omega arith))
    (λ (v : false ≡ true). absurd cc)
    h
arguments_by zero true (t ∷ ts) h = refl
arguments_by zero false (t ∷ ts) h = refl
arguments_by (suc n) variadic inner h = refl

pub arguments_named : (n : ℕ) (variadic : Bool) (inner : List Token) (nothing : Bool) → nothing ≡ is_nothing n inner → (0 < n) ⊎ (variadic ≡ true)
    → arguments_of n variadic inner ≡ with_variable variadic nothing (named_arguments n (Some inner))
arguments_named n variadic inner nothing e h =
    arguments_by n variadic inner h ∙ ap (λ b. with_variable variadic b (named_arguments n (Some inner))) (sym e)

-- what is said of an answer, with less said of each
pub answer_weaker : {X : Type 0} (o : Option X) (P Q : Type 0) (R S : X → Type 0) → (P → Q) → ((x : X) → R x → S x) → MatchOption o P R → MatchOption o Q S
answer_weaker None P Q R S f g h = f h
answer_weaker (Some x) P Q R S f g h = g x h
