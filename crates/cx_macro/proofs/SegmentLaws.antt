-- What is ahead in a list, cut into segments.
use Rattle.std.proofs.Common.{◌≡◌, ℕ, zero, suc, ◌+◌, ◌-◌, ◌<◌, ◌≤◌, Bool, true, false, not, cond, List, [], ◌∷◌, ◌++◌, Option, Some, None, MatchOption, length, take, drop, refl, sym, ◌∙◌, ap, ap₂, subst, arith}
use Rattle.std.proofs.lemmas.List.{nil_from_length, take_at}
use Rattle.std.proofs.Math.Seq.{drop-append-add, drop-append_seam, drop-nil, take-append-add, take-append_seam}
use Rattle.cx_tokens.specs.declared.token.Token.{Token}
use Rattle.cx_macro.specs.declared.segment.Segment.{Segment}
use Rattle.cx_macro.specs.Arguments.{Bracketed, is_close, is_open, no_arguments}
use Rattle.cx_macro.specs.Shapes.Counting.{arguments_of, bracketed, named_arguments, with_inner}
use Rattle.cx_macro.specs.Shapes.Segments.{Cuts, CutsText, IsCut, Spread, ahead_of, cuts_none, cuts_one, extent, more_of, spread_of}
use Rattle.cx_macro.specs.Shapes.Levels.{Standing}

-- another segment on top
pub replaced : (old new : List Segment) (s item : Segment) (rest : List Segment) (r : Option Segment) → old ≡ s ∷ rest
    → MatchOption r ((old ≡ []) × (new ≡ [])) (λ x. (others : List Segment) × (old ≡ x ∷ others) × (new ≡ item ∷ others)) → new ≡ item ∷ rest
replaced old new s item rest None e h = absurd (let a = h.0 in cc)
replaced old new s item rest (Some x) e h = h.2 ∙ ap (λ t. item ∷ t) (tails x s h.0 rest (sym h.1 ∙ e))
  where
    tails : (x s : Segment) (others rest : List Segment) → x ∷ others ≡ s ∷ rest → others ≡ rest
    tails x s others rest f = cc

-- where no token is left, the count of the first segment does not tell
pub more_none : (s s' : Segment) (rest : List Segment) → more_of (s ∷ rest) [] ≡ more_of (s' ∷ rest) []
more_none s s' rest = ap (λ t. ahead_of rest t ∷ more_of rest t) (drop-nil (extent s) ∙ sym (drop-nil (extent s')))

-- the first token of the first segment is the first ahead
pub first_ahead : (segments : List Segment) (ts : List Token) (t : Token) (rest : List Token) → ahead_of segments ts ≡ t ∷ rest
    → (behind : List Token) × (ts ≡ t ∷ behind)
first_ahead [] ts t rest e = (rest, e)
first_ahead (s ∷ ss) ts t rest e = at s.tokens ts e
  where
    at : (n : ℕ) (ts : List Token) → take n ts ≡ t ∷ rest → (behind : List Token) × (ts ≡ t ∷ behind)
    at zero ts e = absurd cc
    at (suc n) [] e = absurd cc
    at (suc n) (x ∷ xs) e = let same : x ≡ t = cc in (xs, ap (λ y. y ∷ xs) same)

ahead_none : (ss : List Segment) → ahead_of ss [] ≡ []
ahead_none [] = refl
ahead_none (s ∷ ss) = at s.tokens
  where
    at : (n : ℕ) → take {A = Token} n [] ≡ []
    at zero = refl
    at (suc n) = refl

pub first_some : (ss : List Segment) (ts : List Token) → 0 < length (ahead_of ss ts) → (t : Token) × (rest : List Token) × (ts ≡ t ∷ rest)
first_some ss [] l = absurd (let e = ap length (ahead_none ss) in omega (arith, l, e))
first_some ss (t ∷ rest) l = (t, rest, refl)

-- the first token is taken out
pub popped : (old new : List Segment) (s s' : Standing) (r : Option Token)
    → ((t : Token) (ts : List Token) → (ahead_of old (t ∷ ts) ≡ t ∷ ahead_of new ts) × (more_of old (t ∷ ts) ≡ more_of new ts))
    → more_of new [] ≡ more_of old []
    → MatchOption r ((s.ahead ≡ []) × (s' ≡ s)) (λ t. (s.ahead ≡ t ∷ s'.ahead) × (s'.done ≡ s.done))
    → MatchOption r ((ahead_of old s.ahead ≡ []) × (spread_of new s' ≡ spread_of old s))
    (λ t. (ahead_of old s.ahead ≡ t ∷ ahead_of new s'.ahead) × (s'.done ≡ s.done) × (more_of new s'.ahead ≡ more_of old s.ahead))
popped old new s s' None one none h = (
  ap (ahead_of old) h.0 ∙ ahead_none old,
  ap (spread_of new) h.1
      ∙ ap₂ (λ (x : List Token) (y : List (List Token)). record { done = s.done; ahead = x; more = y })
      (ap (ahead_of new) h.0 ∙ (ahead_none new ∙ (sym (ahead_none old) ∙ ap (ahead_of old) (sym h.0))))
      (ap (more_of new) h.0 ∙ (none ∙ ap (more_of old) (sym h.0))),
)
popped old new s s' (Some t) one none h =
    let p = one t s'.ahead in
    (ap (ahead_of old) h.0 ∙ p.0, h.1, sym p.1 ∙ ap (more_of old) (sym h.0))

pub ended : (b : Bool) → not b ≡ false → b ≡ true
ended true e = refl
ended false e = absurd cc

-- the segment behind the first is gone on to, over its end
dropped_end : (n : ℕ) (ended : Bool) (t : Token) (x : List Token) → ended ≡ true → take n (t ∷ x) ≡ [] → drop (n + cond ended 1 0) (t ∷ x) ≡ x
dropped_end zero ended t x e h = ap (λ b. drop (0 + cond b 1 0) (t ∷ x)) e
dropped_end (suc n) ended t x e h = absurd cc

pub advanced : (old new : List Segment) (s : Segment) (a a' : Standing) (r : Option Token) → old ≡ s ∷ new → s.is_ended ≡ true → ahead_of old a.ahead ≡ []
    → MatchOption r ((a.ahead ≡ []) × (a' ≡ a)) (λ t. (a.ahead ≡ t ∷ a'.ahead) × (a'.done ≡ a.done))
    → more_of old a.ahead ≡ ahead_of new a'.ahead ∷ more_of new a'.ahead
advanced old new s a a' r o e n h =
    ap (λ x. more_of x a.ahead) o ∙ ap (λ x. ahead_of new x ∷ more_of new x) (behind r h)
  where
    behind : (r : Option Token) → MatchOption r ((a.ahead ≡ []) × (a' ≡ a)) (λ t. (a.ahead ≡ t ∷ a'.ahead) × (a'.done ≡ a.done)) → drop (extent s) a.ahead ≡ a'.ahead
    behind None h = ap (drop (extent s)) h.0 ∙ (drop-nil (extent s) ∙ (sym h.0 ∙ ap (λ (x : Standing). x.ahead) (sym h.1)))
    behind (Some t) h =
        ap (drop (extent s)) h.0
        ∙ dropped_end s.tokens s.is_ended t a'.ahead e (ap (take s.tokens) (sym h.0) ∙ (ap (λ x. ahead_of x a.ahead) (sym o) ∙ n))

pub next_segment : (ahead ahead' : List Token) (more more' : List (List Token)) → ahead ∷ more ≡ ahead' ∷ more' → (ahead ≡ ahead') × (more ≡ more')
next_segment ahead ahead' more more' e = (cc, cc)

-- it is passed
pub passed : (old new : List Segment) (ahead after behind rest : List Token) (t : Token) → ahead ≡ t ∷ behind → after ≡ behind → ahead_of old ahead ≡ t ∷ rest
    → (ahead_of old (t ∷ behind) ≡ t ∷ ahead_of new behind) × (more_of old (t ∷ behind) ≡ more_of new behind)
    → (ahead_of new after ≡ rest) × (more_of new after ≡ more_of old ahead)
passed old new ahead after behind rest t e f h p =
    let all : t ∷ ahead_of new behind ≡ t ∷ rest = sym p.0 ∙ (ap (ahead_of old) (sym e) ∙ h) in
    (ap (ahead_of new) f ∙ cc, ap (more_of new) f ∙ (sym p.1 ∙ ap (more_of old) (sym e)))

-- tokens are put before those of the first segment
pub counted_up : (old new : List Segment) (s : Segment) (n : ℕ) (rest : List Segment) (news ts : List Token) → old ≡ s ∷ rest
    → new ≡ record { tokens = n; is_ended = s.is_ended } ∷ rest → n ≡ s.tokens + length news
    → (ahead_of new (news ++ ts) ≡ news ++ ahead_of old ts) × (more_of new (news ++ ts) ≡ more_of old ts)
counted_up old new s n rest news ts e f h =
    let taken : take n (news ++ ts) ≡ news ++ take s.tokens ts =
    ap (λ k. take k (news ++ ts)) (let k : n ≡ length news + s.tokens = omega arith in k) ∙ take-append-add news ts s.tokens in
    let dropped : drop (n + cond s.is_ended 1 0) (news ++ ts) ≡ drop (extent s) ts =
    ap (λ k. drop k (news ++ ts)) (let k : n + cond s.is_ended 1 0 ≡ length news + extent s = omega arith in k) ∙ drop-append-add news ts (extent s) in (
      ap (λ x. ahead_of x (news ++ ts)) f ∙ (taken ∙ ap (λ x. news ++ ahead_of x ts) (sym e)),
      ap (λ x. more_of x (news ++ ts)) f ∙ (ap (λ x. ahead_of rest x ∷ more_of rest x) dropped ∙ ap (λ x. more_of x ts) (sym e)),
    )

-- where no segment is cut off and nothing is left of the first, nothing is ahead
pub none_ahead : (segments : List Segment) (s : Standing) → (spread_of segments s).more ≡ [] → (spread_of segments s).ahead ≡ [] → s.ahead ≡ []
none_ahead [] s m a = a
none_ahead (x ∷ xs) s m a = absurd cc

-- what stands between brackets, the closing one and what stands behind it are all that is ahead
IsWhole : List Token → Option Bracketed → Type 0
IsWhole ts None = Unit {0}
IsWhole ts (Some b) = ts ≡ b.inner ++ b.closing ∷ b.after

whole_inner : (t : Token) (ts : List Token) (r : Option Bracketed) → IsWhole ts r → IsWhole (t ∷ ts) (with_inner t r)
unfolding IsWhole
whole_inner t ts None h = tt
whole_inner t ts (Some b) h = ap (λ x. t ∷ x) h

whole_first : (closes : Bool) (t : Token) (ts : List Token) (r : Option Bracketed) → IsWhole ts r
    → IsWhole (t ∷ ts) (cond closes (Some (record { inner = []; closing = t; after = ts })) (with_inner t r))
unfolding IsWhole
whole_first true t ts r h = refl
whole_first false t ts r h = whole_inner t ts r h

is_whole : (depth : ℕ) (ts : List Token) → IsWhole ts (bracketed depth ts)
unfolding IsWhole bracketed
is_whole depth [] = tt
is_whole zero (t ∷ ts) = whole_first (is_close t) t ts (bracketed (cond (is_open t) 1 0) ts) (is_whole (cond (is_open t) 1 0) ts)
is_whole (suc d) (t ∷ ts) =
    whole_inner t ts (bracketed (cond (is_close t) d (cond (is_open t) (suc (suc d)) (suc d))) ts)
    (is_whole (cond (is_close t) d (cond (is_open t) (suc (suc d)) (suc d))) ts)

pub bracketed_whole_at : (depth : ℕ) (ts : List Token) (b : Bracketed) → bracketed depth ts ≡ Some b → ts ≡ b.inner ++ b.closing ∷ b.after
unfolding IsWhole
bracketed_whole_at depth ts b e = subst (IsWhole ts) e (is_whole depth ts)

pub bracketed_whole : (ts : List Token) (b : Bracketed) → bracketed 0 ts ≡ Some b → ts ≡ b.inner ++ b.closing ∷ b.after
unfolding IsWhole
bracketed_whole ts b e = subst (IsWhole ts) e (is_whole 0 ts)

-- what stands behind a front and a token behind it, of so many tokens
front_rest : (n : ℕ) (ts inner : List Token) (t : Token) (behind : List Token) → take n ts ≡ inner ++ t ∷ behind
    → (rest : List Token) × (ts ≡ inner ++ t ∷ rest) × (take (n - length inner - 1) rest ≡ behind) × (length inner + 1 ≤ n)
front_rest zero ts [] t behind e = absurd cc
front_rest zero ts (i ∷ is) t behind e = absurd cc
front_rest (suc n) [] [] t behind e = absurd cc
front_rest (suc n) [] (i ∷ is) t behind e = absurd cc
front_rest (suc n) (x ∷ xs) [] t behind e =
    let same : x ≡ t = cc in
    let rest : take n xs ≡ behind = cc in
    (xs, ap (λ y. y ∷ xs) same, ap (λ k. take k xs) (let k : suc n - 0 - 1 ≡ n = omega arith in k) ∙ rest, omega arith)
front_rest (suc n) (x ∷ xs) (i ∷ is) t behind e =
    let same : x ≡ i = cc in
    let rest : take n xs ≡ is ++ t ∷ behind = cc in
    let h = front_rest n xs is t behind rest in (
      h.0,
      ap₂ (λ a b. a ∷ b) same h.1,
      ap (λ k. take k h.0) (let k : suc n - suc (length is) - 1 ≡ n - length is - 1 = omega arith in k) ∙ h.2,
      let room = h.3 in omega arith,
    )

-- The same of what is ahead: a front and the token behind it are counted off the first of the old segments.
abbrev pub Behind : List Segment → List Segment → List Token → Token → List Token → List Token → Type 0
Behind old new front t behind ts = (rest : List Token) × (ts ≡ front ++ t ∷ rest) × (ahead_of new rest ≡ behind) × (more_of new rest ≡ more_of old ts)

pub counted_off : (old new : List Segment) (s : Segment) (n : ℕ) (rest : List Segment) (front : List Token) (t : Token) (behind ts : List Token) → old ≡ s ∷ rest
    → new ≡ record { tokens = n; is_ended = s.is_ended } ∷ rest → n ≡ s.tokens - length front - 1 → ahead_of old ts ≡ front ++ t ∷ behind
    → Behind old new front t behind ts
counted_off old new s n rest front t behind ts e f h a =
    let r = front_rest s.tokens ts front t behind (subst (λ x. ahead_of x ts ≡ front ++ t ∷ behind) e a) in
    let room = r.3 in
    let counted : extent s ≡ length front + suc (n + cond s.is_ended 1 0) = omega arith in
    let dropped : drop (extent s) ts ≡ drop (n + cond s.is_ended 1 0) r.0 =
    ap₂ (λ k x. drop k x) counted r.1 ∙ drop-append-add front (t ∷ r.0) (suc (n + cond s.is_ended 1 0)) in (
      r.0,
      r.1,
      ap (λ x. ahead_of x r.0) f ∙ (ap (λ k. take k r.0) h ∙ r.2),
      ap (λ x. more_of x r.0) f ∙ (ap (λ x. ahead_of rest x ∷ more_of rest x) (sym dropped) ∙ ap (λ x. more_of x ts) (sym e)),
    )

-- pieces are cut off from what other segments are cut off from
pub cuts_spread : (segments : List Segment) (ts : List Token) (pieces : List (List Token)) (behind : List Token) (others : List Segment) → Cuts segments ts pieces behind
    → ahead_of (segments ++ others) ts ∷ more_of (segments ++ others) ts ≡ pieces ++ ahead_of others behind ∷ more_of others behind
cuts_spread _ _ _ behind others cuts_none = refl
cuts_spread _ _ _ behind others (cuts_one {ss = ss} {rest = rest} {pieces = pieces} s piece ending n e h) =
    let dropped : drop (extent s) (piece ++ (ending ++ rest)) ≡ rest = ap₂ (λ a b. drop (a + b) (piece ++ (ending ++ rest))) n e
    ∙ (drop-append-add piece (ending ++ rest) (length ending) ∙ drop-append_seam ending rest) in
    ap₂ (λ a b. a ∷ ahead_of (ss ++ others) b ∷ more_of (ss ++ others) b)
    (ap (λ k. take k (piece ++ (ending ++ rest))) n ∙ take-append_seam piece (ending ++ rest)) dropped
    ∙ ap (λ x. piece ∷ x) (cuts_spread ss rest pieces behind others h)

pub cuts_length : (segments : List Segment) (ts : List Token) (pieces : List (List Token)) (behind : List Token) → Cuts segments ts pieces behind
    → length segments ≡ length pieces
cuts_length _ _ _ behind cuts_none = refl
cuts_length _ _ _ behind (cuts_one {ss = ss} {rest = rest} {pieces = pieces} s piece ending n e h) = ap (λ k. suc k) (cuts_length ss rest pieces behind h)

-- a macro without parameters is given no argument where nothing stands between the brackets, and else too many
pub none_given : (inner : List Token) → length inner ≡ 0 → arguments_of 0 false inner ≡ Some no_arguments
unfolding arguments_of named_arguments
none_given [] e = refl
none_given (t ∷ ts) e = absurd (omega arith)

pub some_given : (inner : List Token) → 0 < length inner → arguments_of 0 false inner ≡ None
unfolding arguments_of named_arguments
some_given [] h = absurd (omega arith)
some_given (t ∷ ts) h = refl

pub cut_none : (old new : Spread) (r : Option Token) (hide : List (List ℕ)) (b : Bracketed)
    → MatchOption r ((old.ahead ≡ []) × (new ≡ old)) (λ t. (old.ahead ≡ t ∷ new.ahead) × (new.done ≡ old.done) × (new.more ≡ old.more))
    → bracketed 0 old.ahead ≡ Some b → length b.inner ≡ 0 → hide ≡ b.closing.hide → IsCut 0 false old new hide 0 false
cut_none old new r hide b h found empty hides =
    step r h (bracketed_whole old.ahead b found ∙ ap (λ x. x ++ b.closing ∷ b.after) (nil_from_length b.inner empty))
  where
    step : (r : Option Token) → MatchOption r ((old.ahead ≡ []) × (new ≡ old)) (λ t. (old.ahead ≡ t ∷ new.ahead) × (new.done ≡ old.done) × (new.more ≡ old.more))
        → old.ahead ≡ b.closing ∷ b.after → IsCut 0 false old new hide 0 false
    step None h whole = absurd (let none = h.0 in cc)
    step (Some t) h whole =
        let popped = h.0 in
        let behind : new.ahead ≡ b.after = cc in
        record {
          brackets = b;
          raw = [];
          found = found;
          split = none_given b.inner empty;
          counted = refl;
          hides = hides;
          done = h.1;
          cut = ap₂ (λ x y. x ∷ y) behind h.2;
        }

-- the arguments of a call are cut off from what stands behind it
pub cut : (old mid new news : List Segment) (ahead : List Token) (raw : List (List Token)) (b : Bracketed) → CutsText news b.inner raw None
    → Behind old mid b.inner b.closing b.after ahead → new ≡ news ++ mid → ahead_of new ahead ∷ more_of new ahead ≡ raw ++ b.after ∷ more_of old ahead
cut old mid new news ahead raw b cuts h put =
    let spread = cuts_spread news (b.inner ++ b.closing ∷ h.0) raw h.0 mid (cuts b.closing h.0) in
    ap₂ (λ x t. ahead_of x t ∷ more_of x t) put h.1 ∙ (spread ∙ ap₂ (λ x y. raw ++ x ∷ y) h.2 h.3)

-- what stands between the brackets, where it is read once more
pub inner_again : (ahead : List Token) (b : Bracketed) (n : ℕ) (all inner : List Token) → bracketed 0 ahead ≡ Some b → n ≡ length b.inner → all ≡ ahead
    → inner ≡ take n all → inner ≡ b.inner
inner_again ahead b n all inner found counted same front =
    front ∙ (ap (λ x. take n x) (same ∙ bracketed_whole ahead b found) ∙ take_at b.inner (b.closing ∷ b.after) n (sym counted))
