-- What the methods of texts say, in the words of paths.
use Rattle.std.proofs.Common.{◌≡◌, ℕ, ◌<◌, Option, Some, None, List, [], ◌∷◌, ◌++◌, true, false, nat_eq, length, drop, get_or, ◌≢◌, ◌==◌, MatchOption, Bor, refl, sym, ap, subst, arith, ne_eqb, suc}
use Rattle.std.specs.List.{starts_with, before_first, position_or_len, slice_split}
use Rattle.std.specs.Str.{IsCharBoundary}
use Rattle.std.specs.Str.Pattern.{FindsTextPrefix, StripsPrefix}
use Rattle.std.proofs.lemmas.Str.Pattern.{starts_text, split_once_first, split_parts, IsSplitOnceResult}
use Rattle.std.proofs.Math.Seq.{take-length}
use Rattle.cx_base.specs.Folders.{rest_after, is_slash}

pub strips : (front text : List ℕ) (r : Option (Bor (List ℕ)))
    → MatchOption r (FindsTextPrefix front text None) (λ x. StripsPrefix (FindsTextPrefix front) text x.now)
    → MatchOption r (rest_after front text ≡ None) (λ rest. rest_after front text ≡ Some rest.now)
strips front text None lacks =
    let e : starts_with nat_eq text front ≡ false = sym (starts_text false front text lacks) in rw e refl
strips front text (Some x) h =
    let e : starts_with nat_eq text front ≡ true =
    sym (starts_text true front text (h.0, h.1, subst (λ k. IsCharBoundary text k) (sym h.1.0) h.1.2)) in
    let same : drop (length front) text ≡ x.now = rw (← h.1.0) (sym h.2) in
    rw e (ap Some same)

pub splits : (path : List ℕ) (r : Option (Bor (List ℕ) × Bor (List ℕ))) → IsSplitOnceResult 47 path r
    → MatchOption r (path ≡ before_first is_slash path) (λ x. x.0.now ≡ before_first is_slash path)
splits path None h = let e : position_or_len is_slash path ≡ length path = split_once_first 47 path None h (omega arith) in rw e (sym (take-length path))
splits path (Some x) h = (split_once_first 47 path (Some x) h (omega arith)).1

uncut : (path : List ℕ) → ((i : ℕ) → i < length path → get_or path i 0 ≢ 47) → slice_split is_slash path ≡ path ∷ []
uncut [] lacks = refl
uncut (b ∷ bs) lacks =
    let no : (b == 47) ≡ false = ne_eqb b 47 (lacks 0 (omega arith)) in
    rw (no, uncut bs (λ i below. lacks (suc i) (omega arith))) refl

cut_at : (front rest : List ℕ) → ((i : ℕ) → i < length front → get_or front i 0 ≢ 47)
    → slice_split is_slash (front ++ 47 ∷ rest) ≡ front ∷ slice_split is_slash rest
cut_at [] rest lacks = refl
cut_at (b ∷ bs) rest lacks =
    let no : (b == 47) ≡ false = ne_eqb b 47 (lacks 0 (omega arith)) in
    rw (no, cut_at bs rest (λ i below. lacks (suc i) (omega arith))) refl

pub cuts : (path : List ℕ) (r : Option (Bor (List ℕ) × Bor (List ℕ))) → IsSplitOnceResult 47 path r
    → MatchOption r (slice_split is_slash path ≡ path ∷ []) (λ x. slice_split is_slash path ≡ x.0.now ∷ slice_split is_slash x.1.now)
cuts path None h = uncut path (split_parts 47 path None h (omega arith))
cuts path (Some x) h =
    let parts = split_parts 47 path (Some x) h (omega arith) in
    rw parts.0 (cut_at x.0.now x.1.now parts.1)
