-- Tokens that are cut at the first that passes a test.
use Rattle.std.proofs.Common.{◌≡◌, ℕ, suc, ◌+◌, Bool, true, false, not, cond, List, [], ◌∷◌, length, take, drop, Option, Some, None, option_map, nat_lt, refl, sym, ◌∙◌, ap, ap₂, ⊎_elim, arith}
use Rattle.std.proofs.lemmas.Bool.{cases_Bool}
use Rattle.std.proofs.lemmas.Bool.Decides.{nat_tests}
use Rattle.std.proofs.lemmas.List.{drop-map, length-map, take-map}
use Rattle.std.specs.List.{onto_first, position, position_or_len, slice_split}
use Rattle.cx_tokens.specs.declared.token.Token.{Token}
use Rattle.cx_macro.specs.Arguments.{is_close}
use Rattle.cx_lex.specs.declared.piece.Piece.{Piece}
use Rattle.cx_directive.specs.Defines.{cut_at_close}
use Rattle.cx_directive.specs.Operands.{tokens_of}
use Rattle.cx_directive.specs.Shapes.Cuts.{cut_at}

-- the cut at the index of the first that passes
abbrev pub cut_before : List Token → Option ℕ → Option (List Token × List Token)
cut_before ts None = None
cut_before ts (Some i) = Some (take i ts, drop (i + 1) ts)

one_at_least : (n : ℕ) → nat_lt 0 (suc n) ≡ true
one_at_least n = grind (arith, nat_tests)

one_more : (a b : ℕ) → nat_lt (1 + a) (suc b) ≡ nat_lt a b
one_more a b = grind (arith, nat_tests)

-- a token more in front
in_front : (t : Token) (ts : List Token) (n : ℕ) (b : Bool)
    → option_map (λ (c : List Token × List Token). (t ∷ c.0, c.1)) (cut_before ts (cond b (Some n) None)) ≡ cut_before (t ∷ ts) (cond b (Some (1 + n)) None)
in_front t ts n false = refl
in_front t ts n true = let e : 1 + n ≡ suc n = omega arith in let f : (1 + n) + 1 ≡ suc (n + 1) = omega arith in rw (f, e) refl

pub cut_position : (p : Token → Bool) (ts : List Token) → cut_at p ts ≡ cut_before ts (position p ts)
unfolding cut_at
cut_position p [] = refl
cut_position p (t ∷ ts) =
    ⊎_elim
    (λ (e : p t ≡ true). rw e (rw (one_at_least (length ts)) refl))
    (λ (e : p t ≡ false).
    rw e
    (ap (option_map (λ (c : List Token × List Token). (t ∷ c.0, c.1))) (cut_position p ts)
    ∙ (in_front t ts (position_or_len p ts) (nat_lt (position_or_len p ts) (length ts))
    ∙ ap (λ b. cut_before (t ∷ ts) (cond b (Some (1 + position_or_len p ts)) None)) (sym (one_more (position_or_len p ts) (length ts))))))
    (cases_Bool (p t))

place_in_tokens : (p : Token → Bool) (pieces : List Piece) → position_or_len (λ q. p q.token) pieces ≡ position_or_len p (tokens_of pieces)
place_in_tokens p [] = refl
place_in_tokens p (q ∷ qs) = ap (λ n. cond (not (p q.token)) (1 + n) 0) (place_in_tokens p qs)

position_in_tokens : (p : Token → Bool) (pieces : List Piece) → position (λ q. p q.token) pieces ≡ position p (tokens_of pieces)
position_in_tokens p pieces = ap₂ (λ (n l : ℕ). cond (nat_lt n l) (Some n) None) (place_in_tokens p pieces) (sym (length-map pieces (λ q. q.token)))

-- pieces that are not cut, and those that are
pub cut_none : (p : Token → Bool) (pieces : List Piece) → None ≡ position (λ q. p q.token) pieces → None ≡ cut_at p (tokens_of pieces)
cut_none p pieces h = ap (cut_before (tokens_of pieces)) (h ∙ position_in_tokens p pieces) ∙ sym (cut_position p (tokens_of pieces))

pub cut_some : (p : Token → Bool) (pieces : List Piece) (i : ℕ) → Some i ≡ position (λ q. p q.token) pieces
    → Some (tokens_of (take i pieces), tokens_of (drop (i + 1) pieces)) ≡ cut_at p (tokens_of pieces)
cut_some p pieces i h =
    ap₂ (λ a b. Some (a, b)) (sym (take-map (λ q. q.token) i pieces)) (sym (drop-map (λ q. q.token) (i + 1) pieces))
    ∙ (ap (cut_before (tokens_of pieces)) (h ∙ position_in_tokens p pieces) ∙ sym (cut_position p (tokens_of pieces)))

pub at_close : (ts : List Token) → cut_at is_close ts ≡ cut_at_close ts
unfolding cut_at cut_at_close
at_close [] = refl
at_close (t ∷ ts) = ap (λ c. cond (is_close t) (Some ([], ts)) (option_map (λ (x : List Token × List Token). (t ∷ x.0, x.1)) c)) (at_close ts)

-- the parts between the tokens that pass, by the first of these
abbrev pub split_by : (Token → Bool) → List Token → Option (List Token × List Token) → List (List Token)
split_by p ts None = ts ∷ []
split_by p ts (Some c) = c.0 ∷ slice_split p c.1

pub split_at : (p : Token → Bool) (ts : List Token) → slice_split p ts ≡ split_by p ts (cut_at p ts)
unfolding cut_at
split_at p [] = refl
split_at p (t ∷ ts) =
    ⊎_elim
    (λ (e : p t ≡ true). rw e refl)
    (λ (e : p t ≡ false). rw e (ap (onto_first t) (split_at p ts) ∙ onto t ts (cut_at p ts)))
    (cases_Bool (p t))
  where
    onto : (t : Token) (ts : List Token) (c : Option (List Token × List Token))
        → onto_first t (split_by p ts c) ≡ split_by p (t ∷ ts) (option_map (λ (x : List Token × List Token). (t ∷ x.0, x.1)) c)
    onto t ts None = refl
    onto t ts (Some c) = refl
