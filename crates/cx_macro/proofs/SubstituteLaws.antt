-- Replacement lists with their arguments put in, and what is kept of these.
use Rattle.std.proofs.Common.{◌≡◌, ℕ, zero, suc, ◌+◌, ◌<◌, List, [], ◌∷◌, ◌++◌, Bool, true, false, if◌then◌else◌, ◌||◌, refl, sym, ◌∙◌, ap, ap₂, arith, flat_map, get_or, length, take, ◌==◌}
use Rattle.std.proofs.lemmas.Bool.Decides.{nat_tests}
use Rattle.std.specs.List.{list_any}
use Rattle.cx_tokens.specs.declared.token.Token.{Token}
use Rattle.cx_macro.specs.Arguments.{Arguments}
use Rattle.cx_macro.specs.Macros.{Definition}
use Rattle.cx_macro.specs.Replacement.{Position, Role, expanded, given, gnu_comma, gnu_paste, gnu_variable, hash, hash_operand, itself, operand, paste, positions_of, role_of, string_of, substitutes_by, substitutes_of, with_space}
use Rattle.cx_macro.specs.Shapes.Roles.{takes_given}
use Rattle.cx_macro.specs.Shapes.Substitutes.{is_raw, kept_of}

same_index : (i : ℕ) → (i == i) ≡ true
same_index i = grind (arith, nat_tests)

-- what stands for a token takes one argument at most as it is given
role_agrees : (raw raw' : List (List Token)) (left_out : Bool) (done : List (List Token)) (t : Token) (r : Role)
    → ((i : ℕ) → takes_given i r ≡ true → get_or raw i [] ≡ get_or raw' i [])
    → substitutes_by (record { given = raw; left_out = left_out }) done t r ≡ substitutes_by (record { given = raw'; left_out = left_out }) done t r
role_agrees raw raw' left_out done t (hash_operand h i) e = ap (λ x. operand (string_of h x ∷ []) ∷ []) (e i (same_index i))
role_agrees raw raw' left_out done t (given i) e = ap (λ x. operand (with_space t.space x) ∷ []) (e i (same_index i))
role_agrees raw raw' left_out done t itself e = refl
role_agrees raw raw' left_out done t paste e = refl
role_agrees raw raw' left_out done t hash e = refl
role_agrees raw raw' left_out done t (expanded i) e = refl
role_agrees raw raw' left_out done t gnu_comma e = refl
role_agrees raw raw' left_out done t gnu_paste e = refl
role_agrees raw raw' left_out done t (gnu_variable i) e = refl

or_left : (a b : Bool) → a ≡ true → (a || b) ≡ true
or_left a b e = rw e refl

or_right : (a b : Bool) → b ≡ true → (a || b) ≡ true
or_right true b e = refl
or_right false b e = e

substitutes_agree : (d : Definition) (raw raw' : List (List Token)) (left_out : Bool) (done : List (List Token)) (ps : List Position)
    → ((i : ℕ) → list_any (λ p. takes_given i (role_of d p)) ps ≡ true → get_or raw i [] ≡ get_or raw' i [])
    → flat_map (λ p. substitutes_by (record { given = raw; left_out = left_out }) done p.token (role_of d p)) ps
    ≡ flat_map (λ p. substitutes_by (record { given = raw'; left_out = left_out }) done p.token (role_of d p)) ps
substitutes_agree d raw raw' left_out done [] e = refl
substitutes_agree d raw raw' left_out done (p ∷ ps) e =
    ap₂ (λ x y. x ++ y)
    (role_agrees raw raw' left_out done p.token (role_of d p)
    (λ i h. e i (or_left (takes_given i (role_of d p)) (list_any (λ q. takes_given i (role_of d q)) ps) h)))
    (substitutes_agree d raw raw' left_out done ps
    (λ i h. e i (or_right (takes_given i (role_of d p)) (list_any (λ q. takes_given i (role_of d q)) ps) h)))

-- an argument among those kept
kept_at : (d : Definition) (k i : ℕ) (raw : List (List Token)) → is_raw d (k + i) ≡ true → get_or (kept_of d k raw) i [] ≡ get_or raw i []
kept_at d k i [] h = refl
kept_at d k zero (argument ∷ rest) h = rw (sym (ap (λ n. is_raw d n) (no_more k)) ∙ h) refl
  where
    no_more : (k : ℕ) → k + 0 ≡ k
    no_more k = omega arith
kept_at d k (suc i) (argument ∷ rest) h = kept_at d (k + 1) i rest (ap (λ n. is_raw d n) (one_more k i) ∙ h)
  where
    one_more : (k i : ℕ) → k + 1 + i ≡ k + suc i
    one_more k i = omega arith

none_more : (i : ℕ) → 0 + i ≡ i
none_more i = omega arith

-- those kept serve as well
pub substitutes_kept : (d : Definition) (a : Arguments) (done : List (List Token))
    → substitutes_of d (record { given = kept_of d 0 a.given; left_out = a.left_out }) done ≡ substitutes_of d a done
unfolding substitutes_of is_raw
substitutes_kept d a done =
    substitutes_agree d (kept_of d 0 a.given) a.given a.left_out done (positions_of d.body)
    (λ i h. kept_at d 0 i a.given (ap (λ n. is_raw d n) (none_more i) ∙ h))

-- one more is kept
kept_more : (d : Definition) (k i : ℕ) (raw : List (List Token)) → i < length raw
    → kept_of d k (take (suc i) raw) ≡ kept_of d k (take i raw) ++ (if is_raw d (k + i) then get_or raw i [] else []) ∷ []
kept_more d k i [] h = absurd (omega (arith, h))
kept_more d k zero (argument ∷ rest) h = ap (λ n. (if is_raw d n then argument else []) ∷ []) (no_more k)
  where
    no_more : (k : ℕ) → k ≡ k + 0
    no_more k = omega arith
kept_more d k (suc i) (argument ∷ rest) h =
    ap (λ x. (if is_raw d k then argument else []) ∷ x)
    (kept_more d (k + 1) i rest (omega (arith, h)) ∙ ap (λ n. kept_of d (k + 1) (take i rest) ++ (if is_raw d n then (get_or rest i []) else []) ∷ []) (one_more k i))
  where
    one_more : (k i : ℕ) → k + 1 + i ≡ k + suc i
    one_more k i = omega arith

pub kept_next : (d : Definition) (i : ℕ) (raw : List (List Token)) → i < length raw
    → kept_of d 0 (take (i + 1) raw) ≡ kept_of d 0 (take i raw) ++ (if is_raw d i then (get_or raw i []) else []) ∷ []
kept_next d i raw h =
    ap (λ n. kept_of d 0 (take n raw)) (next i)
    ∙ (kept_more d 0 i raw h ∙ ap (λ n. kept_of d 0 (take i raw) ++ (if is_raw d n then (get_or raw i []) else []) ∷ []) (none_more i))
  where
    next : (i : ℕ) → i + 1 ≡ suc i
    next i = omega arith
