-- Names by reference, and what they show.
use Rattle.std.proofs.Common.{◌≡◌, ℕ, ◌+◌, List, [], ◌∷◌, ◌++◌, Bool, true, false, refl, ap, cond, map, bytes_eq, Bor}
use Rattle.std.specs.Prelude.{◌||◌, not}
use Rattle.std.specs.List.{list_any, position_or_len}
use Rattle.indexmap.specs.IndexSet.{insert_key}
use Rattle.cx_tokens.specs.declared.token.Token.{Token}

abbrev pub References : Type 0
References = List (Bor (List ℕ))

shown : References → List (List ℕ)
shown keys = map (λ k. k.now) keys

same : Bor (List ℕ) → Bor (List ℕ) → Bool
same a b = bytes_eq a.now b.now

shown_any : (keys : References) (name : Bor (List ℕ))
    → list_any (same name) keys ≡ list_any (bytes_eq name.now) (shown keys)
unfolding same shown
shown_any [] name = refl
shown_any (k ∷ keys) name = ap (λ b. bytes_eq name.now k.now || b) (shown_any keys name)

shown_last : (keys : References) (name : Bor (List ℕ)) → shown (keys ++ name ∷ []) ≡ shown keys ++ name.now ∷ []
unfolding shown
shown_last [] name = refl
shown_last (k ∷ keys) name = ap (λ l. k.now ∷ l) (shown_last keys name)

pub shown_keys : (keys : References) (name : Bor (List ℕ))
    → map (λ k. k.now) (insert_key (λ a b. bytes_eq a.now b.now) keys name)
    ≡ insert_key bytes_eq (map (λ k. k.now) keys) name.now
unfolding same shown
shown_keys keys name = by _ _ (shown_any keys name)
  where
    by : (b c : Bool) → b ≡ c → shown (cond b keys (keys ++ name ∷ [])) ≡ cond c (shown keys) (shown keys ++ name.now ∷ [])
    by true true h = refl
    by true false h = absurd cc
    by false true h = absurd cc
    by false false h = shown_last keys name

pub shown_place : (keys : References) (name : Bor (List ℕ))
    → position_or_len (λ k. bytes_eq name.now k.now) keys ≡ position_or_len (bytes_eq name.now) (map (λ k. k.now) keys)
shown_place [] name = refl
shown_place (k ∷ keys) name =
    ap (λ n. cond (not (bytes_eq name.now k.now)) (1 + n) 0) (shown_place keys name)

pub shown_token : (ts : List (Bor Token)) (t : Bor Token) → map (λ t. t.now) (ts ++ t ∷ []) ≡ map (λ t. t.now) ts ++ t.now ∷ []
shown_token [] t = refl
shown_token (u ∷ ts) t = ap (λ l. u.now ∷ l) (shown_token ts t)
