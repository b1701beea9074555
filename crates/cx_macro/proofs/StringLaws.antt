-- What a string of `#` says, without its quotes and added backslashes.
use Rattle.std.proofs.Common.{◌≡◌, ℕ, suc, List, [], ◌∷◌, ◌++◌, Bool, true, false, ◌||◌, ◌==◌, ◌⊎◌, if◌then◌else◌, All, codes, refl, sym, ◌∙◌, ap, subst, append_assoc, ⊎_elim, inl, inr, arith}
use Rattle.std.proofs.lemmas.Bool.Decides.{nat_tests}
use Rattle.cx_tokens.specs.Digraphs.{spelling_of}
use Rattle.cx_tokens.specs.declared.token.Token.{Token}
use Rattle.cx_macro.specs.Replacement.{characters_after, characters_of, characters_of_all, escaped, is_quoted, string_of}
use Rattle.cx_macro.specs.Strings.{HasNoStrayBackslash, spellings_after, spellings_of, unescaped, unescaped_after}

either : (b : Bool) → (b ≡ true) ⊎ (b ≡ false)
either true = inl refl
either false = inr refl

-- the bytes that stand for one, and what stands after them
escaped_byte : (b : ℕ) (rest : List ℕ) → unescaped ((if (b == 34) || (b == 92) then 92 ∷ b ∷ [] else b ∷ []) ++ rest) ≡ b ∷ unescaped rest
escaped_byte b rest = at (b == 34) (b == 92) refl
  where
    at : (q s : Bool) → (b == 92) ≡ s → unescaped ((if q || s then 92 ∷ b ∷ [] else b ∷ []) ++ rest) ≡ b ∷ unescaped rest
    at true s e = refl
    at false true e = refl
    at false false e = ap (λ x. if x then unescaped_after true rest else b ∷ unescaped rest) e

unescaped_escaped : (text rest : List ℕ) → unescaped (escaped text ++ rest) ≡ text ++ unescaped rest
unescaped_escaped [] rest = refl
unescaped_escaped (b ∷ text) rest =
    ap unescaped (append_assoc (if (b == 34) || (b == 92) then 92 ∷ b ∷ [] else b ∷ []) (escaped text) rest)
    ∙ (escaped_byte b (escaped text ++ rest) ∙ ap (λ x. b ∷ x) (unescaped_escaped text rest))

first_of : (b : ℕ) (text : List ℕ) → All (λ x. (x == 92) ≡ false) (b ∷ text) → (b == 92) ≡ false
first_of b text h = h 0 b (omega arith)

rest_of : (b : ℕ) (text : List ℕ) → All (λ x. (x == 92) ≡ false) (b ∷ text) → All (λ x. (x == 92) ≡ false) text
rest_of b text h = λ k d l. h (suc k) d (omega (arith, l))

unescaped_plain : (text rest : List ℕ) → All (λ b. (b == 92) ≡ false) text → unescaped (text ++ rest) ≡ text ++ unescaped rest
unescaped_plain [] rest h = refl
unescaped_plain (b ∷ text) rest h =
    ap (λ x. if x then unescaped_after true (text ++ rest) else b ∷ unescaped (text ++ rest)) (first_of b text h)
    ∙ ap (λ x. b ∷ x) (unescaped_plain text rest (rest_of b text h))

-- what one token gives
characters_say : (t : Token) (rest : List ℕ) → HasNoStrayBackslash t → unescaped (characters_of t ++ rest) ≡ spelling_of t ++ unescaped rest
characters_say t rest h = at (is_quoted t.kind) refl
  where
    at : (q : Bool) → is_quoted t.kind ≡ q → unescaped ((if q then escaped (spelling_of t) else spelling_of t) ++ rest) ≡ spelling_of t ++ unescaped rest
    at true e = unescaped_escaped (spelling_of t) rest
    at false e =
        ⊎_elim (λ (k : is_quoted t.kind ≡ true). absurd (no_both (is_quoted t.kind) k e)) (λ (k : All (λ b. (b == 92) ≡ false) (spelling_of t)). unescaped_plain (spelling_of t) rest k) h
      where
        no_both : (b : Bool) → b ≡ true → b ≡ false → ⊥
        no_both b t f = absurd cc

all_first : (t : Token) (ts : List Token) → All HasNoStrayBackslash (t ∷ ts) → HasNoStrayBackslash t
all_first t ts h = h 0 t (omega arith)

all_rest : (t : Token) (ts : List Token) → All HasNoStrayBackslash (t ∷ ts) → All HasNoStrayBackslash ts
all_rest t ts h = λ k d l. h (suc k) d (omega (arith, l))

space_says : (space : Bool) (rest : List ℕ) → unescaped ((if space then codes " " else []) ++ rest) ≡ (if space then codes " " else []) ++ unescaped rest
space_says true rest = refl
space_says false rest = refl

after_say : (ts : List Token) → All HasNoStrayBackslash ts → unescaped (characters_after ts) ≡ spellings_after ts
after_say [] h = refl
after_say (t ∷ ts) h =
    space_says t.space (characters_of t ++ characters_after ts)
    ∙ ap (λ x. (if t.space then codes " " else []) ++ x)
    (characters_say t (characters_after ts) (all_first t ts h) ∙ ap (λ x. spelling_of t ++ x) (after_say ts (all_rest t ts h)))

all_say : (ts : List Token) → All HasNoStrayBackslash ts → unescaped (characters_of_all ts) ≡ spellings_of ts
unfolding characters_of_all
all_say [] h = refl
all_say (t ∷ ts) h =
    characters_say t (characters_after ts) (all_first t ts h) ∙ ap (λ x. spelling_of t ++ x) (after_say ts (all_rest t ts h))

pub string_says : (hash : Token) (argument : List Token) → All HasNoStrayBackslash argument
    → (inner : List ℕ) × ((string_of hash argument).text ≡ codes "\"" ++ (inner ++ codes "\"")) × (unescaped inner ≡ spellings_of argument)
unfolding string_of
string_says hash argument h = (characters_of_all argument, refl, all_say argument h)
