-- Classes of characters, and which of them a punctuator begins with.
use Rattle.std.proofs.Common.{◌≡◌, ℕ, zero, suc, ◌<◌, List, [], ◌∷◌, ◌++◌, Bool, true, false, not, refl, sym, ◌∙◌, subst, arith, Contains, length, get_or}
use Rattle.std.specs.List.{list_all}
use Rattle.std.proofs.lemmas.Bool.{and_parts}
use Rattle.std.proofs.lemmas.List.Folds.{list_all-append}
use Rattle.cx_lex.specs.Characters.{is_digit, is_nondigit, is_word}
use Rattle.cx_lex.specs.Forms.{punctuators}

pub digit_word : (b : ℕ) → is_digit b ≡ true → is_word b ≡ true
unfolding is_word
digit_word b h = grind arith

pub nondigit_word : (b : ℕ) → is_nondigit b ≡ true → is_word b ≡ true
unfolding is_word
nondigit_word b h = grind arith

pub all_right : (test : ℕ → Bool) (xs ys : List ℕ) → list_all test (xs ++ ys) ≡ true → list_all test ys ≡ true
all_right test xs ys h = let p = and_parts _ _ (sym (list_all-append test xs ys) ∙ h) in p.1

-- a punctuator begins with no character of a word
begins_no_word : List ℕ → Bool
begins_no_word [] = false
begins_no_word (b ∷ bs) = not (is_word b)

table_tested : list_all begins_no_word punctuators ≡ true
unfolding punctuators begins_no_word is_word is_nondigit is_digit
table_tested = refl

tested_at : (test : List ℕ → Bool) (words : List (List ℕ)) (k : ℕ) (w : List ℕ) → list_all test words ≡ true → k < length words → get_or words k w ≡ w → test w ≡ true
tested_at test [] k w h l e = absurd (omega arith)
tested_at test (x ∷ xs) zero w h l e = let p = and_parts _ _ h in subst (λ v. test v ≡ true) e p.0
tested_at test (x ∷ xs) (suc k) w h l e = let p = and_parts (test x) (list_all test xs) h in tested_at test xs k w p.1 (omega arith) e

punctuator_tested : (w : List ℕ) → Contains punctuators w → begins_no_word w ≡ true
punctuator_tested w h = tested_at begins_no_word punctuators h.0 w table_tested h.1 h.2

pub punctuator_no_word : (b : ℕ) (bs : List ℕ) → Contains punctuators (b ∷ bs) → is_word b ≡ false
unfolding begins_no_word
punctuator_no_word b bs h = let t = punctuator_tested (b ∷ bs) h in grind arith

pub no_empty_punctuator : Contains punctuators [] → ⊥
unfolding begins_no_word
no_empty_punctuator h = let t = punctuator_tested [] h in absurd cc
