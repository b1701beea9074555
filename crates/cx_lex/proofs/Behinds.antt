-- What is left after a word.
use Rattle.std.specs.Borrow.{Bor}
use Rattle.std.proofs.Common.{◌≡◌, ℕ, ◌+◌, ◌<◌, ◌≤◌, List, [], ◌∷◌, Option, Some, None, true, false, ◌==◌, refl, ap, sym, ◌∙◌, arith, drop, get_or, length, drop-cons, add-one}
use Rattle.std.proofs.Math.ListN.{drop_of_length-le}
use Rattle.std.proofs.lemmas.Bool.{cond-true, cond-false}
use Rattle.std.proofs.lemmas.Bool.Decides.{nat_tests}
use Rattle.cx_lex.specs.declared.character.Character.{Character}
use Rattle.cx_lex.specs.Shapes.Scanning.{FoundPunctuator, rest_after, rest_after_begin, longest, punctuator_or, words_of}

pub behind_nothing : (cs : List Character) → rest_after [] cs ≡ Some cs
unfolding rest_after
behind_nothing cs = refl

pub behind_end : (b : ℕ) (bs : List ℕ) → rest_after (b ∷ bs) [] ≡ None
unfolding rest_after
behind_end b bs = refl

same : (b c : ℕ) → c ≡ b → (c == b) ≡ true
same b c e = grind (arith, nat_tests)

other : (b c : ℕ) → (c ≡ b → ⊥) → (c == b) ≡ false
other b c e = grind (arith, nat_tests)

pub behind_same : (b : ℕ) (bs : List ℕ) (c : Character) (cs : List Character) → c.code ≡ b → rest_after (b ∷ bs) (c ∷ cs) ≡ rest_after bs cs
unfolding rest_after
behind_same b bs c cs e = cond-true _ _ _ (same b c.code e)

pub behind_other : (b : ℕ) (bs : List ℕ) (c : Character) (cs : List Character) → (c.code ≡ b → ⊥) → rest_after (b ∷ bs) (c ∷ cs) ≡ None
unfolding rest_after
behind_other b bs c cs e = cond-false _ _ _ (other b c.code e)

pub longest_none : (c : Character) (cs : List Character) → longest [] c cs ≡ None
unfolding longest
longest_none c cs = refl

pub longest_here : (w : List ℕ) (ws : List (List ℕ)) (c : Character) (cs rest : List Character) → rest_after_begin w c cs ≡ Some rest
    → longest (w ∷ ws) c cs ≡ Some (record { word = w; rest = rest })
unfolding longest
longest_here w ws c cs rest e = ap (λ o. punctuator_or o w (longest ws c cs)) e

pub longest_later : (w : List ℕ) (ws : List (List ℕ)) (c : Character) (cs : List Character) → rest_after_begin w c cs ≡ None → longest (w ∷ ws) c cs ≡ longest ws c cs
unfolding longest
longest_later w ws c cs e = ap (λ o. punctuator_or o w (longest ws c cs)) e

-- the words of a table from an index on

words_at : (words : List (Bor (List ℕ))) (i : ℕ) (d : Bor (List ℕ)) → i < length words
    → words_of (drop i words) ≡ (get_or words i d).now ∷ words_of (drop (i + 1) words)
words_at words i d h = ap words_of (drop-cons words i d h) ∙ ap (λ (n : ℕ). (get_or words i d).now ∷ words_of (drop n words)) (sym (add-one i))

-- what the index of a table gives past its end
abbrev pub nothing : Bor (List ℕ)
nothing = record { ref_ptr = (0, 0); now = [] }

pub here_at : (words : List (Bor (List ℕ))) (i : ℕ) (c : Character) (here cs rest : List Character) (all : Option FoundPunctuator)
    → i < length words → (longest (words_of (drop i words)) c cs ≡ all) × (here ≡ cs) → rest_after_begin (get_or words i nothing).now c here ≡ Some rest
    → all ≡ Some (record { word = (get_or words i nothing).now; rest = rest })
here_at words i c here cs rest all h e b =
    sym e.0 ∙ ap (λ (ws : List (List ℕ)). longest ws c cs) (words_at words i nothing h)
    ∙ longest_here (get_or words i nothing).now (words_of (drop (i + 1) words)) c cs rest
    (ap (rest_after_begin (get_or words i nothing).now c) (sym e.1) ∙ b)

pub later_at : (words : List (Bor (List ℕ))) (i : ℕ) (c : Character) (here cs : List Character) (all : Option FoundPunctuator)
    → i < length words → (longest (words_of (drop i words)) c cs ≡ all) × (here ≡ cs) → rest_after_begin (get_or words i nothing).now c here ≡ None
    → (longest (words_of (drop (i + 1) words)) c cs ≡ all) × (here ≡ cs)
later_at words i c here cs all h e b = (
  sym (longest_later (get_or words i nothing).now (words_of (drop (i + 1) words)) c cs (ap (rest_after_begin (get_or words i nothing).now c) (sym e.1) ∙ b))
      ∙ sym (ap (λ (ws : List (List ℕ)). longest ws c cs) (words_at words i nothing h)) ∙ e.0,
  e.1,
)

pub end_at : (words : List (Bor (List ℕ))) (i : ℕ) (c : Character) (here cs : List Character) (all : Option FoundPunctuator)
    → length words ≤ i → (longest (words_of (drop i words)) c cs ≡ all) × (here ≡ cs) → all ≡ None
end_at words i c here cs all h e = sym e.0 ∙ ap (λ (ws : List (Bor (List ℕ))). longest (words_of ws) c cs) (drop_of_length-le words h) ∙ longest_none c cs
