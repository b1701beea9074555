-- The texts of pieces and comments.
use Rattle.std.proofs.Common.{◌≡◌, ℕ, ◌-◌, List, [], ◌∷◌, ◌++◌, Some, None, Option, true, false, ◌==◌, refl, sym, ap, ap₂, ◌∙◌, length, take, ⊎_elim, subst}
use Rattle.std.proofs.lemmas.Bool.{cond-true, cond-false, cases_Bool, eqb-true}
use Rattle.std.proofs.lemmas.List.{take-map, length-map}
use Rattle.cx_tokens.specs.declared.token.Kind.TheVariants.{Punct, Other}
use Rattle.cx_lex.specs.declared.character.Character.{Character}
use Rattle.cx_lex.specs.declared.front.Front.TheVariants.{OfPiece}
use Rattle.cx_lex.specs.Shapes.Fronts.{all_but_two, front_of, punctuator_or_byte}
use Rattle.cx_lex.specs.Lexing.{place_of}
use Rattle.cx_lex.specs.Lines.{bytes_of}
use Rattle.cx_lex.specs.Shapes.Scanning.{FoundPunctuator, rest_after, rest_after_begin, longest, punctuator_or, found_word, table}

pub but_two_bytes : (cs : List Character) → bytes_of (all_but_two cs) ≡ take (length (bytes_of cs) - 2) (bytes_of cs)
but_two_bytes cs =
    sym (take-map (λ (c : Character). c.code) (length cs - 2) cs) ∙ ap (λ n. take (n - 2) (bytes_of cs)) (sym (length-map cs (λ (c : Character). c.code)))

-- a word that stands in front

pub behind_parts : (w : List ℕ) (cs rest : List Character) → rest_after w cs ≡ Some rest
    → (bytes_of (take (length w) cs) ≡ w) × (take (length w) cs ++ rest ≡ cs)
unfolding rest_after
behind_parts [] cs rest e = (refl, cc)
behind_parts (b ∷ bs) [] rest e = absurd cc
behind_parts (b ∷ bs) (c ∷ cs) rest e =
    ⊎_elim
    (λ (t : (c.code == b) ≡ true).
    let p = behind_parts bs cs rest (sym (cond-true (c.code == b) (rest_after bs cs) None t) ∙ e) in (heads c.code b _ _ (eqb-true c.code b t) p.0, ap (λ l. c ∷ l) p.1))
    (λ (t : (c.code == b) ≡ false). absurd (let f = cond-false (c.code == b) (rest_after bs cs) None t in cc))
    (cases_Bool (c.code == b))
  where
    heads : (x y : ℕ) (xs ys : List ℕ) → x ≡ y → xs ≡ ys → x ∷ xs ≡ y ∷ ys
    heads x y xs ys e f = cc

-- a punctuator that stands in front
pub record Stands (mark : FoundPunctuator) (c : Character) (cs : List Character) : Type 0 where
  pub bytes : bytes_of (take (length mark.word) (c ∷ cs)) ≡ mark.word
  pub whole : take (length mark.word) (c ∷ cs) ++ mark.rest ≡ c ∷ cs
  pub begins : (more : List Character) × (take (length mark.word) (c ∷ cs) ≡ c ∷ more)

word_behind : (b : ℕ) (bs : List ℕ) (c : Character) (cs : List Character) → rest_after_begin (b ∷ bs) c cs ≡ rest_after (b ∷ bs) (c ∷ cs)
unfolding rest_after rest_after_begin
word_behind b bs c cs = refl

no_word : (c : Character) (cs : List Character) → rest_after_begin [] c cs ≡ None
unfolding rest_after_begin
no_word c cs = refl

word_stands : (w : List ℕ) (c : Character) (cs rest : List Character) → rest_after_begin w c cs ≡ Some rest → Stands (record { word = w; rest = rest }) c cs
word_stands [] c cs rest e = absurd (let f = no_word c cs in cc)
word_stands (b ∷ bs) c cs rest e =
    let p = behind_parts (b ∷ bs) (c ∷ cs) rest (sym (word_behind b bs c cs) ∙ e) in
    record { bytes = p.0; whole = p.1; begins = (take (length bs) cs, refl) }

longest_is : (w : List ℕ) (ws : List (List ℕ)) (c : Character) (cs : List Character) → longest (w ∷ ws) c cs ≡ punctuator_or (rest_after_begin w c cs) w (longest ws c cs)
unfolding longest
longest_is w ws c cs = refl

longest_nil : (c : Character) (cs : List Character) → longest [] c cs ≡ None
unfolding longest
longest_nil c cs = refl

stands_at : (a b : FoundPunctuator) (c : Character) (cs : List Character) → Some a ≡ Some b → Stands a c cs → Stands b c cs
stands_at a b c cs e h = let f : a ≡ b = cc in subst (λ m. Stands m c cs) f h

stands_by : (w : List ℕ) (ws : List (List ℕ)) (c : Character) (cs : List Character) (mark : FoundPunctuator) (o : Option (List Character)) → rest_after_begin w c cs ≡ o
    → longest (w ∷ ws) c cs ≡ Some mark → (longest ws c cs ≡ Some mark → Stands mark c cs) → Stands mark c cs
stands_by w ws c cs mark None h e more = more (sym (ap (λ o. punctuator_or o w (longest ws c cs)) h) ∙ sym (longest_is w ws c cs) ∙ e)
stands_by w ws c cs mark (Some rest) h e more =
    let f : Some (record { word = w; rest = rest }) ≡ Some mark = sym (ap (λ o. punctuator_or o w (longest ws c cs)) h) ∙ sym (longest_is w ws c cs) ∙ e in
    stands_at (record { word = w; rest = rest }) mark c cs f (word_stands w c cs rest h)

pub longest_stands : (ws : List (List ℕ)) (c : Character) (cs : List Character) (mark : FoundPunctuator) → longest ws c cs ≡ Some mark → Stands mark c cs
longest_stands [] c cs mark e = absurd (let f = longest_nil c cs in cc)
longest_stands (w ∷ ws) c cs mark e = stands_by w ws c cs mark (rest_after_begin w c cs) refl e (λ f. longest_stands ws c cs mark f)

pub other_front : (c : Character) (cs : List Character) (o : Option FoundPunctuator) (text : List ℕ) → found_word o ≡ None → text ≡ c.code ∷ []
    → OfPiece c.place Other text ≡ front_of (punctuator_or_byte c cs o)
unfolding front_of
other_front c cs None text e h = ap (λ t. OfPiece c.place Other t) h
other_front c cs (Some mark) text e h = absurd cc

punct_at : (c : Character) (cs : List Character) (mark : FoundPunctuator) (text : List ℕ) → Stands mark c cs → mark.word ≡ text
    → OfPiece c.place Punct text ≡ front_of (punctuator_or_byte c cs (Some mark))
unfolding front_of
punct_at c cs mark text s e =
    ap₂ (λ at t. OfPiece at Punct t) (sym (ap place_of s.begins.1)) (sym e ∙ sym s.bytes)

pub punct_front : (c : Character) (cs : List Character) (text : List ℕ) → found_word (longest table c cs) ≡ Some text
    → OfPiece c.place Punct text ≡ front_of (punctuator_or_byte c cs (longest table c cs))
punct_front c cs text e = by (longest table c cs) refl e
  where
    by : (o : Option FoundPunctuator) → longest table c cs ≡ o → found_word o ≡ Some text → OfPiece c.place Punct text ≡ front_of (punctuator_or_byte c cs (longest table c cs))
    by None h e = absurd cc
    by (Some mark) h e =
        let t : mark.word ≡ text = cc in
        punct_at c cs mark text (longest_stands table c cs mark h) t ∙ sym (ap (λ o. front_of (punctuator_or_byte c cs o)) h)
