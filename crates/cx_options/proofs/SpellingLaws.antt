-- Laws of spellings.
use Rattle.std.proofs.Common.{◌≡◌, ℕ, ◌+◌, List, [], ◌∷◌, Bool, true, false, Bor, Option, None, Some, length, drop, drop-cons, get_or, suc, ◌<◌, ◌≤◌, refl, sym, ap, subst, ◌∙◌}
use Rattle.std.proofs.Math.ListN.{drop_of_length-le}
use Rattle.std.specs.Prelude.{MatchOption, cond, map, nat_eq}
use Rattle.std.specs.List.{find, starts_with}
use Rattle.std.specs.Option.{option_map}
use Rattle.std.specs.Str.{IsCharBoundary}
use Rattle.std.specs.Str.Pattern.{FindsTextPrefix, StripsPrefix}
use Rattle.std.proofs.lemmas.Str.Pattern.{starts_text}
use Rattle.cx_options.specs.declared.spelling.Form.{Form}
use Rattle.cx_options.specs.declared.spelling.Purpose.{Purpose}
use Rattle.cx_options.specs.Spellings.{by_row, givens, is_spelt, takes_next}
use Rattle.cx_options.specs.Shapes.Rows.{row_of}

-- what `strip_prefix` answers at a text, by the words of lists
pub strip_prefix_text : (p s : List ℕ) (r : Option (Bor (List ℕ)))
    → MatchOption r (FindsTextPrefix p s None) (λ x. StripsPrefix (FindsTextPrefix p) s x.now)
    → MatchOption r (starts_with nat_eq s p ≡ false) (λ x. (starts_with nat_eq s p ≡ true) × (x.now ≡ drop (length p) s))
strip_prefix_text p s None h = sym (starts_text false p s h)
strip_prefix_text p s (Some x) h =
    (sym (starts_text true p s (h.0, h.1, subst (λ n. IsCharBoundary s n) (sym h.1.0) h.1.2)), h.2 ∙ ap (λ n. drop n s) h.1.0)

-- a word that takes the next one along, one that does not, and the last word
pub givens_two : (n : ℕ) (w next : List ℕ) (ws : List (List ℕ)) → takes_next w ≡ true
    → givens n (w ∷ next ∷ ws) ≡ record { word = n; text = w; next = Some next } ∷ givens (n + 2) ws
unfolding givens
givens_two n w next ws e = rw e

pub givens_one : (n : ℕ) (w : List ℕ) (ws : List (List ℕ)) → takes_next w ≡ false
    → givens n (w ∷ ws) ≡ record { word = n; text = w; next = None } ∷ givens (n + 1) ws
unfolding givens
givens_one n w [] e = refl
givens_one n w (next ∷ ws) e = rw e

pub givens_last : (n : ℕ) (w : List ℕ) → givens n (w ∷ []) ≡ record { word = n; text = w; next = None } ∷ givens (n + 1) []
unfolding givens
givens_last n w = refl

pub givens_end : (n : ℕ) → givens n [] ≡ []
unfolding givens
givens_end n = refl

pub ruleset givens_laws = (givens_two, givens_one, givens_last, givens_end)

-- what is found among rows of the code
pub found_as : (word : List ℕ) (rows : List (Bor (List ℕ) × Form × Purpose))
    → option_map (by_row word) (find (is_spelt word) (map row_of rows))
    ≡ option_map (λ row. by_row word (row_of row)) (find (λ row. is_spelt word (row_of row)) rows)
found_as word [] = refl
found_as word (row ∷ rows) =
    elim (is_spelt word (row_of row)) as (λ b.
    option_map (by_row word) (cond b (Some (row_of row)) (find (is_spelt word) (map row_of rows)))
    ≡ option_map (λ row. by_row word (row_of row)) (cond b (Some row) (find (λ row. is_spelt word (row_of row)) rows))) [
      | true ↦ refl
      | false ↦ found_as word rows
    ]

-- the first element that passes a test, where none before an index does: there, and nowhere
pub found_here : {A : Type 0} (f : A → Bool) (xs : List A) (i : ℕ) (d : A) → i < length xs → find f (drop i xs) ≡ find f xs
    → f (get_or xs i d) ≡ true → find f xs ≡ Some (get_or xs i d)
found_here {A} f xs i d h e test =
    sym e ∙ ap (find f) (drop-cons xs i d h) ∙ ap (λ (b : Bool). cond b (Some (get_or xs i d)) (find f (drop (suc i) xs))) test

pub found_nowhere : {A : Type 0} (f : A → Bool) (xs : List A) (i : ℕ) → length xs ≤ i → find f (drop i xs) ≡ find f xs → find f xs ≡ None
found_nowhere f xs i h e = sym e ∙ ap (find f) (drop_of_length-le xs h)
