-- The keys of findings: two are equal exactly where the findings are told once.
use Rattle.std.proofs.Common.{◌≡◌, ℕ, ◌+◌, ◌<◌, ◌==◌, Bool, true, false, not, ◌&&◌, ◌||◌, List, [], ◌∷◌, ◌++◌, length, take, map, get_or, refl, sym, ap, subst, ◌∙◌}
use Rattle.std.specs.List.{AllZip, list_any}
use Rattle.std.specs.Cmp.Lexicographic.{pointwise}
use Rattle.std.proofs.lemmas.List.{take_more}
use Rattle.indexmap.specs.IndexSet.{insert_key}
use Rattle.cx_base.specs.declared.finding.Finding.{Finding}
use Rattle.cx_base.specs.declared.finding.Word.{Word}
use Rattle.cx_base.specs.declared.finding.Word.TheVariants.{Text, Number}
use Rattle.cx_finding.specs.declared.key.FindingKey.{FindingKey}
use Rattle.cx_finding.specs.declared.key.WordKey.{WordKey}
use Rattle.cx_finding.specs.declared.key.WordKey.TheVariants as key
use Rattle.cx_finding.specs.contracts.key.FindingKeyPartialEq.TheImpl as derived
use Rattle.cx_finding.specs.contracts.key.WordKeyPartialEq.TheImpl as derived_word
use Rattle.cx_finding.specs.Distinct.{number_of, same, same_place, same_word, with_finding}
use Rattle.cx_finding.specs.Shapes.Keys.{IsKeyOf, IsWordKey, place_key}

module _ {A B : Type 0} (R : A → B → Type 0) where
  pub AllZip-push : (xs : List A) (ys : List B) (x : A) (y : B) → AllZip R xs ys → R x y → AllZip R (xs ++ x ∷ []) (ys ++ y ∷ [])
  AllZip-push [] [] x y h r = (r, tt)
  AllZip-push [] (b ∷ ys) x y h r = absurd h
  AllZip-push (a ∷ xs) [] x y h r = absurd h
  AllZip-push (a ∷ xs) (b ∷ ys) x y h r = (h.0, AllZip-push xs ys x y h.1 r)

  -- one member more at the end of both
  pub zip_next : (xs : List A) (ys new : List B) (i : ℕ) (x : A) (y : B) → i < length xs → x ≡ get_or xs i x → AllZip R (take i xs) ys
      → R x y → new ≡ ys ++ y ∷ [] → AllZip R (take (i + 1) xs) new
  zip_next xs ys new i x y h at zip r e =
      subst (AllZip R (take (i + 1) xs)) (sym e)
      (subst (λ front. AllZip R front (ys ++ y ∷ [])) (sym (take_more xs i x h ∙ ap (λ z. take i xs ++ z ∷ []) (sym at)))
      (AllZip-push (take i xs) ys x y zip r))

  -- lists whose members are related compare as their members do
  pointwise-AllZip : (E : B → B → Bool) (F : A → A → Bool) → ((x z : A) (y w : B) → R x y → R z w → E y w ≡ F x z)
      → (xs zs : List A) (ys ws : List B) → AllZip R xs ys → AllZip R zs ws → pointwise E ys ws ≡ pointwise F xs zs
  pointwise-AllZip E F each [] [] [] [] h k = refl
  pointwise-AllZip E F each [] (z ∷ zs) [] (w ∷ ws) h k = refl
  pointwise-AllZip E F each (x ∷ xs) [] (y ∷ ys) [] h k = refl
  pointwise-AllZip E F each (x ∷ xs) (z ∷ zs) (y ∷ ys) (w ∷ ws) h k =
      λ i. each x z y w h.0 k.0 i && pointwise-AllZip E F each xs zs ys ws h.1 k.1 i
  pointwise-AllZip E F each [] zs (y ∷ ys) ws h k = absurd h
  pointwise-AllZip E F each (x ∷ xs) zs [] ws h k = absurd h
  pointwise-AllZip E F each [] [] [] (w ∷ ws) h k = absurd k
  pointwise-AllZip E F each [] (z ∷ zs) [] [] h k = absurd k
  pointwise-AllZip E F each (x ∷ xs) [] (y ∷ ys) (w ∷ ws) h k = absurd k
  pointwise-AllZip E F each (x ∷ xs) (z ∷ zs) (y ∷ ys) [] h k = absurd k

pointwise-map : {A B : Type 0} (E : B → B → Bool) (F : A → A → Bool) (f : A → B) → ((x y : A) → E (f x) (f y) ≡ F x y)
    → (xs ys : List A) → pointwise E (map f xs) (map f ys) ≡ pointwise F xs ys
pointwise-map E F f each [] [] = refl
pointwise-map E F f each [] (y ∷ ys) = refl
pointwise-map E F f each (x ∷ xs) [] = refl
pointwise-map E F f each (x ∷ xs) (y ∷ ys) = λ i. each x y i && pointwise-map E F f each xs ys i

regroup : (a b c d : Bool) → (a && (b && (c && d))) ≡ (a && b && c && d)
regroup false b c d = refl
regroup true false c d = refl
regroup true true false d = refl
regroup true true true d = refl

abbrev same_place_key : ℕ × ℕ × ℕ → ℕ × ℕ × ℕ → Bool
same_place_key a b = (a.0 == b.0) && (a.1 == b.1) && (a.2 == b.2)

abbrev same_word_key : WordKey → WordKey → Bool
same_word_key = derived_word.eq-value.it

words_same : (w v : Word) (k l : WordKey) → IsWordKey w k → IsWordKey v l → same_word_key k l ≡ same_word w v
words_same (Text t) (Text s) (key.Text a) (key.Text b) h g = rw (h, g) refl
words_same (Text t) (Number n) (key.Text a) (key.Number b) h g = refl
words_same (Number m) (Text s) (key.Number a) (key.Text b) h g = refl
words_same (Number m) (Number n) (key.Number a) (key.Number b) h g = rw (h, g) refl
words_same (Text t) v (key.Number a) l h g = absurd h
words_same (Number m) v (key.Text a) l h g = absurd h
words_same w (Text s) k (key.Number b) h g = absurd g
words_same w (Number n) k (key.Text b) h g = absurd g

-- what a derived `==` of keys tells
abbrev pub same_key : FindingKey → FindingKey → Bool
same_key = derived.eq-value.it

pub keys_same : (f g : Finding) (k l : FindingKey) → IsKeyOf f k → IsKeyOf g l → same_key k l ≡ same f g
unfolding same
keys_same f g k l h j =
    (λ i. (h.kind i == j.kind i) && (same_place_key (h.place i) (j.place i)
    && (others i && pointwise-AllZip IsWordKey same_word_key same_word (λ w v a b. words_same w v a b) f.words g.words k.words.items l.words.items h.words j.words i)))
    ∙ regroup (number_of f.id == number_of g.id) (same_place f.place g.place) (pointwise same_place f.others g.others) (pointwise same_word f.words g.words)
  where
    others : pointwise same_place_key k.others.items l.others.items ≡ pointwise same_place f.others g.others
    others =
        (λ i. pointwise same_place_key (h.others i) (j.others i))
        ∙ pointwise-map same_place_key same_place place_key (λ a b. refl) f.others g.others

pub any_same : (found : List Finding) (keys : List FindingKey) (f : Finding) (k : FindingKey) → AllZip IsKeyOf found keys → IsKeyOf f k
    → list_any (same_key k) keys ≡ list_any (same f) found
any_same [] [] f k h j = refl
any_same [] (l ∷ keys) f k h j = absurd h
any_same (g ∷ found) [] f k h j = absurd h
any_same (g ∷ found) (l ∷ keys) f k h j = λ i. keys_same f g k l j h.0 i || any_same found keys f k h.1 j i

module _ (found : List Finding) (keys : List FindingKey) (f : Finding) (k : FindingKey) (zip : AllZip IsKeyOf found keys) (key : IsKeyOf f k) where
  -- a finding whose key is new goes to the end
  pub grown : (after : List Finding) → after ≡ found ++ f ∷ [] → true ≡ not (list_any (same_key k) keys) → after ≡ with_finding found f
  grown after e new = rw (sym (any_same found keys f k zip key) ∙ by (list_any (same_key k) keys) new) e
    where
      by : (b : Bool) → true ≡ not b → b ≡ false
      by true e = cc
      by false e = refl

  -- and one whose key is there changes nothing
  pub stayed : (after : List Finding) → after ≡ found → false ≡ not (list_any (same_key k) keys) → after ≡ with_finding found f
  stayed after e old = rw (sym (any_same found keys f k zip key) ∙ by (list_any (same_key k) keys) old) e
    where
      by : (b : Bool) → false ≡ not b → b ≡ true
      by true e = refl
      by false e = cc

  -- the findings and their keys stay side by side
  pub keys_with : (after : List Finding) (ks : List FindingKey) → after ≡ with_finding found f → ks ≡ insert_key same_key keys k
      → AllZip IsKeyOf after ks
  keys_with after ks e d = rw (e, d) (by (list_any (same_key k) keys) refl)
    where
      by : (b : Bool) → list_any (same_key k) keys ≡ b → AllZip IsKeyOf (with_finding found f) (insert_key same_key keys k)
      by true t = rw (sym (any_same found keys f k zip key) ∙ t, t) zip
      by false t = rw (sym (any_same found keys f k zip key) ∙ t, t) (AllZip-push IsKeyOf found keys f k zip key)
