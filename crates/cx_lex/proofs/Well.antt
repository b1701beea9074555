-- A character that belongs to a newline is 10 or 13.
use Rattle.std.proofs.Common.{◌≡◌, ℕ, List, [], ◌∷◌, ◌++◌, Bool, true, false, not, cond, ◌&&◌, ◌||◌, ◌==◌, refl, sym, ap, ◌∙◌, arith, ⊎_elim}
use Rattle.std.specs.List.{list_all}
use Rattle.std.proofs.lemmas.Bool.{and_parts, and_from, cases_Bool}
use Rattle.std.proofs.lemmas.Bool.Decides.{nat_tests}
use Rattle.std.proofs.lemmas.List.Folds.{list_all-append}
use Rattle.cx_base.specs.declared.place.Place.{Place}
use Rattle.cx_lex.specs.declared.character.Character.{Character}
use Rattle.cx_lex.specs.Lines.{begins_with, begins_with_newline, characters, characters_after_newline, next_line, place_after}

unfoldable pub is_well : Character → Bool
is_well c = not c.in_newline || ((c.code == 10) || (c.code == 13))

pub well_behind : (front rest : List Character) → list_all is_well (front ++ rest) ≡ true → list_all is_well rest ≡ true
well_behind front rest h = let p = and_parts (list_all is_well front) (list_all is_well rest) (sym (list_all-append is_well front rest) ∙ h) in p.1

newline_code : (b : ℕ) (t : Bool) → ((b == 10) || ((b == 13) && t)) ≡ true → ((b == 10) || (b == 13)) ≡ true
newline_code b t h = grind (arith, nat_tests)

well_at : (b : ℕ) (bs : List ℕ) (at : Place) → is_well (record { code = b; in_newline = begins_with_newline (b ∷ bs); place = at }) ≡ true
unfolding is_well
well_at b bs at =
    ⊎_elim
    (λ (h : begins_with_newline (b ∷ bs) ≡ true). or_right (not (begins_with_newline (b ∷ bs))) _ (newline_code b (begins_with 10 bs) h))
    (λ (h : begins_with_newline (b ∷ bs) ≡ false). or_left _ ((b == 10) || (b == 13)) (ap not h))
    (cases_Bool (begins_with_newline (b ∷ bs)))
  where
    or_right : (a b : Bool) → b ≡ true → (a || b) ≡ true
    or_right true b h = refl
    or_right false b h = h

    or_left : (a b : Bool) → a ≡ true → (a || b) ≡ true
    or_left true b h = refl
    or_left false b h = absurd cc

all_well : (x y : List Character) (t : Bool) → list_all is_well x ≡ true → list_all is_well y ≡ true → list_all is_well (cond t x y) ≡ true
all_well x y true p q = p
all_well x y false p q = q

mutual
  unfolding characters

  pub well_characters : (text : List ℕ) (at : Place) → list_all is_well (characters at text) ≡ true
  well_characters [] at = refl
  well_characters (b ∷ bs) at =
      all_well _ _ ((b == 92) && begins_with_newline bs) (well_rest bs (next_line at))
      (and_from _ _ (well_at b bs at) (well_characters bs (place_after at b)))

  well_rest : (text : List ℕ) (at : Place) → list_all is_well (characters_after_newline at text) ≡ true
  well_rest [] at = refl
  well_rest (b ∷ bs) at = all_well _ _ (b == 10) (well_characters bs at) (well_rest bs at)
