-- How the characters of a text come one by one.
use Rattle.std.proofs.Common.{◌≡◌, ℕ, List, [], ◌∷◌, Bool, true, false, cond, ◌&&◌, ◌==◌, refl, ◌∙◌, arith}
use Rattle.std.proofs.lemmas.Bool.{cond-true, cond-false}
use Rattle.std.proofs.lemmas.Bool.Decides.{nat_tests}
use Rattle.cx_base.specs.declared.place.Place.{Place}
use Rattle.cx_lex.specs.declared.character.Character.{Character}
use Rattle.cx_lex.specs.Lines.{begins_with_newline, characters, characters_after_newline, next_line, place_after}
use Rattle.cx_lex.specs.Shapes.Scanning.{is_barren}
use Rattle.cx_lex.specs.Shapes.Walking.{AfterNewline}

pub characters_end : (at : Place) → characters at [] ≡ []
unfolding characters
characters_end at = refl

-- what the characters are where a byte stands in front
kept : Place → ℕ → List ℕ → List Character
kept at b bs = (record { code = b; in_newline = begins_with_newline (b ∷ bs); place = at }) ∷ characters (place_after at b) bs

characters_is : (at : Place) (b : ℕ) (bs : List ℕ)
    → characters at (b ∷ bs) ≡ cond ((b == 92) && begins_with_newline bs) (characters_after_newline (next_line at) bs) (kept at b bs)
unfolding characters kept
characters_is at b bs = refl

deletes : (b : ℕ) (t : Bool) → b ≡ 92 → t ≡ true → ((b == 92) && t) ≡ true
deletes b t e h = grind (arith, nat_tests)

pub characters_deleted : (at : Place) (b : ℕ) (bs : List ℕ) → b ≡ 92 → begins_with_newline bs ≡ true
    → characters at (b ∷ bs) ≡ characters_after_newline (next_line at) bs
characters_deleted at b bs e h = characters_is at b bs ∙ cond-true _ _ _ (deletes b (begins_with_newline bs) e h)

keeps : (b : ℕ) (t : Bool) → (b ≡ 92 → t ≡ false) → ((b == 92) && t) ≡ false
keeps b t h = grind (arith, nat_tests)

pub characters_kept : (at : Place) (b : ℕ) (bs : List ℕ) → (b ≡ 92 → begins_with_newline bs ≡ false)
    → characters at (b ∷ bs) ≡ (record { code = b; in_newline = begins_with_newline (b ∷ bs); place = at }) ∷ characters (place_after at b) bs
unfolding kept
characters_kept at b bs h = characters_is at b bs ∙ cond-false _ _ _ (keeps b (begins_with_newline bs) h)

pub newline_one : (bs : List ℕ) → AfterNewline (10 ∷ bs) bs
unfolding characters_after_newline
newline_one bs = record { newline = refl; characters_left = λ at. refl; shorter = omega arith }

pub newline_two : (bs : List ℕ) → AfterNewline (13 ∷ 10 ∷ bs) bs
unfolding characters_after_newline
newline_two bs = record { newline = refl; characters_left = λ at. refl; shorter = omega arith }

pub barren_behind : (c : Character) (cs : List Character) → is_barren (c ∷ cs) ≡ true → c.in_newline ≡ false → is_barren cs ≡ true
unfolding is_barren
barren_behind c cs b h = grind arith
