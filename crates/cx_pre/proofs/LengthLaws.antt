-- Lines that are passed over leave no more lines.
use Rattle.std.proofs.Common.{◌≡◌, ℕ, ◌+◌, ◌-◌, ◌≤◌, ◌==◌, ◌&&◌, Bool, true, false, cond, List, [], ◌∷◌, refl, subst, arith, length}
use Rattle.cx_lex.specs.declared.piece.Piece.{Piece}
use Rattle.cx_lines.specs.Kinds.{after_text, closes, ends_group, is_text, kind_of, opens}
use Rattle.cx_lines.specs.Nesting.{after_section, from_part}

both_first : (a b : Bool) → (a && b) ≡ true → a ≡ true
both_first true b e = refl
both_first false b e = absurd cc

pub from_part_length : (nested : ℕ) (lines : List (List Piece)) → length (from_part nested lines) ≤ length lines
unfolding from_part
from_part_length nested [] = omega arith
from_part_length nested (line ∷ lines) = at (λ n. from_part_length n lines) (opens (kind_of line)) (ends_group (kind_of line) && (nested == 0)) (closes (kind_of line))
  where
    at : ((n : ℕ) → length (from_part n lines) ≤ length lines) → (a b c : Bool)
        → length (cond a (from_part (nested + 1) lines) (cond b (line ∷ lines) (cond c (from_part (nested - 1) lines) (from_part nested lines)))) ≤ length (line ∷ lines)
    at h true b c = omega (arith, h (nested + 1))
    at h false true c = omega arith
    at h false false true = omega (arith, h (nested - 1))
    at h false false false = omega (arith, h nested)

-- a group that is passed over ends with the line that ends it
pub from_part_ends : (nested : ℕ) (lines : List (List Piece)) (part : List Piece) (more : List (List Piece)) → from_part nested lines ≡ part ∷ more → ends_group (kind_of part) ≡ true
unfolding from_part
from_part_ends nested [] part more e = absurd cc
from_part_ends nested (line ∷ lines) part more e =
    at (λ n f. from_part_ends n lines part more f) (opens (kind_of line)) (ends_group (kind_of line) && (nested == 0)) (closes (kind_of line))
    (both_first (ends_group (kind_of line)) (nested == 0)) e
  where
    at : ((n : ℕ) → from_part n lines ≡ part ∷ more → ends_group (kind_of part) ≡ true) → (a b c : Bool) → (b ≡ true → ends_group (kind_of line) ≡ true)
        → cond a (from_part (nested + 1) lines) (cond b (line ∷ lines) (cond c (from_part (nested - 1) lines) (from_part nested lines))) ≡ part ∷ more
        → ends_group (kind_of part) ≡ true
    at h true b c k f = h (nested + 1) f
    at h false true c k f = let same : line ≡ part = cc in subst (λ x. ends_group (kind_of x) ≡ true) same (k refl)
    at h false false true k f = h (nested - 1) f
    at h false false false k f = h nested f

pub after_section_length : (nested : ℕ) (lines : List (List Piece)) → length (after_section nested lines) ≤ length lines
unfolding after_section
after_section_length nested [] = omega arith
after_section_length nested (line ∷ lines) = at (λ n. after_section_length n lines) (opens (kind_of line)) (closes (kind_of line) && (nested == 0)) (closes (kind_of line))
  where
    at : ((n : ℕ) → length (after_section n lines) ≤ length lines) → (a b c : Bool)
        → length (cond a (after_section (nested + 1) lines) (cond b lines (cond c (after_section (nested - 1) lines) (after_section nested lines)))) ≤ length (line ∷ lines)
    at h true b c = omega (arith, h (nested + 1))
    at h false true c = omega arith
    at h false false true = omega (arith, h (nested - 1))
    at h false false false = omega (arith, h nested)

pub after_section_less : (nested : ℕ) (line : List Piece) (lines : List (List Piece)) → length (after_section nested (line ∷ lines)) ≤ length lines
unfolding after_section
after_section_less nested line lines = at (opens (kind_of line)) (closes (kind_of line) && (nested == 0)) (closes (kind_of line))
  where
    at : (a b c : Bool) → length (cond a (after_section (nested + 1) lines) (cond b lines (cond c (after_section (nested - 1) lines) (after_section nested lines)))) ≤ length lines
    at true b c = after_section_length (nested + 1) lines
    at false true c = omega arith
    at false false true = after_section_length (nested - 1) lines
    at false false false = after_section_length nested lines

pub after_text_length : (lines : List (List Piece)) → length (after_text lines) ≤ length lines
unfolding after_text
after_text_length [] = omega arith
after_text_length (line ∷ lines) = at (after_text_length lines) (is_text (kind_of line))
  where
    at : length (after_text lines) ≤ length lines → (a : Bool) → length (cond a (after_text lines) (line ∷ lines)) ≤ length (line ∷ lines)
    at h true = omega (arith, h)
    at h false = omega arith

pub after_text_less : (line : List Piece) (lines : List (List Piece)) → is_text (kind_of line) ≡ true → length (after_text (line ∷ lines)) ≤ length lines
unfolding after_text
after_text_less line lines e = at (is_text (kind_of line)) e
  where
    at : (a : Bool) → a ≡ true → length (cond a (after_text lines) (line ∷ lines)) ≤ length lines
    at true e = after_text_length lines
    at false e = absurd cc
