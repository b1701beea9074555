-- What holds of lines holds of those that stay where some are passed over.
use Rattle.std.proofs.Common.{ℕ, ◌+◌, ◌-◌, ◌==◌, ◌&&◌, List, [], ◌∷◌, Bool, true, false, cond, Some}
use Rattle.std.specs.List.{AllByRecursion}
use Rattle.cx_lines.specs.Kinds.{after_text, closes, ends_group, is_text, kind_of, opens}
use Rattle.cx_lines.specs.Nesting.{Line, after_section, extent_after, from_part, is_stray, place_of, with_line}
use Rattle.cx_lines.specs.declared.nesting.NestingFault.TheVariants.{Stray}

module _ (P : Line → Type 0) where
  pub held_after_text : (lines : List Line) → AllByRecursion P lines
      → AllByRecursion P (after_text lines)
  unfolding after_text
  held_after_text [] h = h
  held_after_text (line ∷ lines) h = by (is_text (kind_of line)) (held_after_text lines h.1)
    where
      by : (b : Bool) → AllByRecursion P (after_text lines)
          → AllByRecursion P (cond b (after_text lines) (line ∷ lines))
      by true rest = rest
      by false rest = h

  pub held_from_part : (nested : ℕ) (lines : List Line) → AllByRecursion P lines
      → AllByRecursion P (from_part nested lines)
  unfolding from_part
  held_from_part nested [] h = h
  held_from_part nested (line ∷ lines) h =
      by (opens (kind_of line)) (ends_group (kind_of line) && (nested == 0))
      (closes (kind_of line)) (held_from_part (nested + 1) lines h.1)
      (held_from_part (nested - 1) lines h.1) (held_from_part nested lines h.1)
    where
      by : (b c d : Bool) → AllByRecursion P (from_part (nested + 1) lines)
          → AllByRecursion P (from_part (nested - 1) lines)
          → AllByRecursion P (from_part nested lines)
          → AllByRecursion P (cond b (from_part (nested + 1) lines)
          (cond c (line ∷ lines)
          (cond d (from_part (nested - 1) lines) (from_part nested lines))))
      by true c d more less same = more
      by false true d more less same = h
      by false false true more less same = less
      by false false false more less same = same

  pub held_after_section : (nested : ℕ) (lines : List Line) → AllByRecursion P lines
      → AllByRecursion P (after_section nested lines)
  unfolding after_section
  held_after_section nested [] h = h
  held_after_section nested (line ∷ lines) h =
      by (opens (kind_of line)) (closes (kind_of line) && (nested == 0)) (closes (kind_of line))
      (held_after_section (nested + 1) lines h.1) (held_after_section (nested - 1) lines h.1)
      (held_after_section nested lines h.1)
    where
      by : (b c d : Bool) → AllByRecursion P (after_section (nested + 1) lines)
          → AllByRecursion P (after_section (nested - 1) lines)
          → AllByRecursion P (after_section nested lines)
          → AllByRecursion P (cond b (after_section (nested + 1) lines)
          (cond c lines
          (cond d (after_section (nested - 1) lines) (after_section nested lines))))
      by true c d more less same = more
      by false true d more less same = h.1
      by false false true more less same = less
      by false false false more less same = same

  pub held_in_front : (before lines : List Line) → AllByRecursion P lines
      → AllByRecursion P (extent_after before lines).front
  unfolding extent_after
  held_in_front before [] h = h
  held_in_front before (line ∷ lines) h =
      by (is_stray before line) (held_in_front (line ∷ before) lines h.1)
    where
      by : (b : Bool) → AllByRecursion P (extent_after (line ∷ before) lines).front
          → AllByRecursion P
          (cond b (record { front = []; fault = Some (Stray (place_of line)) })
          (with_line line (extent_after (line ∷ before) lines))).front
      by true rest = tt
      by false rest = (h.0, rest)
