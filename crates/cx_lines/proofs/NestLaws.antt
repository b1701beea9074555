-- Nested lines are passed over as if they did not stand there.
use Rattle.std.proofs.Common.{◌≡◌, ℕ, ◌+◌, ◌-◌, List, [], ◌∷◌, ◌++◌, Bool, true, false, refl, sym, ap, ◌∙◌, subst, arith, append_assoc}
use Rattle.std.specs.Prelude.{◌==◌, ◌&&◌, ◌||◌, if◌then◌else◌}
use Rattle.std.proofs.lemmas.Bool.Decides.{nat_tests}
use Rattle.cx_lines.specs.declared.kind.LineKind.{LineKind}
use Rattle.cx_lines.specs.declared.kind.LineKind.TheVariants.{If, Ifdef, Ifndef, Elif, Else, Endif}
use Rattle.cx_lines.specs.Kinds.{closes, ends_group, kind_of, opens, parts}
use Rattle.cx_lines.specs.Nesting.{AreNested, IsInner, Line, after_section, from_part}
use Rattle.cx_lines.specs.Nesting.AreNested.{no_lines, plain, section}
use Rattle.cx_lines.specs.Nesting.IsInner.{last_group, group_more}
use Rattle.cx_lines.specs.Shapes.Counting.{nested_after}
use Rattle.cx_lines.proofs.CountLaws.{after_section_end, after_section_step, from_part_end, from_part_step}

more_than_none : (n : ℕ) → (n + 1 == 0) ≡ false
more_than_none n = grind (arith, nat_tests)

never : (b : Bool) (n : ℕ) → (b && (n + 1 == 0)) ≡ false
never true n = more_than_none n
never false n = refl

neither : (b c : Bool) → b ≡ false → (b && c) ≡ false
neither b c e = subst (λ x. (x && c) ≡ false) (sym e) refl

both : (b : Bool) → b ≡ true → (b && (0 == 0)) ≡ true
both b e = subst (λ x. (x && true) ≡ true) (sym e) refl

one_less : (n : ℕ) → n + 1 - 1 ≡ n
one_less n = omega arith

-- the kinds exclude each other
pub opener_ends_no_group : (k : LineKind) → opens k ≡ true → ends_group k ≡ false
opener_ends_no_group If e = refl
opener_ends_no_group Ifdef e = refl
opener_ends_no_group Ifndef e = refl
opener_ends_no_group _ e = absurd cc

pub opener_closes_not : (k : LineKind) → opens k ≡ true → closes k ≡ false
opener_closes_not If e = refl
opener_closes_not Ifdef e = refl
opener_closes_not Ifndef e = refl
opener_closes_not _ e = absurd cc

pub part_opens_not : (k : LineKind) → parts k ≡ true → opens k ≡ false
part_opens_not Elif e = refl
part_opens_not Else e = refl
part_opens_not _ e = absurd cc

pub part_closes_not : (k : LineKind) → parts k ≡ true → closes k ≡ false
part_closes_not Elif e = refl
part_closes_not Else e = refl
part_closes_not _ e = absurd cc

pub end_opens_not : (k : LineKind) → closes k ≡ true → opens k ≡ false
end_opens_not Endif e = refl
end_opens_not _ e = absurd cc

pub no_end_closes_not : (k : LineKind) → ends_group k ≡ false → closes k ≡ false
no_end_closes_not k e = closes_not (parts k) (closes k) e
  where
    closes_not : (b c : Bool) → (b || c) ≡ false → c ≡ false
    closes_not true c e = absurd cc
    closes_not false c e = e

pub no_end_parts_not : (k : LineKind) → ends_group k ≡ false → parts k ≡ false
no_end_parts_not k e = parts_not (parts k) (closes k) e
  where
    parts_not : (b c : Bool) → (b || c) ≡ false → b ≡ false
    parts_not true c e = absurd cc
    parts_not false c e = refl

-- how many are open after a line
after_opener : (n : ℕ) (k : LineKind) → opens k ≡ true → nested_after n k ≡ n + 1
unfolding nested_after
after_opener n k e = subst (λ b. (if b then n + 1 else if closes k then n - 1 else n) ≡ n + 1) (sym e) refl

after_end : (n : ℕ) (k : LineKind) → opens k ≡ false → closes k ≡ true → nested_after n k ≡ n - 1
unfolding nested_after
after_end n k o e =
    subst (λ b. (if b then n + 1 else if closes k then n - 1 else n) ≡ n - 1) (sym o)
    (subst (λ b. (if b then n - 1 else n) ≡ n - 1) (sym e) refl)

after_other : (n : ℕ) (k : LineKind) → opens k ≡ false → closes k ≡ false → nested_after n k ≡ n
unfolding nested_after
after_other n k o e =
    subst (λ b. (if b then n + 1 else if closes k then n - 1 else n) ≡ n) (sym o)
    (subst (λ b. (if b then n - 1 else n) ≡ n) (sym e) refl)

-- a line more, at each of the two
part_opens : (n : ℕ) (line : Line) (lines : List Line) → opens (kind_of line) ≡ true → from_part n (line ∷ lines) ≡ from_part (n + 1) lines
part_opens n line lines e =
    from_part_step n line lines (neither (ends_group (kind_of line)) (n == 0) (opener_ends_no_group (kind_of line) e))
    ∙ ap (λ m. from_part m lines) (after_opener n (kind_of line) e)

part_passes : (n : ℕ) (line : Line) (lines : List Line) → opens (kind_of line) ≡ false → ends_group (kind_of line) ≡ false
    → from_part n (line ∷ lines) ≡ from_part n lines
part_passes n line lines o e =
    from_part_step n line lines (neither (ends_group (kind_of line)) (n == 0) e)
    ∙ ap (λ m. from_part m lines) (after_other n (kind_of line) o (no_end_closes_not (kind_of line) e))

part_parts : (n : ℕ) (line : Line) (lines : List Line) → parts (kind_of line) ≡ true → from_part (n + 1) (line ∷ lines) ≡ from_part (n + 1) lines
part_parts n line lines e =
    from_part_step (n + 1) line lines (never (ends_group (kind_of line)) n)
    ∙ ap (λ m. from_part m lines) (after_other (n + 1) (kind_of line) (part_opens_not (kind_of line) e) (part_closes_not (kind_of line) e))

part_closes : (n : ℕ) (line : Line) (lines : List Line) → closes (kind_of line) ≡ true → from_part (n + 1) (line ∷ lines) ≡ from_part n lines
part_closes n line lines e =
    from_part_step (n + 1) line lines (never (ends_group (kind_of line)) n)
    ∙ ap (λ m. from_part m lines) (after_end (n + 1) (kind_of line) (end_opens_not (kind_of line) e) e ∙ one_less n)

section_opens : (n : ℕ) (line : Line) (lines : List Line) → opens (kind_of line) ≡ true → after_section n (line ∷ lines) ≡ after_section (n + 1) lines
section_opens n line lines e =
    after_section_step n line lines (neither (closes (kind_of line)) (n == 0) (opener_closes_not (kind_of line) e))
    ∙ ap (λ m. after_section m lines) (after_opener n (kind_of line) e)

section_passes : (n : ℕ) (line : Line) (lines : List Line) → opens (kind_of line) ≡ false → closes (kind_of line) ≡ false
    → after_section n (line ∷ lines) ≡ after_section n lines
section_passes n line lines o e =
    after_section_step n line lines (neither (closes (kind_of line)) (n == 0) e)
    ∙ ap (λ m. after_section m lines) (after_other n (kind_of line) o e)

section_closes : (n : ℕ) (line : Line) (lines : List Line) → closes (kind_of line) ≡ true → after_section (n + 1) (line ∷ lines) ≡ after_section n lines
section_closes n line lines e =
    after_section_step (n + 1) line lines (never (closes (kind_of line)) n)
    ∙ ap (λ m. after_section m lines) (after_end (n + 1) (kind_of line) (end_opens_not (kind_of line) e) e ∙ one_less n)

-- lists that are put together otherwise
moved : (lines inner rest more : List Line) → lines ≡ inner ++ rest → lines ++ more ≡ inner ++ (rest ++ more)
moved lines inner rest more e = ap (λ l. l ++ more) e ∙ append_assoc inner rest more

mutual
  pub part_nested : {lines : List Line} → AreNested lines → (n : ℕ) (more : List Line) → from_part n (lines ++ more) ≡ from_part n more
  part_nested no_lines n more = refl
  part_nested (plain {line = line} {rest = rest} o e r) n more = part_passes n line (rest ++ more) o e ∙ part_nested r n more
  part_nested (section {line = line} {lines = lines} inner rest o i r e) n more =
      part_opens n line (lines ++ more) o ∙ ap (from_part (n + 1)) (moved lines inner rest more e)
      ∙ part_inner i n (rest ++ more) ∙ part_nested r n more

  pub part_inner : {lines : List Line} → IsInner lines → (n : ℕ) (more : List Line) → from_part (n + 1) (lines ++ more) ≡ from_part n more
  part_inner (last_group {lines = lines} group end g c e) n more =
      ap (from_part (n + 1)) (moved lines group (end ∷ []) more e) ∙ part_nested g (n + 1) (end ∷ more) ∙ part_closes n end more c
  part_inner (group_more {lines = lines} group rest part g p i e) n more =
      ap (from_part (n + 1)) (moved lines group (part ∷ rest) more e) ∙ part_nested g (n + 1) (part ∷ (rest ++ more))
      ∙ part_parts n part (rest ++ more) p ∙ part_inner i n more

mutual
  pub section_nested : {lines : List Line} → AreNested lines → (n : ℕ) (more : List Line) → after_section n (lines ++ more) ≡ after_section n more
  section_nested no_lines n more = refl
  section_nested (plain {line = line} {rest = rest} o e r) n more =
      section_passes n line (rest ++ more) o (no_end_closes_not (kind_of line) e) ∙ section_nested r n more
  section_nested (section {line = line} {lines = lines} inner rest o i r e) n more =
      section_opens n line (lines ++ more) o ∙ ap (after_section (n + 1)) (moved lines inner rest more e)
      ∙ section_inner i n (rest ++ more) ∙ section_nested r n more

  pub section_inner : {lines : List Line} → IsInner lines → (n : ℕ) (more : List Line) → after_section (n + 1) (lines ++ more) ≡ after_section n more
  section_inner (last_group {lines = lines} group end g c e) n more =
      ap (after_section (n + 1)) (moved lines group (end ∷ []) more e) ∙ section_nested g (n + 1) (end ∷ more) ∙ section_closes n end more c
  section_inner (group_more {lines = lines} group rest part g p i e) n more =
      ap (after_section (n + 1)) (moved lines group (part ∷ rest) more e) ∙ section_nested g (n + 1) (part ∷ (rest ++ more))
      ∙ section_passes (n + 1) part (rest ++ more) (part_opens_not (kind_of part) p) (part_closes_not (kind_of part) p)
      ∙ section_inner i n more

pub group_is_passed : (group rest : List Line) (part : Line) → AreNested group → ends_group (kind_of part) ≡ true
    → from_part 0 (group ++ part ∷ rest) ≡ part ∷ rest
group_is_passed group rest part g e =
    part_nested g 0 (part ∷ rest) ∙ from_part_end 0 part rest (both (ends_group (kind_of part)) e)

-- the groups of the section that is looked at, not of one nested in it
pub section_is_passed : {inner : List Line} → IsInner inner → (rest : List Line) → after_section 0 (inner ++ rest) ≡ rest
section_is_passed (last_group {lines = lines} group end g c e) rest =
    ap (after_section 0) (moved lines group (end ∷ []) rest e) ∙ section_nested g 0 (end ∷ rest)
    ∙ after_section_end 0 end rest (both (closes (kind_of end)) c)
section_is_passed (group_more {lines = lines} group more part g p i e) rest =
    ap (after_section 0) (moved lines group (part ∷ more) rest e) ∙ section_nested g 0 (part ∷ (more ++ rest))
    ∙ section_passes 0 part (more ++ rest) (part_opens_not (kind_of part) p) (part_closes_not (kind_of part) p)
    ∙ section_is_passed i rest
