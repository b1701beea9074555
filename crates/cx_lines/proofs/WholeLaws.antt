-- Lines have no fault exactly if their sections are whole.
use Rattle.std.proofs.Common.{◌≡◌, ℕ, ◌+◌, List, [], ◌∷◌, ◌++◌, Option, Some, None, Bool, true, false, refl, sym, ap, ◌∙◌, subst, arith, append_assoc, ◌⊎◌, ⊎_elim, inl, inr}
use Rattle.std.specs.Prelude.{◌==◌, ◌&&◌, ◌||◌, not}
use Rattle.std.proofs.lemmas.List.{append-nil}
use Rattle.std.proofs.lemmas.Bool.Decides.{nat_tests}
use Rattle.cx_lines.specs.declared.kind.LineKind.{LineKind}
use Rattle.cx_lines.specs.declared.kind.LineKind.TheVariants.{If, Ifdef, Ifndef, Elif, Else, Endif}
use Rattle.cx_lines.specs.declared.sections.OpenSection.{OpenSection}
use Rattle.cx_lines.specs.Kinds.{closes, ends_group, is_else, kind_of, opens, parts}
use Rattle.cx_lines.specs.Nesting.{AreNested, Extent, IsInner, Line, extent_after, extent_of, goes_after, group_line, is_stray, open_fault, opening_line, place_of, with_line}
use Rattle.cx_lines.specs.Nesting.AreNested.{no_lines as nested_none, plain as nested_plain, section as nested_section}
use Rattle.cx_lines.specs.Nesting.IsInner.{last_group, group_more}
use Rattle.cx_lines.specs.Shapes.Sections.{AreOpen, innermost, sections_after, stray_in, unclosed, with_front}
use Rattle.cx_lines.specs.Whole.{AreWhole, IsBody, IsLast, StopsAt}
use Rattle.cx_lines.specs.Whole.AreWhole.{no_lines, plain, section}
use Rattle.cx_lines.specs.Whole.IsBody.{one_group, with_elif, with_else}
use Rattle.cx_lines.specs.Whole.IsLast.{last}
use Rattle.cx_lines.proofs.NestLaws.{no_end_closes_not, no_end_parts_not, opener_closes_not, opener_ends_no_group, part_closes_not, part_opens_not}
use Rattle.cx_lines.proofs.SectionLaws.{are_open_after, extent_ends, extent_goes, extent_stops, none_open, stray_is, unclosed_is}

-- whole sections are nested
elif_parts : (k : LineKind) → k ≡ Elif → parts k ≡ true
elif_parts k e = ap parts e

else_parts : (k : LineKind) → k ≡ Else → parts k ≡ true
else_parts k e = ap parts e

mutual
  pub whole_nested : {lines : List Line} → AreWhole lines → AreNested lines
  whole_nested no_lines = nested_none
  whole_nested (plain o e r) = nested_plain o e (whole_nested r)
  whole_nested (section inner rest o b r e) = nested_section inner rest o (body_inner b) (whole_nested r) e

  pub body_inner : {lines : List Line} → IsBody lines → IsInner lines
  body_inner (one_group group end g c e) = last_group group end (whole_nested g) c e
  body_inner (with_elif group more part g k b e) = group_more group more part (whole_nested g) (elif_parts (kind_of part) k) (body_inner b) e
  body_inner (with_else group more part g k l e) = group_more group more part (whole_nested g) (else_parts (kind_of part) k) (last_inner l) e

  pub last_inner : {lines : List Line} → IsLast lines → IsInner lines
  last_inner (last group end g c e) = last_group group end (whole_nested g) c e

-- lines with others before them, of which the last is first
onto : List Line → List Line → List Line
onto [] before = before
onto (line ∷ lines) before = onto lines (line ∷ before)

onto_more : (a b before : List Line) → onto (a ++ b) before ≡ onto b (onto a before)
unfolding onto
onto_more [] b before = refl
onto_more (line ∷ a) b before = onto_more a b (line ∷ before)

more_than_none : (n : ℕ) → (n + 1 == 0) ≡ false
more_than_none n = grind (arith, nat_tests)

group_opener : (n : ℕ) (line : Line) (before : List Line) → opens (kind_of line) ≡ true → group_line (n + 1) (line ∷ before) ≡ group_line n before
unfolding group_line
group_opener n line before e = rw (opener_closes_not (kind_of line) e, e, more_than_none n) (ap (λ m. group_line m before) (omega arith))

group_opens : (line : Line) (before : List Line) → opens (kind_of line) ≡ true → group_line 0 (line ∷ before) ≡ Some line
unfolding group_line
group_opens line before e = rw (opener_closes_not (kind_of line) e, e) refl

group_begins : (line : Line) (before : List Line) → parts (kind_of line) ≡ true → group_line 0 (line ∷ before) ≡ Some line
unfolding group_line
group_begins line before e = rw (part_closes_not (kind_of line) e, part_opens_not (kind_of line) e, e) refl

group_plain : (n : ℕ) (line : Line) (before : List Line) → opens (kind_of line) ≡ false → ends_group (kind_of line) ≡ false
    → group_line n (line ∷ before) ≡ group_line n before
unfolding group_line
group_plain n line before o e = rw (no_end_closes_not (kind_of line) e, o, no_end_parts_not (kind_of line) e) refl

group_part : (n : ℕ) (line : Line) (before : List Line) → parts (kind_of line) ≡ true → group_line (n + 1) (line ∷ before) ≡ group_line (n + 1) before
unfolding group_line
group_part n line before e = rw (part_closes_not (kind_of line) e, part_opens_not (kind_of line) e, e, more_than_none n) refl

group_end : (n : ℕ) (line : Line) (before : List Line) → closes (kind_of line) ≡ true → group_line n (line ∷ before) ≡ group_line (n + 1) before
unfolding group_line
group_end n line before e = rw e refl

opening_opener : (n : ℕ) (line : Line) (before : List Line) → opens (kind_of line) ≡ true → opening_line (n + 1) (line ∷ before) ≡ opening_line n before
unfolding opening_line
opening_opener n line before e = rw (opener_closes_not (kind_of line) e, e, more_than_none n) (ap (λ m. opening_line m before) (omega arith))

opening_other : (n : ℕ) (line : Line) (before : List Line) → opens (kind_of line) ≡ false → closes (kind_of line) ≡ false
    → opening_line n (line ∷ before) ≡ opening_line n before
unfolding opening_line
opening_other n line before o e = rw (e, o) refl

opening_end : (n : ℕ) (line : Line) (before : List Line) → closes (kind_of line) ≡ true → opening_line n (line ∷ before) ≡ opening_line (n + 1) before
unfolding opening_line
opening_end n line before e = rw e refl

-- whole sections leave the groups as they were
mutual
  unfolding onto

  group_whole : {lines : List Line} → AreWhole lines → (n : ℕ) (before : List Line) → group_line n (onto lines before) ≡ group_line n before
  group_whole no_lines n before = refl
  group_whole (plain {line = line} {rest = rest} o e r) n before = group_whole r n (line ∷ before) ∙ group_plain n line before o e
  group_whole (section {line = line} {lines = lines} inner rest o b r e) n before =
      ap (λ l. group_line n (onto l (line ∷ before))) e ∙ ap (group_line n) (onto_more inner rest (line ∷ before))
      ∙ group_whole r n (onto inner (line ∷ before)) ∙ group_body b n (line ∷ before) ∙ group_opener n line before o

  group_body : {lines : List Line} → IsBody lines → (n : ℕ) (before : List Line) → group_line n (onto lines before) ≡ group_line (n + 1) before
  group_body (one_group group end g c e) n before =
      ap (λ l. group_line n (onto l before)) e ∙ ap (group_line n) (onto_more group (end ∷ []) before)
      ∙ group_end n end (onto group before) c ∙ group_whole g (n + 1) before
  group_body (with_elif group more part g k b e) n before =
      ap (λ l. group_line n (onto l before)) e ∙ ap (group_line n) (onto_more group (part ∷ more) before)
      ∙ group_body b n (part ∷ onto group before) ∙ group_part n part (onto group before) (elif_parts (kind_of part) k)
      ∙ group_whole g (n + 1) before
  group_body (with_else group more part g k l e) n before =
      ap (λ l'. group_line n (onto l' before)) e ∙ ap (group_line n) (onto_more group (part ∷ more) before)
      ∙ group_last l n (part ∷ onto group before) ∙ group_part n part (onto group before) (else_parts (kind_of part) k)
      ∙ group_whole g (n + 1) before

  group_last : {lines : List Line} → IsLast lines → (n : ℕ) (before : List Line) → group_line n (onto lines before) ≡ group_line (n + 1) before
  group_last (last group end g c e) n before =
      ap (λ l. group_line n (onto l before)) e ∙ ap (group_line n) (onto_more group (end ∷ []) before)
      ∙ group_end n end (onto group before) c ∙ group_whole g (n + 1) before

mutual
  unfolding onto

  opening_whole : {lines : List Line} → AreWhole lines → (n : ℕ) (before : List Line) → opening_line n (onto lines before) ≡ opening_line n before
  opening_whole no_lines n before = refl
  opening_whole (plain {line = line} {rest = rest} o e r) n before =
      opening_whole r n (line ∷ before) ∙ opening_other n line before o (no_end_closes_not (kind_of line) e)
  opening_whole (section {line = line} {lines = lines} inner rest o b r e) n before =
      ap (λ l. opening_line n (onto l (line ∷ before))) e ∙ ap (opening_line n) (onto_more inner rest (line ∷ before))
      ∙ opening_whole r n (onto inner (line ∷ before)) ∙ opening_body b n (line ∷ before) ∙ opening_opener n line before o

  opening_body : {lines : List Line} → IsBody lines → (n : ℕ) (before : List Line) → opening_line n (onto lines before) ≡ opening_line (n + 1) before
  opening_body (one_group group end g c e) n before =
      ap (λ l. opening_line n (onto l before)) e ∙ ap (opening_line n) (onto_more group (end ∷ []) before)
      ∙ opening_end n end (onto group before) c ∙ opening_whole g (n + 1) before
  opening_body (with_elif group more part g k b e) n before =
      ap (λ l. opening_line n (onto l before)) e ∙ ap (opening_line n) (onto_more group (part ∷ more) before)
      ∙ opening_body b n (part ∷ onto group before)
      ∙ opening_other (n + 1) part (onto group before) (part_opens_not (kind_of part) (elif_parts (kind_of part) k)) (part_closes_not (kind_of part) (elif_parts (kind_of part) k))
      ∙ opening_whole g (n + 1) before
  opening_body (with_else group more part g k l e) n before =
      ap (λ l'. opening_line n (onto l' before)) e ∙ ap (opening_line n) (onto_more group (part ∷ more) before)
      ∙ opening_last l n (part ∷ onto group before)
      ∙ opening_other (n + 1) part (onto group before) (part_opens_not (kind_of part) (else_parts (kind_of part) k)) (part_closes_not (kind_of part) (else_parts (kind_of part) k))
      ∙ opening_whole g (n + 1) before

  opening_last : {lines : List Line} → IsLast lines → (n : ℕ) (before : List Line) → opening_line n (onto lines before) ≡ opening_line (n + 1) before
  opening_last (last group end g c e) n before =
      ap (λ l. opening_line n (onto l before)) e ∙ ap (opening_line n) (onto_more group (end ∷ []) before)
      ∙ opening_end n end (onto group before) c ∙ opening_whole g (n + 1) before

-- lines that are no stray ones
not_both : (b c : Bool) → b ≡ false → (b && c) ≡ false
not_both b c e = subst (λ x. (x && c) ≡ false) (sym e) refl

stays_plain : (before : List Line) (line : Line) → ends_group (kind_of line) ≡ false → is_stray before line ≡ false
unfolding is_stray
stays_plain before line e = not_both (ends_group (kind_of line)) _ e

kept : (b : Bool) (c : Bool) → c ≡ true → (b && not c) ≡ false
kept true c e = subst (λ x. not x ≡ false) (sym e) refl
kept false c e = refl

stays_end : (before : List Line) (line group : Line) → closes (kind_of line) ≡ true → group_line 0 before ≡ Some group → is_stray before line ≡ false
unfolding is_stray
stays_end before line group c e =
    kept (ends_group (kind_of line)) (goes_after (kind_of line) (group_line 0 before))
    (ap (goes_after (kind_of line)) e ∙ subst (λ b. (b || not (is_else (kind_of group))) ≡ true) (sym c) refl)

either_true : (b c : Bool) → c ≡ true → (b || c) ≡ true
either_true true c e = refl
either_true false c e = e

stays_part : (before : List Line) (line group : Line) → is_else (kind_of group) ≡ false → group_line 0 before ≡ Some group → is_stray before line ≡ false
unfolding is_stray
stays_part before line group c e =
    kept (ends_group (kind_of line)) (goes_after (kind_of line) (group_line 0 before))
    (ap (goes_after (kind_of line)) e ∙ either_true (closes (kind_of line)) (not (is_else (kind_of group))) (ap not c))

opener_no_else : (k : LineKind) → opens k ≡ true → is_else k ≡ false
opener_no_else If e = refl
opener_no_else Ifdef e = refl
opener_no_else Ifndef e = refl
opener_no_else _ e = absurd cc

joined : (a b : List Line) (e : Extent) → with_front a (with_front b e) ≡ with_front (a ++ b) e
joined a b e = ap (λ lines. record { front = lines; fault = e.fault }) (sym (append_assoc a b e.front))

-- whole lines are gone through
extent_here : (before : List Line) (line : Line) (lines : List Line) (group : Line) → closes (kind_of line) ≡ true
    → group_line 0 before ≡ Some group → extent_after before (line ∷ lines) ≡ with_front (line ∷ []) (extent_after (line ∷ before) lines)
extent_here before line lines group c e = extent_goes before line lines (stays_end before line group c e)

-- a last group and its `endif`, where the group is gone through
extent_ended : (lines group : List Line) (end : Line) (before more : List Line) (first : Line) → closes (kind_of end) ≡ true
    → lines ≡ group ++ end ∷ [] → extent_after before (group ++ end ∷ more) ≡ with_front group (extent_after (onto group before) (end ∷ more))
    → group_line 0 (onto group before) ≡ Some first
    → extent_after before (lines ++ more) ≡ with_front lines (extent_after (onto lines before) more)
unfolding onto
extent_ended lines group end before more first c e gone begun =
    ap (λ l. extent_after before (l ++ more)) e ∙ ap (extent_after before) (append_assoc group (end ∷ []) more) ∙ gone
    ∙ ap (with_front group) (extent_here (onto group before) end more first c begun)
    ∙ joined group (end ∷ []) (extent_after (end ∷ onto group before) more)
    ∙ ap (λ b'. with_front (group ++ end ∷ []) (extent_after b' more)) (sym (onto_more group (end ∷ []) before))
    ∙ ap (λ l. with_front l (extent_after (onto l before) more)) (sym e)

mutual
  unfolding onto

  extent_whole : {lines : List Line} → AreWhole lines → (before more : List Line)
      → extent_after before (lines ++ more) ≡ with_front lines (extent_after (onto lines before) more)
  extent_whole no_lines before more = refl
  extent_whole (plain {line = line} {rest = rest} o e r) before more =
      extent_goes before line (rest ++ more) (stays_plain before line e)
      ∙ ap (with_line line) (extent_whole r (line ∷ before) more)
  extent_whole (section {line = line} {lines = lines} inner rest o b r e) before more =
      extent_goes before line (lines ++ more) (stays_plain before line (opener_ends_no_group (kind_of line) o))
      ∙ ap (with_line line)
      (ap (λ l. extent_after (line ∷ before) (l ++ more)) e ∙ ap (extent_after (line ∷ before)) (append_assoc inner rest more)
      ∙ extent_body b (line ∷ before) (rest ++ more) line (group_opens line before o) (opener_no_else (kind_of line) o)
      ∙ ap (with_front inner) (extent_whole r (onto inner (line ∷ before)) more)
      ∙ joined inner rest (extent_after (onto rest (onto inner (line ∷ before))) more)
      ∙ ap (λ b'. with_front (inner ++ rest) (extent_after b' more)) (sym (onto_more inner rest (line ∷ before)))
      ∙ ap (λ l. with_front l (extent_after (onto l (line ∷ before)) more)) (sym e))

  extent_body : {lines : List Line} → IsBody lines → (before more : List Line) (group : Line) → group_line 0 before ≡ Some group
      → is_else (kind_of group) ≡ false
      → extent_after before (lines ++ more) ≡ with_front lines (extent_after (onto lines before) more)
  extent_body (one_group {lines = lines} group end g c e) before more first begun no_else =
      extent_ended lines group end before more first c e (extent_whole g before (end ∷ more)) (group_whole g 0 before ∙ begun)
  extent_body (with_elif group rest part g k b e) before more first begun no_else =
      ap (λ l. extent_after before (l ++ more)) e ∙ ap (extent_after before) (append_assoc group (part ∷ rest) more)
      ∙ extent_whole g before (part ∷ (rest ++ more))
      ∙ ap (with_front group) (extent_goes (onto group before) part (rest ++ more) (stays_part (onto group before) part first no_else (group_whole g 0 before ∙ begun))
      ∙ ap (with_line part) (extent_body b (part ∷ onto group before) more part (group_begins part (onto group before) (elif_parts (kind_of part) k)) (ap is_else k)))
      ∙ joined group (part ∷ rest) (extent_after (onto rest (part ∷ onto group before)) more)
      ∙ ap (λ b'. with_front (group ++ part ∷ rest) (extent_after b' more)) (sym (onto_more group (part ∷ rest) before))
      ∙ ap (λ l. with_front l (extent_after (onto l before) more)) (sym e)
  extent_body (with_else group rest part g k b e) before more first begun no_else =
      ap (λ l. extent_after before (l ++ more)) e ∙ ap (extent_after before) (append_assoc group (part ∷ rest) more)
      ∙ extent_whole g before (part ∷ (rest ++ more))
      ∙ ap (with_front group) (extent_goes (onto group before) part (rest ++ more) (stays_part (onto group before) part first no_else (group_whole g 0 before ∙ begun))
      ∙ ap (with_line part) (extent_last b (part ∷ onto group before) more part (group_begins part (onto group before) (else_parts (kind_of part) k))))
      ∙ joined group (part ∷ rest) (extent_after (onto rest (part ∷ onto group before)) more)
      ∙ ap (λ b'. with_front (group ++ part ∷ rest) (extent_after b' more)) (sym (onto_more group (part ∷ rest) before))
      ∙ ap (λ l. with_front l (extent_after (onto l before) more)) (sym e)

  extent_last : {lines : List Line} → IsLast lines → (before more : List Line) (group : Line) → group_line 0 before ≡ Some group
      → extent_after before (lines ++ more) ≡ with_front lines (extent_after (onto lines before) more)
  extent_last (last {lines = lines} group end g c e) before more first begun =
      extent_ended lines group end before more first c e (extent_whole g before (end ∷ more)) (group_whole g 0 before ∙ begun)

none_opens : (n : ℕ) → opening_line n [] ≡ None
unfolding opening_line
none_opens n = refl

pub whole_has_no_fault : (lines : List Line) → AreWhole lines → extent_of lines ≡ record { front = lines; fault = None }
whole_has_no_fault lines w =
    ap (extent_after []) (sym (append-nil lines)) ∙ extent_whole w [] []
    ∙ ap (with_front lines) (extent_ends (onto lines []))
    ∙ ap (λ l. record { front = l; fault = open_fault (opening_line 0 (onto lines [])) }) (append-nil lines)
    ∙ ap (λ o. record { front = lines; fault = open_fault o }) (opening_whole w 0 [] ∙ none_opens 0)

-- the way back: lines that close the sections that are open
abbrev pub HasPart : Bool → List Line → Type 0
HasPart false lines = IsBody lines
HasPart true lines = IsLast lines

abbrev Closes : List OpenSection → List Line → Type 0
Closes [] lines = AreWhole lines
Closes (s ∷ sections) lines = (inner rest : List Line) × (lines ≡ inner ++ rest) × HasPart s.has_else inner × Closes sections rest

-- lines in front that are whole whatever whole lines follow them
abbrev pub GoesBefore : List Line → Type 0
GoesBefore front = (lines : List Line) → AreWhole lines → AreWhole (front ++ lines)

pub last_behind : (front inner : List Line) → GoesBefore front → IsLast inner → IsLast (front ++ inner)
last_behind front inner f (last group end g c e) =
    last (front ++ group) end (f group g) c (ap (λ l. front ++ l) e ∙ sym (append_assoc front group (end ∷ [])))

pub body_behind : (front inner : List Line) → GoesBefore front → IsBody inner → IsBody (front ++ inner)
body_behind front inner f (one_group group end g c e) =
    one_group (front ++ group) end (f group g) c (ap (λ l. front ++ l) e ∙ sym (append_assoc front group (end ∷ [])))
body_behind front inner f (with_elif group more part g k b e) =
    with_elif (front ++ group) more part (f group g) k b (ap (λ l. front ++ l) e ∙ sym (append_assoc front group (part ∷ more)))
body_behind front inner f (with_else group more part g k l e) =
    with_else (front ++ group) more part (f group g) k l (ap (λ l'. front ++ l') e ∙ sym (append_assoc front group (part ∷ more)))

pub part_behind : (b : Bool) (front inner : List Line) → GoesBefore front → HasPart b inner → HasPart b (front ++ inner)
part_behind false front inner f h = body_behind front inner f h
part_behind true front inner f h = last_behind front inner f h

closes_behind : (sections : List OpenSection) (front lines : List Line) → GoesBefore front → Closes sections lines → Closes sections (front ++ lines)
closes_behind [] front lines f h = f lines h
closes_behind (s ∷ sections) front lines f h =
    (front ++ h.0, h.1, ap (λ l. front ++ l) h.2 ∙ sym (append_assoc front h.0 h.1), part_behind s.has_else front h.0 f h.3, h.4)

closes_at : (a b : List OpenSection) (lines : List Line) → a ≡ b → Closes a lines → Closes b lines
closes_at a b lines e h = subst (λ s. Closes s lines) e h

-- a line more, by its kind
closes_more : (k : LineKind) (line : Line) (sections : List OpenSection) (lines : List Line) → kind_of line ≡ k
    → stray_in sections k ≡ false → Closes (sections_after k (place_of line) sections) lines → Closes sections (line ∷ lines)
unfolding sections_after
closes_more If line sections lines e h c =
    subst (Closes sections) (ap (λ l. line ∷ l) (sym c.2)) (closes_behind sections (line ∷ c.0) c.1 (λ l w. section c.0 l (ap opens e) c.3 w refl) c.4)
closes_more Ifdef line sections lines e h c =
    subst (Closes sections) (ap (λ l. line ∷ l) (sym c.2)) (closes_behind sections (line ∷ c.0) c.1 (λ l w. section c.0 l (ap opens e) c.3 w refl) c.4)
closes_more Ifndef line sections lines e h c =
    subst (Closes sections) (ap (λ l. line ∷ l) (sym c.2)) (closes_behind sections (line ∷ c.0) c.1 (λ l w. section c.0 l (ap opens e) c.3 w refl) c.4)
closes_more Endif line [] lines e h c = absurd cc
closes_more Endif line (s ∷ sections) lines e h c =
    (line ∷ [], lines, refl, ended s.has_else, c)
  where
    ended : (b : Bool) → HasPart b (line ∷ [])
    ended false = one_group [] line no_lines (ap closes e) refl
    ended true = last [] line no_lines (ap closes e) refl
closes_more Elif line [] lines e h c = absurd cc
closes_more Elif line (s ∷ sections) lines e h c = (
  line ∷ c.0,
  c.1,
  ap (λ l. line ∷ l) c.2,
  subst (λ b. HasPart b (line ∷ c.0)) (sym h) (with_elif [] c.0 line no_lines e (subst (λ b. HasPart b c.0) h c.3) refl),
  c.4,
)
closes_more Else line [] lines e h c = absurd cc
closes_more Else line (s ∷ sections) lines e h c = (
  line ∷ c.0,
  c.1,
  ap (λ l. line ∷ l) c.2,
  subst (λ b. HasPart b (line ∷ c.0)) (sym h) (with_else [] c.0 line no_lines e c.3 refl),
  c.4,
)
closes_more _ line sections lines e h c =
    closes_behind sections (line ∷ []) lines (λ l w. plain (ap opens e) (ap ends_group e) w) c

pub either : (b : Bool) → (b ≡ true) ⊎ (b ≡ false)
either true = inl refl
either false = inr refl

none_unclosed : (sections : List OpenSection) → unclosed (innermost sections) ≡ None → Closes sections []
none_unclosed [] e = no_lines
none_unclosed (s ∷ sections) e = absurd cc

-- lines without a fault close the sections that are open before them, and are the front
no_fault : (lines before : List Line) (sections : List OpenSection) → AreOpen sections before
    → (extent_after before lines).fault ≡ None → Closes sections lines × ((extent_after before lines).front ≡ lines)
no_fault [] before sections a e = (
  none_unclosed sections (sym (unclosed_is sections before a) ∙ ap (λ x. x.fault) (sym (extent_ends before)) ∙ e),
  ap (λ x. x.front) (extent_ends before),
)
no_fault (line ∷ lines) before sections a e =
    ⊎_elim (λ s. absurd (let h = ap (λ x. x.fault) (extent_stops before line lines s) in cc))
    (λ s.
    let goes = extent_goes before line lines s in
    let stays = sym (stray_is line sections before a) ∙ s in
    let rest = no_fault lines (line ∷ before) (sections_after (kind_of line) (place_of line) sections)
    (are_open_after line sections before a stays) (ap (λ x. x.fault) (sym goes) ∙ e) in
    (closes_more (kind_of line) line sections lines refl stays rest.0, ap (λ x. x.front) goes ∙ ap (λ l. line ∷ l) rest.1))
    (either (is_stray before line))

pub no_fault_is_whole : (lines : List Line) → (extent_of lines).fault ≡ None → AreWhole lines × ((extent_of lines).front ≡ lines)
no_fault_is_whole lines e = no_fault lines [] [] none_open e

-- the front is a front
stops_at_end : (fault : Option Line) → StopsAt (open_fault fault) []
stops_at_end None = refl
stops_at_end (Some line) = refl

stray_ends : (before : List Line) (line : Line) → is_stray before line ≡ true → ends_group (kind_of line) ≡ true
unfolding is_stray
stray_ends before line e = first (ends_group (kind_of line)) (not (goes_after (kind_of line) (group_line 0 before))) e
  where
    first : (b c : Bool) → (b && c) ≡ true → b ≡ true
    first true c h = refl
    first false c h = absurd cc

abbrev pub Stops : Extent → List Line → Type 0
Stops e lines = (rest : List Line) × (lines ≡ e.front ++ rest) × StopsAt e.fault rest

stops : (lines before : List Line) → Stops (extent_after before lines) lines
stops [] before = subst (λ e. Stops e []) (sym (extent_ends before)) ([], refl, stops_at_end (opening_line 0 before))
stops (line ∷ lines) before =
    ⊎_elim (λ s. subst (λ e. Stops e (line ∷ lines)) (sym (extent_stops before line lines s))
    (line ∷ lines, refl, (refl, stray_ends before line s)))
    (λ s. let h = stops lines (line ∷ before) in
    subst (λ e. Stops e (line ∷ lines)) (sym (extent_goes before line lines s)) (h.0, ap (λ l. line ∷ l) h.1, h.2))
    (either (is_stray before line))

pub front_stops : (lines : List Line) → Stops (extent_of lines) lines
front_stops lines = stops lines []
