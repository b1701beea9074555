-- What is open behind lines, and what is wrong there.
use Rattle.std.proofs.Common.{◌≡◌, List, [], ◌∷◌, ◌++◌, Bool, true, false, refl, sym, ap, ◌∙◌, subst, append_assoc, ⊎_elim, inl, inr}
use Rattle.std.specs.Prelude.{◌&&◌}
use Rattle.std.proofs.lemmas.List.{append-nil}
use Rattle.cx_lines.specs.declared.kind.LineKind.{LineKind}
use Rattle.cx_lines.specs.declared.kind.LineKind.TheVariants.{If, Ifdef, Ifndef, Elif, Else, Endif}
use Rattle.cx_lines.specs.declared.sections.OpenSection.{OpenSection}
use Rattle.cx_lines.specs.Kinds.{closes, ends_group, kind_of, opens, parts}
use Rattle.cx_lines.specs.Nesting.{Extent, Line, extent_after, extent_of, is_stray, place_of}
use Rattle.cx_lines.specs.Shapes.Sections.{AreOpen, innermost, sections_after, stray_in, unclosed}
use Rattle.cx_lines.specs.Whole.{AreWhole, EndsIn, HasFault, HasNoSection, IsBody, IsStarted}
use Rattle.cx_lines.specs.Whole.AreWhole.{no_lines, plain, section}
use Rattle.cx_lines.specs.Whole.IsBody.{one_group, with_elif, with_else}
use Rattle.cx_lines.specs.Whole.IsLast.{last}
use Rattle.cx_lines.specs.Whole.IsStarted.{first_group, next_group, else_group}
use Rattle.cx_lines.proofs.SectionLaws.{are_open_after, extent_ends, extent_goes, extent_stops, none_open, stray_is, unclosed_is}
use Rattle.cx_lines.proofs.WholeLaws.{HasPart, body_behind, either, last_behind}

-- whole lines behind whole lines
whole_more : {a : List Line} → AreWhole a → (b : List Line) → AreWhole b → AreWhole (a ++ b)
whole_more no_lines b w = w
whole_more (plain o e r) b w = plain o e (whole_more r b w)
whole_more (section inner rest o i r e) b w =
    section inner (rest ++ b) o i (whole_more r b w) (ap (λ l. l ++ b) e ∙ append_assoc inner rest b)

-- groups that are started, with the rest of their section
started_body : {b : Bool} {groups : List Line} → IsStarted b groups → (inner : List Line) → HasPart b inner → IsBody (groups ++ inner)
started_body (first_group {group = group} w) inner h = body_behind group inner (whole_more w) h
started_body (next_group {lines = lines} groups group part s k w e) inner h =
    subst IsBody (sym (ap (λ l. l ++ inner) e ∙ append_assoc groups (part ∷ group) inner))
    (started_body s (part ∷ (group ++ inner)) (with_elif [] (group ++ inner) part no_lines k (body_behind group inner (whole_more w) h) refl))
started_body (else_group {lines = lines} groups group part s k w e) inner h =
    subst IsBody (sym (ap (λ l. l ++ inner) e ∙ append_assoc groups (part ∷ group) inner))
    (started_body s (part ∷ (group ++ inner)) (with_else [] (group ++ inner) part no_lines k (last_behind group inner (whole_more w) h) refl))

-- and with whole lines more
started_more : {b : Bool} {groups : List Line} → IsStarted b groups → (lines : List Line) → AreWhole lines → IsStarted b (groups ++ lines)
started_more (first_group w) lines v = first_group (whole_more w lines v)
started_more (next_group groups group part s k w e) lines v =
    next_group groups (group ++ lines) part s k (whole_more w lines v) (ap (λ l. l ++ lines) e ∙ append_assoc groups (part ∷ group) lines)
started_more (else_group groups group part s k w e) lines v =
    else_group groups (group ++ lines) part s k (whole_more w lines v) (ap (λ l. l ++ lines) e ∙ append_assoc groups (part ∷ group) lines)

-- Lines behind which these sections are open.
abbrev Held : List OpenSection → List Line → Type 0
Held [] lines = AreWhole lines
Held (s ∷ sections) lines =
    (before : List Line) × (opening : Line) × (groups : List Line) × (lines ≡ before ++ opening ∷ groups)
    × (opens (kind_of opening) ≡ true) × (place_of opening ≡ s.at) × IsStarted s.has_else groups × Held sections before

held_more : (sections : List OpenSection) (lines more : List Line) → Held sections lines → AreWhole more → Held sections (lines ++ more)
held_more [] lines more h w = whole_more h more w
held_more (s ∷ sections) lines more h w =
    (h.0, h.1, h.2 ++ more, ap (λ l. l ++ more) h.3 ∙ append_assoc h.0 (h.1 ∷ h.2) more, h.4, h.5, started_more h.6 more w, h.7)

held_opened : (line : Line) (sections : List OpenSection) (lines : List Line) → opens (kind_of line) ≡ true → Held sections lines
    → Held (record { at = place_of line; has_else = false } ∷ sections) (lines ++ line ∷ [])
held_opened line sections lines o h = (lines, line, [], refl, o, refl, first_group no_lines, h)

ended : (b : Bool) (line : Line) → closes (kind_of line) ≡ true → HasPart b (line ∷ [])
ended false line c = one_group [] line no_lines c refl
ended true line c = last [] line no_lines c refl

held_closed : (line : Line) (s : OpenSection) (sections : List OpenSection) (lines : List Line) → closes (kind_of line) ≡ true
    → Held (s ∷ sections) lines → Held sections (lines ++ line ∷ [])
held_closed line s sections lines c h =
    subst (Held sections) (sym (ap (λ l. l ++ line ∷ []) h.3 ∙ append_assoc h.0 (h.1 ∷ h.2) (line ∷ [])))
    (held_more sections h.0 (h.1 ∷ (h.2 ++ line ∷ [])) h.7
    (section (h.2 ++ line ∷ []) [] h.4 (started_body h.6 (line ∷ []) (ended s.has_else line c)) no_lines (sym (append-nil (h.2 ++ line ∷ [])))))

-- a line more, by its kind
held_next : (k : LineKind) (line : Line) → kind_of line ≡ k → (sections : List OpenSection) (lines : List Line)
    → stray_in sections k ≡ false → Held sections lines → Held (sections_after k (place_of line) sections) (lines ++ line ∷ [])
unfolding sections_after
held_next If line e sections lines n h = held_opened line sections lines (ap opens e) h
held_next Ifdef line e sections lines n h = held_opened line sections lines (ap opens e) h
held_next Ifndef line e sections lines n h = held_opened line sections lines (ap opens e) h
held_next Endif line e [] lines n h = absurd cc
held_next Endif line e (s ∷ sections) lines n h = held_closed line s sections lines (ap closes e) h
held_next Elif line e [] lines n h = absurd cc
held_next Elif line e (s ∷ sections) lines n h = (
  h.0,
  h.1,
  h.2 ++ line ∷ [],
  ap (λ l. l ++ line ∷ []) h.3 ∙ append_assoc h.0 (h.1 ∷ h.2) (line ∷ []),
  h.4,
  h.5,
  subst (λ b. IsStarted b (h.2 ++ line ∷ [])) (sym n)
      (next_group h.2 [] line (subst (λ b. IsStarted b h.2) n h.6) e no_lines refl),
  h.7,
)
held_next Else line e [] lines n h = absurd cc
held_next Else line e (s ∷ sections) lines n h = (
  h.0,
  h.1,
  h.2 ++ line ∷ [],
  ap (λ l. l ++ line ∷ []) h.3 ∙ append_assoc h.0 (h.1 ∷ h.2) (line ∷ []),
  h.4,
  h.5,
  else_group h.2 [] line (subst (λ b. IsStarted b h.2) n h.6) e no_lines refl,
  h.7,
)
held_next _ line e sections lines n h =
    held_more sections lines (line ∷ []) h (plain (ap opens e) (ap ends_group e) no_lines)

held_ends : (s : OpenSection) (sections : List OpenSection) (lines : List Line) → Held (s ∷ sections) lines → EndsIn s.has_else s.at lines
held_ends s sections lines h = record {
  before = h.0;
  opening = h.1;
  groups = h.2;
  whole = h.3;
  opens_it = h.4;
  place = h.5;
  started = h.6;
}

-- what is wrong at the end
fault_at_end : (sections : List OpenSection) (lines : List Line) → Held sections lines → HasFault (unclosed (innermost sections)) lines []
fault_at_end [] lines h = (h, refl)
fault_at_end (s ∷ sections) lines h = (s.has_else, held_ends s sections lines h, refl)

first_true : (b c : Bool) → (b && c) ≡ true → b ≡ true
first_true true c e = refl
first_true false c e = absurd cc

second_true : (b c : Bool) → (b && c) ≡ true → c ≡ true
second_true true c e = e
second_true false c e = absurd cc

no_section : (sections : List OpenSection) (lines : List Line) (line : Line) → Held sections lines
    → stray_in sections (kind_of line) ≡ true → HasNoSection lines line
no_section [] lines line h e = inl (h, e)
no_section (s ∷ sections) lines line h e =
    inr (
      s.at,
      subst (λ b. EndsIn b s.at lines) (second_true (parts (kind_of line)) s.has_else e) (held_ends s sections lines h),
      first_true (parts (kind_of line)) s.has_else e,
    )

-- what is wrong where lines stop that stand behind others
abbrev pub Faulty : Extent → List Line → List Line → Type 0
Faulty e front lines = (rest : List Line) × (lines ≡ e.front ++ rest) × HasFault e.fault (front ++ e.front) rest

faulty : (lines front before : List Line) (sections : List OpenSection) → AreOpen sections before → Held sections front
    → Faulty (extent_after before lines) front lines
faulty [] front before sections a h =
    subst (λ e. Faulty e front []) (sym (extent_ends before)) (
      [],
      refl,
      subst (λ f. HasFault f (front ++ []) []) (sym (unclosed_is sections before a))
          (subst (λ l. HasFault (unclosed (innermost sections)) l []) (sym (append-nil front)) (fault_at_end sections front h)),
    )
faulty (line ∷ lines) front before sections a h =
    ⊎_elim (λ s. subst (λ e. Faulty e front (line ∷ lines)) (sym (extent_stops before line lines s)) (
      line ∷ lines,
      refl,
      (refl, subst (λ l. HasNoSection l line) (sym (append-nil front)) (no_section sections front line h (sym (stray_is line sections before a) ∙ s))),
    ))
    (λ s.
    let stays = sym (stray_is line sections before a) ∙ s in
    let more = faulty lines (front ++ line ∷ []) (line ∷ before) (sections_after (kind_of line) (place_of line) sections)
    (are_open_after line sections before a stays) (held_next (kind_of line) line refl sections front stays h) in
    subst (λ e. Faulty e front (line ∷ lines)) (sym (extent_goes before line lines s)) (
      more.0,
      ap (λ l. line ∷ l) more.1,
      subst (λ l. HasFault (extent_after (line ∷ before) lines).fault l more.0) (append_assoc front (line ∷ []) (extent_after (line ∷ before) lines).front) more.2,
    ))
    (either (is_stray before line))

pub has_its_fault : (lines : List Line) → Faulty (extent_of lines) [] lines
has_its_fault lines = faulty lines [] [] [] none_open no_lines
