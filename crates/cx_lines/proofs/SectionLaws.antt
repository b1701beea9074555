-- The sections that are open are those in which the next line stands.
use Rattle.std.proofs.Common.{◌≡◌, ℕ, zero, suc, ◌+◌, ◌-◌, ◌<◌, List, [], ◌∷◌, ◌++◌, length, reverse, Option, Some, None, Bool, true, false, refl, sym, ap, ◌∙◌, subst, arith, get_or, inl}
use Rattle.std.specs.Prelude.{◌==◌, ◌&&◌, ◌||◌, not, if◌then◌else◌, slice_get}
use Rattle.std.proofs.lemmas.Bool.Decides.{nat_tests}
use Rattle.std.proofs.lemmas.Option.{slice_get-get_or}
use Rattle.std.proofs.lemmas.List.{append-nil, append_assoc, reverse-append, get_or-reverse, length-reverse}
use Rattle.cx_lex.specs.declared.piece.Piece.{Piece}
use Rattle.cx_lines.specs.declared.kind.LineKind.{LineKind}
use Rattle.cx_lines.specs.declared.kind.LineKind.TheVariants.{If, Ifdef, Ifndef, Elif, Else, Endif}
use Rattle.cx_lines.specs.declared.nesting.NestingFault.TheVariants.{Stray, Unclosed}
use Rattle.cx_lines.specs.declared.sections.OpenSection.{OpenSection}
use Rattle.cx_lines.specs.Kinds.{closes, ends_group, is_else, kind_of, opens, parts}
use Rattle.cx_lines.specs.Lines.{lines_of}
use Rattle.cx_lines.specs.Nesting.{Extent, Line, extent_after, extent_of, goes_after, group_line, is_stray, open_fault, opening_line, place_of, with_line}
use Rattle.cx_lines.specs.Shapes.Cuts.{BeginsLine}
use Rattle.cx_lines.specs.Shapes.Sections.{AreOpen, NestsTo, Stands, innermost, outer, section_at, sections_after, stray_in, unclosed, with_front}
use Rattle.cx_lines.proofs.LineLaws.{cut_next, cut_next_lines}

pub pushed : (all : List OpenSection) (s : OpenSection) → reverse (all ++ s ∷ []) ≡ s ∷ reverse all
pushed all s = reverse-append all (s ∷ [])

innermost_at : (all : List OpenSection) (d : OpenSection) → 0 < length all → innermost all ≡ Some (get_or all 0 d)
innermost_at [] d l = absurd (omega (arith, l))
innermost_at (s ∷ all) d l = refl

pub innermost_is : (all : List OpenSection) → slice_get all (length all - 1) ≡ innermost (reverse all)
innermost_is [] = refl
innermost_is (s ∷ rest) = innermost_of (s ∷ rest) s (omega arith)
  where
    innermost_of : (all : List OpenSection) (d : OpenSection) → 0 < length all → slice_get all (length all - 1) ≡ innermost (reverse all)
    innermost_of all d l =
        slice_get-get_or all (length all - 1) d (omega arith)
        ∙ ap Some (ap (λ i. get_or all i d) (omega arith) ∙ sym (get_or-reverse all 0 d l))
        ∙ sym (innermost_at (reverse all) d (omega (arith, length-reverse all)))

-- a line more, by its kind
abbrev group_by : LineKind → ℕ → Line → List Line → Option Line
group_by k n line before =
    if closes k then group_line (n + 1) before
    else if (opens k || parts k) && (n == 0) then Some line
    else if opens k then group_line (n - 1) before
    else group_line n before

abbrev opening_by : LineKind → ℕ → Line → List Line → Option Line
opening_by k n line before =
    if closes k then opening_line (n + 1) before
    else if opens k && (n == 0) then Some line
    else if opens k then opening_line (n - 1) before
    else opening_line n before

not_zero : (m : ℕ) → (suc m == 0) ≡ false
not_zero m = grind (arith, nat_tests)

one_less : (m : ℕ) → suc m - 1 ≡ m
one_less m = omega arith

deeper : {A : Type 0} (F : ℕ → A) (m : ℕ) (here : A) → (if suc m == 0 then here else F (suc m - 1)) ≡ F m
deeper F m here = subst (λ b. (if b then here else F (suc m - 1)) ≡ F m) (sym (not_zero m)) (ap F (one_less m))

inner_one : {A : Type 0} (m : ℕ) (here there : A) → (if suc m == 0 then here else there) ≡ there
inner_one m here there = subst (λ b. (if b then here else there) ≡ there) (sym (not_zero m)) refl

-- behind a line that opens a section
opened : (line : Line) (sections : List OpenSection) (before : List Line) → AreOpen sections before
    → is_else (kind_of line) ≡ false → (n : ℕ)
    → Stands (section_at n (record { at = place_of line; has_else = false } ∷ sections))
    (if n == 0 then Some line else group_line (n - 1) before) (if n == 0 then Some line else opening_line (n - 1) before)
opened line sections before a e zero = (sym e, refl)
opened line sections before a e (suc m) =
    subst (λ group. Stands (section_at m sections) group (if suc m == 0 then Some line else opening_line (suc m - 1) before))
    (sym (deeper (λ k. group_line k before) m (Some line)))
    (subst (λ opening. Stands (section_at m sections) (group_line m before) opening)
    (sym (deeper (λ k. opening_line k before) m (Some line))) (a.each m))

outer_at : (n : ℕ) (sections : List OpenSection) → section_at (n + 1) sections ≡ section_at n (outer sections)
outer_at n [] = refl
outer_at n (s ∷ sections) =
    let e : suc n ≡ n + 1 = omega arith in
    subst (λ m. section_at m (s ∷ sections) ≡ section_at n sections) e refl

-- behind a line that closes one
closed : (sections : List OpenSection) (before : List Line) → AreOpen sections before → (n : ℕ)
    → Stands (section_at n (outer sections)) (group_line (n + 1) before) (opening_line (n + 1) before)
closed sections before a n =
    subst (λ s. Stands s (group_line (n + 1) before) (opening_line (n + 1) before)) (outer_at n sections) (a.each (n + 1))

-- behind a line that goes on with the innermost
goes_on : (s : OpenSection) (group opening : Option Line) → Stands (Some s) group opening → (line : Line)
    → (b : Bool) → b ≡ is_else (kind_of line) → Stands (Some (record { at = s.at; has_else = b })) (Some line) opening
goes_on s None None h line b e = absurd h
goes_on s None (Some o) h line b e = absurd h
goes_on s (Some g) None h line b e = absurd h
goes_on s (Some g) (Some o) h line b e = (e, h.1)

parted : (s : OpenSection) (sections : List OpenSection) (before : List Line) → AreOpen (s ∷ sections) before → (line : Line)
    → (b : Bool) → b ≡ is_else (kind_of line) → (n : ℕ)
    → Stands (section_at n (record { at = s.at; has_else = b } ∷ sections))
    (if n == 0 then Some line else group_line n before) (opening_line n before)
parted s sections before a line b e zero = goes_on s (group_line 0 before) (opening_line 0 before) (a.each 0) line b e
parted s sections before a line b e (suc m) =
    subst (λ group. Stands (section_at m sections) group (opening_line (suc m) before))
    (sym (inner_one m (Some line) (group_line (suc m) before))) (a.each (suc m))

same_section : (s : OpenSection) → s.has_else ≡ false → record { at = s.at; has_else = false } ≡ s
same_section s e = subst (λ b. record { at = s.at; has_else = b } ≡ s) e refl

each_after : (k : LineKind) (line : Line) → kind_of line ≡ k → (sections : List OpenSection) (before : List Line)
    → AreOpen sections before → stray_in sections k ≡ false → (n : ℕ)
    → Stands (section_at n (sections_after k (place_of line) sections)) (group_by k n line before) (opening_by k n line before)
unfolding sections_after
each_after If line e sections before a h n = opened line sections before a (ap is_else e) n
each_after Ifdef line e sections before a h n = opened line sections before a (ap is_else e) n
each_after Ifndef line e sections before a h n = opened line sections before a (ap is_else e) n
each_after Endif line e sections before a h n = closed sections before a n
each_after Elif line e [] before a h n = absurd cc
each_after Elif line e (s ∷ sections) before a h n =
    subst (λ x. Stands (section_at n (x ∷ sections)) (if n == 0 then Some line else group_line n before) (opening_line n before))
    (same_section s h) (parted s sections before a line false (sym (ap is_else e)) n)
each_after Else line e [] before a h n = absurd cc
each_after Else line e (s ∷ sections) before a h n = parted s sections before a line true (sym (ap is_else e)) n
each_after _ line e sections before a h n = a.each n

pub are_open_after : (line : Line) (sections : List OpenSection) (before : List Line) → AreOpen sections before
    → stray_in sections (kind_of line) ≡ false → AreOpen (sections_after (kind_of line) (place_of line) sections) (line ∷ before)
unfolding group_line opening_line
are_open_after line sections before a h = record { each = each_after (kind_of line) line refl sections before a h }

pub none_open : AreOpen [] []
unfolding group_line opening_line
none_open = record { each = λ n. tt }

-- the innermost section is at 0
innermost_first : (sections : List OpenSection) → section_at 0 sections ≡ innermost sections
innermost_first [] = refl
innermost_first (s ∷ sections) = refl

unclosed_by : (section : Option OpenSection) (group opening : Option Line) → Stands section group opening → open_fault opening ≡ unclosed section
unclosed_by None None None h = refl
unclosed_by None None (Some o) h = absurd h
unclosed_by None (Some g) None h = absurd h
unclosed_by None (Some g) (Some o) h = absurd h
unclosed_by (Some s) None None h = absurd h
unclosed_by (Some s) None (Some o) h = absurd h
unclosed_by (Some s) (Some g) None h = absurd h
unclosed_by (Some s) (Some g) (Some o) h = ap (λ p. Some (Unclosed p)) (sym h.1)

pub unclosed_is : (sections : List OpenSection) (before : List Line) → AreOpen sections before
    → open_fault (opening_line 0 before) ≡ unclosed (innermost sections)
unclosed_is sections before a =
    unclosed_by _ (group_line 0 before) (opening_line 0 before) (a.each 0) ∙ ap unclosed (innermost_first sections)

twice : (b : Bool) → not (not b) ≡ b
twice true = refl
twice false = refl

and_true : (b : Bool) → (b && true) ≡ b
and_true true = refl
and_true false = refl

stray_by : (k : LineKind) (sections : List OpenSection) (group opening : Option Line) → Stands (innermost sections) group opening
    → (ends_group k && not (goes_after k group)) ≡ stray_in sections k
stray_by k [] None None h = and_true (ends_group k)
stray_by k [] None (Some o) h = absurd h
stray_by k [] (Some g) None h = absurd h
stray_by k [] (Some g) (Some o) h = absurd h
stray_by k (s ∷ sections) None None h = absurd h
stray_by k (s ∷ sections) None (Some o) h = absurd h
stray_by k (s ∷ sections) (Some g) None h = absurd h
stray_by Elif (s ∷ sections) (Some g) (Some o) h = twice (is_else (kind_of g)) ∙ sym h.0
stray_by Else (s ∷ sections) (Some g) (Some o) h = twice (is_else (kind_of g)) ∙ sym h.0
stray_by _ (s ∷ sections) (Some g) (Some o) h = refl

pub stray_is : (line : Line) (sections : List OpenSection) (before : List Line) → AreOpen sections before
    → is_stray before line ≡ stray_in sections (kind_of line)
unfolding is_stray
stray_is line sections before a =
    stray_by (kind_of line) sections (group_line 0 before) (opening_line 0 before)
    (subst (λ s. Stands s (group_line 0 before) (opening_line 0 before)) (innermost_first sections) (a.each 0))

-- how far lines nest, a line further

pub extent_stops : (before : List Line) (line : Line) (lines : List Line) → is_stray before line ≡ true
    → extent_after before (line ∷ lines) ≡ record { front = []; fault = Some (Stray (place_of line)) }
unfolding extent_after
extent_stops before line lines e =
    subst (λ b. (if b then record { front = []; fault = Some (Stray (place_of line)) } else with_line line (extent_after (line ∷ before) lines))
    ≡ record { front = []; fault = Some (Stray (place_of line)) }) (sym e) refl

pub extent_goes : (before : List Line) (line : Line) (lines : List Line) → is_stray before line ≡ false
    → extent_after before (line ∷ lines) ≡ with_line line (extent_after (line ∷ before) lines)
unfolding extent_after
extent_goes before line lines e =
    subst (λ b. (if b then record { front = []; fault = Some (Stray (place_of line)) } else with_line line (extent_after (line ∷ before) lines))
    ≡ with_line line (extent_after (line ∷ before) lines)) (sym e) refl

pub extent_ends : (before : List Line) → extent_after before [] ≡ record { front = []; fault = open_fault (opening_line 0 before) }
unfolding extent_after
extent_ends before = refl

pub one_further : (front : List Line) (line : Line) (e : Extent) → with_front front (with_line line e) ≡ with_front (front ++ line ∷ []) e
one_further front line e = ap (λ lines. record { front = lines; fault = e.fault }) (sym (append_assoc front (line ∷ []) e.front))

pub nests_start : (all : List Piece) → NestsTo all all []
unfolding lines_of
nests_start all = record {
  cut = record { front = []; whole = refl; begins = inl refl };
  before = [];
  are_open = none_open;
  goes = refl;
}

pub nests_next : (all rest line more : List Piece) (sections : List OpenSection) → NestsTo all rest sections
    → rest ≡ line ++ more → lines_of rest ≡ line ∷ lines_of more → BeginsLine more → stray_in sections (kind_of line) ≡ false
    → NestsTo all more (sections_after (kind_of line) (place_of line) sections)
nests_next all rest line more sections t whole first begins stays = record {
  cut = cut_next all rest line more t.cut whole begins;
  before = line ∷ t.before;
  are_open = are_open_after line sections t.before t.are_open stays;
  goes =
      t.goes ∙ ap (λ lines. with_front (lines_of t.cut.front) (extent_after t.before lines)) first
      ∙ ap (with_front (lines_of t.cut.front)) (extent_goes t.before line (lines_of more) (stray_is line sections t.before t.are_open ∙ stays))
      ∙ one_further (lines_of t.cut.front) line (extent_after (line ∷ t.before) (lines_of more))
      ∙ ap (λ lines. with_front lines (extent_after (line ∷ t.before) (lines_of more)))
      (sym (cut_next_lines all rest line more t.cut whole first begins));
}

pub nests_stops : (all rest line more : List Piece) (sections : List OpenSection) (t : NestsTo all rest sections)
    → lines_of rest ≡ line ∷ lines_of more → stray_in sections (kind_of line) ≡ true
    → extent_of (lines_of all) ≡ record { front = lines_of t.cut.front; fault = Some (Stray (place_of line)) }
nests_stops all rest line more sections t first stray =
    t.goes ∙ ap (λ lines. with_front (lines_of t.cut.front) (extent_after t.before lines)) first
    ∙ ap (with_front (lines_of t.cut.front)) (extent_stops t.before line (lines_of more) (stray_is line sections t.before t.are_open ∙ stray))
    ∙ ap (λ lines. record { front = lines; fault = Some (Stray (place_of line)) }) (append-nil (lines_of t.cut.front))

pub nests_ends : (all rest : List Piece) (sections : List OpenSection) (t : NestsTo all rest sections) → rest ≡ []
    → extent_of (lines_of all) ≡ record { front = lines_of t.cut.front; fault = unclosed (innermost sections) }
unfolding lines_of
nests_ends all rest sections t e =
    t.goes ∙ ap (λ l. with_front (lines_of t.cut.front) (extent_after t.before (lines_of l))) e
    ∙ ap (with_front (lines_of t.cut.front)) (extent_ends t.before)
    ∙ ap (λ lines. record { front = lines; fault = open_fault (opening_line 0 t.before) }) (append-nil (lines_of t.cut.front))
    ∙ ap (λ fault. record { front = lines_of t.cut.front; fault = fault }) (unclosed_is sections t.before t.are_open)
