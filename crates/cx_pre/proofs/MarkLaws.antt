-- What was marked by a `pragma once` stays marked.
use Rattle.std.proofs.Common.{◌≡◌, ℕ, ◌<◌, ◌≤◌, ◌&&◌, Bool, true, false, not, cond, List, [], ◌∷◌, Option, Some, None, refl, sym, ◌∙◌, ap, subst, length, get_or, set, ⊎_elim}
use Rattle.std.proofs.lemmas.Bool.{cases_eq, cases_lt}
use Rattle.std.proofs.lemmas.List.{get_or-set_other, get_or-set_same, get_or_past, length-set}
use Rattle.cx_base.specs.declared.place.Place.{Place}
use Rattle.cx_lex.specs.declared.piece.Piece.{Piece}
use Rattle.cx_macro.specs.Macros.{Definition}
use Rattle.cx_lines.specs.Kinds.{ends_group, kind_of}
use Rattle.cx_lines.specs.Lines.{lines_of}
use Rattle.cx_lines.specs.Nesting.{extent_after, extent_of, goes_after, group_line, is_stray, place_of, with_line}
use Rattle.cx_lines.specs.declared.kind.LineKind.{LineKind}
use Rattle.cx_lines.specs.declared.kind.LineKind.TheVariants.{Define, Undef, Error, Once, Passed, Bad}
use Rattle.cx_lines.specs.declared.nesting.NestingFault.{NestingFault}
use Rattle.cx_lines.specs.declared.nesting.NestingFault.TheVariants.{Stray}
use Rattle.cx_directive.specs.Defines.{defined_by}
use Rattle.cx_directive.specs.Operands.{name_of, operands}
use Rattle.cx_shelf.specs.declared.shelf.Shelf.{Shelf}
use Rattle.cx_pre.specs.Choosing.{Comes, Does, Enters, after_define, after_directive, after_undef, alone, at_end, back_in, directive, directive_stops, ends, enters, group_ends, includes_nothing, nowhere, once_more, section, section_stops, text, text_stops, too_deep}
use Rattle.cx_pre.specs.Conditions.{Choice, Chooses, another, chosen, no_decision, none_left, this_one}
use Rattle.cx_shelf.specs.Shelves.{pieces_of}
use Rattle.cx_pre.specs.Stages.{Outcome, Stage, is_once, stopped, through, with_laid, with_once}
use Rattle.cx_pre.proofs.KindLaws.{is_a_directive, sort_of}
use Rattle.cx_pre.proofs.OneLaws.{line_sort, rule_fits, rule_sort}

-- of as many files each that was marked is marked
pub record Keeps (before after : List Bool) : Type 0 where
  pub count : length after ≡ length before
  pub marks : (file : ℕ) → get_or before file false ≡ true → get_or after file false ≡ true

keeps_all : (marks : List Bool) → Keeps marks marks
keeps_all marks = record { count = refl; marks = λ file h. h }

keeps_on : (a b c : List Bool) → Keeps a b → Keeps b c → Keeps a c
keeps_on a b c h k = record { count = k.count ∙ h.count; marks = λ file m. k.marks file (h.marks file m) }

marked_on : (marks : List Bool) (i file : ℕ) → get_or marks file false ≡ true → get_or (set marks i true) file false ≡ true
marked_on marks i file h =
    ⊎_elim
    (λ (same : file ≡ i).
    ⊎_elim
    (λ (lt : i < length marks). ap (λ n. get_or (set marks i true) n false) same ∙ get_or-set_same marks i true false lt)
    (λ (le : length marks ≤ i). let out = get_or_past marks i false le in let at = ap (λ n. get_or marks n false) same in absurd cc)
    (cases_lt i (length marks)))
    (λ (other : file ≡ i → ⊥). get_or-set_other marks i file true false other ∙ h)
    (cases_eq file i)

keeps_marked : (marks : List Bool) (i : ℕ) → Keeps marks (set marks i true)
keeps_marked marks i = record { count = length-set marks i true; marks = λ file h. marked_on marks i file h }

keeps_to : (marks : List Bool) (t u : Stage) → Keeps marks t.once → through t ≡ through u → Keeps marks u.once
keeps_to marks t u k e = let same : t ≡ u = cc in subst (λ (x : Stage). Keeps marks x.once) same k

define_keeps : (s : Stage) (place : Place) (d : Option (List ℕ × Definition)) (t : Stage) → after_define s place d ≡ through t → Keeps s.once t.once
define_keeps s place None t e = absurd cc
define_keeps s place (Some d) t e = keeps_to s.once _ t (keeps_all s.once) e

undef_keeps : (s : Stage) (place : Place) (name : Option (List ℕ)) (t : Stage) → after_undef s place name ≡ through t → Keeps s.once t.once
undef_keeps s place None t e = absurd cc
undef_keeps s place (Some name) t e = keeps_to s.once _ t (keeps_all s.once) e

some_same : (o p : Outcome) → Some o ≡ Some p → o ≡ p
some_same o p e = cc

alone_keeps : (kind : LineKind) (file : ℕ) (s : Stage) (line : List Piece) (t : Stage) → after_directive kind file s line ≡ Some (through t) → Keeps s.once t.once
unfolding after_directive
alone_keeps Define file s line t e = define_keeps s (place_of line) (defined_by (operands line)) t (some_same _ _ e)
alone_keeps Undef file s line t e = undef_keeps s (place_of line) (name_of (operands line)) t (some_same _ _ e)
alone_keeps Error file s line t e = absurd cc
alone_keeps Once file s line t e = keeps_to s.once (with_once file s) t (keeps_marked s.once file) (some_same _ _ e)
alone_keeps Passed file s line t e = keeps_to s.once s t (keeps_all s.once) (some_same _ _ e)
alone_keeps Bad file s line t e = absurd cc
alone_keeps _ file s line t e = absurd cc

chooses_keeps : {s : Stage} {line : List Piece} {rest : List (List Piece)} {c : Choice} → Chooses s line rest c → (t : Stage) (lines : List (List Piece)) → c ≡ chosen t lines → Keeps s.once t.once
chooses_keeps {s} (this_one {laid = laid} h) t lines e = let same : with_laid laid s ≡ t = cc in keeps_to s.once (with_laid laid s) t (keeps_all s.once) (ap through same)
chooses_keeps (another part more h f c) t lines e = chooses_keeps c t lines e
chooses_keeps {s} (none_left {laid = laid} h f) t lines e = let same : with_laid laid s ≡ t = cc in keeps_to s.once (with_laid laid s) t (keeps_all s.once) (ap through same)
chooses_keeps (no_decision h) t lines e = absurd cc

end_keeps : (fault : Option NestingFault) (s t : Stage) → at_end fault s ≡ through t → Keeps s.once t.once
end_keeps None s t e = keeps_to s.once s t (keeps_all s.once) e
end_keeps (Some fault) s t e = absurd cc

back_keeps : (shelf : Shelf) (file : ℕ) (marks : List Bool) (inner : Outcome) (t : Stage) → ((u : Stage) → inner ≡ through u → Keeps marks u.once) → back_in shelf file inner ≡ through t
    → Keeps marks t.once
back_keeps shelf file marks (through u) t h e = keeps_to marks _ t (h u refl) e
back_keeps shelf file marks (stopped missing fault) t h e = absurd cc

mutual
  comes_keeps : {shelf : Shelf} {depth file : ℕ} {fault : Option NestingFault} {s : Stage} {lines : List (List Piece)} {o : Outcome} → Comes shelf depth file fault s lines o
      → (t : Stage) → o ≡ through t → Keeps s.once t.once
  comes_keeps {fault = fault} {s} ends t e = end_keeps fault s t e
  comes_keeps (text ts laid b x c) t e = comes_keeps c t e
  comes_keeps (text_stops refusal b x) t e = absurd cc
  comes_keeps {s = s} (directive next d c) t e = keeps_on s.once next.once t.once (does_keeps d next refl) (comes_keeps c t e)
  comes_keeps (directive_stops missing refusal d) t e = absurd cc
  comes_keeps {s = s} (section next lines k h c) t e = keeps_on s.once next.once t.once (chooses_keeps h next lines refl) (comes_keeps c t e)
  comes_keeps (section_stops refusal k h) t e = absurd cc
  comes_keeps (group_ends k c) t e = comes_keeps c t e

  does_keeps : {shelf : Shelf} {depth file : ℕ} {s : Stage} {line : List Piece} {o : Outcome} → Does shelf depth file s line o → (t : Stage) → o ≡ through t → Keeps s.once t.once
  does_keeps {file = file} {s} {line} (alone x) t e = alone_keeps (kind_of line) file s line t (x ∙ ap Some e)
  does_keeps (includes_nothing k x) t e = absurd cc
  does_keeps (too_deep target k x) t e = absurd cc
  does_keeps {s = s} (nowhere target k x f) t e = keeps_to s.once _ t (keeps_all s.once) e
  does_keeps {s = s} (once_more target other k x f m) t e = keeps_to s.once s t (keeps_all s.once) e
  does_keeps {shelf} {file = file} {s} (enters target other inner k x f m c b) t e = back_keeps shelf file s.once inner t (λ u h. comes_keeps c u h) (sym b ∙ e)

-- where lines are gone through, each file that was marked stays so
pub marks_stay : (shelf : Shelf) (depth file : ℕ) (fault : Option NestingFault) (s t : Stage) (lines : List (List Piece)) → Comes shelf depth file fault s lines (through t)
    → (length t.once ≡ length s.once) × ((other : ℕ) → is_once other s ≡ true → is_once other t ≡ true)
marks_stay shelf depth file fault s t lines c = let k = comes_keeps c t refl in (k.count, k.marks)

-- the same of a directive
pub marks_stay_behind : (shelf : Shelf) (depth file : ℕ) (s t : Stage) (line : List Piece) → Does shelf depth file s line (through t)
    → (length t.once ≡ length s.once) × ((other : ℕ) → is_once other s ≡ true → is_once other t ≡ true)
marks_stay_behind shelf depth file s t line d = let k = does_keeps d t refl in (k.count, k.marks)

-- a `pragma once` marks the file in which it stands
once_alone : (kind : LineKind) (file : ℕ) (s : Stage) (line : List Piece) (t : Stage) → kind ≡ Once → after_directive kind file s line ≡ Some (through t) → file < length s.once
    → is_once file t ≡ true
unfolding after_directive
once_alone Once file s line t k e lt =
    let same : with_once file s ≡ t = cc in subst (λ x. is_once file x ≡ true) same (get_or-set_same s.once file true false lt)
once_alone _ file s line t k e lt = absurd cc

once_does : {shelf : Shelf} {depth file : ℕ} {s : Stage} {line : List Piece} {o : Outcome} → Does shelf depth file s line o → (t : Stage) → o ≡ through t → kind_of line ≡ Once
    → file < length s.once → is_once file t ≡ true
once_does {file = file} {s} {line} (alone x) t e k lt = once_alone (kind_of line) file s line t k (x ∙ ap Some e) lt
once_does (includes_nothing k' x) t e k lt = absurd cc
once_does (too_deep target k' x) t e k lt = absurd cc
once_does (nowhere target k' x f) t e k lt = absurd cc
once_does (once_more target other k' x f m) t e k lt = absurd cc
once_does (enters target other inner k' x f m c b) t e k lt = absurd cc

once_sort : (line : List Piece) (rest lines : List (List Piece)) → lines ≡ line ∷ rest → kind_of line ≡ Once → line_sort lines ≡ Some is_a_directive
unfolding line_sort
once_sort line rest lines e k = ap line_sort e ∙ ap (λ x. Some (sort_of x)) k

once_comes : {shelf : Shelf} {depth file : ℕ} {fault : Option NestingFault} {s : Stage} {lines : List (List Piece)} {o : Outcome} → Comes shelf depth file fault s lines o
    → (line : List Piece) (rest : List (List Piece)) (t : Stage) → lines ≡ line ∷ rest → o ≡ through t → kind_of line ≡ Once → file < length s.once → is_once file t ≡ true
unfolding rule_sort
once_comes {file = file} {s} (directive {line = line'} next d c) line rest t l e k lt =
    let same : line' ≡ line = cc in
    let here = once_does d next refl (ap kind_of same ∙ k) lt in
    let kept = comes_keeps c t e in
    kept.marks file here
once_comes (directive_stops missing refusal d) line rest t l e k lt = absurd cc
once_comes {lines = lines} c line rest t l e k lt = let fits = rule_fits c in let sort = once_sort line rest lines l k in absurd cc

once_front : (line : List Piece) (rest : List (List Piece)) → kind_of line ≡ Once → (more : List (List Piece)) × ((extent_of (line ∷ rest)).front ≡ line ∷ more)
unfolding extent_after is_stray
once_front line rest k = at (kind_of line) k
  where
    at : (kind : LineKind) → kind ≡ Once → (more : List (List Piece))
        × ((cond (ends_group kind && not (goes_after kind (group_line 0 []))) (record { front = []; fault = Some (Stray (place_of line)) }) (with_line line (extent_after (line ∷ []) rest))).front ≡ line ∷ more)
    at Once e = ((extent_after (line ∷ []) rest).front, refl)
    at _ e = absurd cc

-- a file whose first line is a `pragma once` is marked once it is gone through
pub once_is_marked : (shelf : Shelf) (depth file : ℕ) (s t : Stage) (line : List Piece) (rest : List (List Piece)) → lines_of (pieces_of shelf file) ≡ line ∷ rest
    → kind_of line ≡ Once → file < length s.once → Enters shelf depth file s (through t) → is_once file t ≡ true
once_is_marked shelf depth file s t line rest l k lt c =
    let front = once_front line rest k in
    once_comes c line front.0 t (ap (λ x. (extent_of x).front) l ∙ front.1) refl k lt
