-- What is chosen of a unit is the same on two shelves that are alike for its files: each step on
-- one is a step on the other, with the marks of the files by the numbers there.
use Rattle.std.proofs.Common.{◌≡◌, ℕ, List, [], ◌∷◌, Bool, true, false, Option, Some, None, get_or, length, replicate, set, refl, sym, ap, subst, ◌∙◌}
use Rattle.std.specs.List.{AllByRecursion}
use Rattle.cx_base.specs.declared.place.Place.{Place}
use Rattle.cx_macro.specs.Macros.{Definition}
use Rattle.cx_lines.specs.Kinds.{kind_of}
use Rattle.cx_lines.specs.Lines.{lines_of}
use Rattle.cx_lines.specs.Nesting.{Line, extent_of, place_of}
use Rattle.cx_lines.specs.declared.kind.LineKind.{LineKind}
use Rattle.cx_lines.specs.declared.kind.LineKind.TheVariants.{Define, Undef, Error, Once, Passed, Bad}
use Rattle.cx_lines.specs.declared.nesting.NestingFault.{NestingFault}
use Rattle.cx_table.specs.NameTable.{with_entry}
use Rattle.cx_directive.specs.Defines.{defined_by}
use Rattle.cx_directive.specs.Operands.{name_of, operands}
use Rattle.cx_shelf.specs.declared.shelf.Shelf.{Shelf}
use Rattle.cx_shelf.specs.Searches.{found}
use Rattle.cx_shelf.specs.Shelves.{path_of, pieces_of}
use Rattle.cx_pre.specs.declared.config.Config.{Config}
use Rattle.cx_pre.specs.Choosing.{Comes, Does, Enters, IsChosen, after_define, after_directive, after_undef, alone, at_end, back_in, directive, directive_stops, ends, enters, extent_in, group_ends, include_depth, includes_nothing, is_chosen, nowhere, once_more, section, section_stops, text, text_stops, too_deep}
use Rattle.cx_pre.specs.Conditions.{Choice, Chooses, Decides, Decision, another, chosen, name_is, no_choice, no_condition, no_decision, no_name, no_value, none_left, not_replaced, this_one, value_is}
use Rattle.cx_pre.specs.Stages.{Answer, Outcome, Stage, answer_of, first_stage, stopped, through, with_macros}
use Rattle.cx_pre.specs.Starts.{file_macro, file_name, in_file}
use Rattle.cx_unit.specs.Units.{number_among}
use Rattle.cx_input.proofs.AlikeLaws.{AreAlike, IsOneFile, LeadsAlike, led_alike, lines_lead, none_found, paths_agree, pieces_agree, some_found}
use Rattle.cx_input.proofs.LineLaws.{held_after_section, held_after_text, held_from_part, held_in_front}
use Rattle.cx_input.proofs.MarkLaws.{AreMarked, none_marked, one_marked}

-- a stage with other marks
abbrev marked : List Bool → Stage → Stage
marked marks s = record s { once = marks }

abbrev outcome_marked : List Bool → Outcome → Outcome
outcome_marked marks (through s) = through (marked marks s)
outcome_marked marks (stopped missing fault) = stopped missing fault

abbrev choice_marked : List Bool → Choice → Choice
choice_marked marks (chosen s lines) = chosen (marked marks s) lines
choice_marked marks (no_choice fault) = no_choice fault

-- what a line decides, and which group is chosen, does not depend on the marks

decides_too : {s : Stage} {line : Line} {d : Decision} → Decides s line d → (marks : List Bool)
    → Decides (marked marks s) line d
decides_too (value_is a e h) marks = value_is a e h
decides_too (no_value a e h) marks = no_value a e h
decides_too (not_replaced a e) marks = not_replaced a e
decides_too (name_is e n) marks = name_is e n
decides_too (no_name e n) marks = no_name e n
decides_too (no_condition e) marks = no_condition e

chooses_too : {s : Stage} {line : Line} {rest : List Line} {c : Choice} → Chooses s line rest c
    → (marks : List Bool) → Chooses (marked marks s) line rest (choice_marked marks c)
chooses_too (this_one d) marks = this_one (decides_too d marks)
chooses_too (another part more d f c) marks =
    another part more (decides_too d marks) f (chooses_too c marks)
chooses_too (none_left d f) marks = none_left (decides_too d marks) f
chooses_too (no_decision d) marks = no_decision (decides_too d marks)

-- the marks stay, and the lines that are chosen are of those that there were
abbrev Stays : (Line → Type 0) → List Bool → Choice → Type 0
Stays P marks (chosen s lines) = (s.once ≡ marks) × AllByRecursion P lines
Stays P marks (no_choice fault) = Unit {0}

choice_stays : (P : Line → Type 0) {s : Stage} {line : Line} {rest : List Line} {c : Choice}
    → Chooses s line rest c → AllByRecursion P rest → Stays P s.once c
choice_stays P (this_one d) h = (refl, h)
choice_stays P {rest = rest} (another part more d f c) h =
    choice_stays P c (subst (AllByRecursion P) f (held_from_part P 0 rest h)).1
choice_stays P (none_left d f) h = (refl, tt)
choice_stays P (no_decision d) h = tt

answer_marked : (marks : List Bool) (o : Outcome)
    → answer_of (outcome_marked marks o) ≡ answer_of o
unfolding answer_of
answer_marked marks (through s) = refl
answer_marked marks (stopped missing fault) = refl

some_same : (o p : Outcome) → Some o ≡ Some p → o ≡ p
some_same o p e = cc

module _ (a b : Shelf) (Inside : List ℕ → Type 0) (alike : AreAlike a b Inside) where
  -- the marks on the two shelves behind an outcome
  abbrev Behind : Outcome → List Bool → Type 0
  Behind (through s) others = AreMarked a b Inside s.once others
  Behind (stopped missing fault) others = Unit {0}

  -- what comes on the one shelf comes on the other too
  abbrev ComesToo : ℕ → ℕ → Option NestingFault → Stage → List Line → Outcome → List Bool → Type 0
  ComesToo depth file fault s lines o marks =
      (others : List Bool)
      × Comes b depth file fault (marked marks s) lines (outcome_marked others o)
      × Behind o others

  abbrev DoesToo : ℕ → ℕ → Stage → Line → Outcome → List Bool → Type 0
  DoesToo depth file s line o marks =
      (others : List Bool) × Does b depth file (marked marks s) line (outcome_marked others o)
      × Behind o others

  -- a directive that neither includes nor asks

  abbrev AloneToo : LineKind → ℕ → Stage → Line → Outcome → List Bool → Type 0
  AloneToo kind file s line o marks =
      (others : List Bool)
      × (after_directive kind file (marked marks s) line ≡ Some (outcome_marked others o))
      × Behind o others

  module _ (n m : ℕ) (one : IsOneFile a b Inside n m) (s : Stage) (line : Line)
      (marks : List Bool) (k : AreMarked a b Inside s.once marks) where
    define_too : (at : Place) (d : Option (List ℕ × Definition))
        → (after_define (marked marks s) at d ≡ outcome_marked marks (after_define s at d))
        × Behind (after_define s at d) marks
    define_too at None = (refl, tt)
    define_too at (Some d) = (refl, k)

    undef_too : (at : Place) (name : Option (List ℕ))
        → (after_undef (marked marks s) at name ≡ outcome_marked marks (after_undef s at name))
        × Behind (after_undef s at name) marks
    undef_too at None = (refl, tt)
    undef_too at (Some name) = (refl, k)

    once_too : AreMarked a b Inside (set s.once n true) (set marks m true)
    once_too =
        subst (λ i. AreMarked a b Inside (set s.once i true) (set marks m true)) (sym one.here)
        (subst (λ i. AreMarked a b Inside (set s.once (number_among a one.path) true)
        (set marks i true)) (sym one.there)
        (one_marked a b Inside alike.shelved s.once marks one.path k one.inside))

    alone_too : (kind : LineKind) (o : Outcome) → after_directive kind n s line ≡ Some o
        → AloneToo kind m s line o marks
    unfolding after_directive
    alone_too Define o e =
        let d = define_too (place_of line) (defined_by (operands line)) in
        subst (λ p. AloneToo Define m s line p marks) (some_same _ o e)
        (marks, ap Some d.0, d.1)
    alone_too Undef o e =
        let d = undef_too (place_of line) (name_of (operands line)) in
        subst (λ p. AloneToo Undef m s line p marks) (some_same _ o e)
        (marks, ap Some d.0, d.1)
    alone_too Error o e =
        subst (λ p. AloneToo Error m s line p marks) (some_same _ o e) (marks, refl, tt)
    alone_too Once o e =
        subst (λ p. AloneToo Once m s line p marks) (some_same _ o e)
        (set marks m true, refl, once_too)
    alone_too Passed o e =
        subst (λ p. AloneToo Passed m s line p marks) (some_same _ o e) (marks, refl, k)
    alone_too Bad o e =
        subst (λ p. AloneToo Bad m s line p marks) (some_same _ o e) (marks, refl, tt)
    alone_too _ o e = absurd cc

  -- where lines end
  end_too : (depth m : ℕ) (fault : Option NestingFault) (s : Stage) (marks : List Bool)
      → AreMarked a b Inside s.once marks
      → ComesToo depth m fault s [] (at_end fault s) marks
  end_too depth m None s marks k = (marks, ends, k)
  end_too depth m (Some fault) s marks k = (marks, ends, tt)

  -- back in a file, and into one

  module _ (n m : ℕ) (one : IsOneFile a b Inside n m) where
    entered : (depth : ℕ) (s : Stage) (o : Outcome)
        → Comes b depth m (extent_in a n).fault (in_file a n s) (extent_in a n).front o
        → Enters b depth m s o
    entered depth s o c =
        let paths = paths_agree a b Inside alike n m one in
        let pieces = pieces_agree a b Inside alike n m one in
        subst (λ ps. Comes b depth m (extent_of (lines_of ps)).fault (in_file b m s)
        (extent_of (lines_of ps)).front o) pieces
        (subst (λ p. Comes b depth m (extent_in a n).fault
        (with_macros (with_entry file_name (file_macro p) s.macros) s)
        (extent_in a n).front o) paths c)

    front_leads : AllByRecursion (LeadsAlike a b Inside one.path) (extent_in a n).front
    front_leads =
        held_in_front (LeadsAlike a b Inside one.path) [] (lines_of (pieces_of a n))
        (lines_lead a b Inside alike n m one)

    back_too : (marks : List Bool) (inner : Outcome) → Behind inner marks
        → (outcome_marked marks (back_in a n inner) ≡ back_in b m (outcome_marked marks inner))
        × Behind (back_in a n inner) marks
    back_too marks (through s) k =
        let paths = paths_agree a b Inside alike n m one in (
          ap (λ p. through (with_macros (with_entry file_name (file_macro p) s.macros)
              (marked marks s))) paths,
          k,
        )
    back_too marks (stopped missing fault) k = (refl, tt)

    marks_agree : (marks others : List Bool) → AreMarked a b Inside marks others
        → get_or others m false ≡ get_or marks n false
    marks_agree marks others k =
        ap (λ j. get_or others j false) one.there ∙ sym (k.same one.path one.inside)
        ∙ sym (ap (λ i. get_or marks i false) one.here)

  mutual
    comes_too : {depth n : ℕ} {fault : Option NestingFault} {s : Stage} {lines : List Line}
        {o : Outcome} → Comes a depth n fault s lines o → (m : ℕ)
        → (one : IsOneFile a b Inside n m)
        → AllByRecursion (LeadsAlike a b Inside one.path) lines
        → (marks : List Bool) → AreMarked a b Inside s.once marks
        → ComesToo depth m fault s lines o marks
    comes_too {depth} {fault = fault} {s} ends m one h marks k = end_too depth m fault s marks k
    comes_too {lines = lines} (text ts laid begins x c) m one h marks k =
        let r = comes_too c m one
        (held_after_text (LeadsAlike a b Inside one.path) lines h) marks k in
        (r.0, text ts laid begins x r.1, r.2)
    comes_too (text_stops refusal begins x) m one h marks k =
        (marks, text_stops refusal begins x, tt)
    comes_too (directive next d c) m one h marks k =
        let did = does_too d m one h.0 marks k in
        let r = comes_too c m one h.1 did.0 did.2 in
        (r.0, directive (marked did.0 next) did.1 r.1, r.2)
    comes_too (directive_stops missing refusal d) m one h marks k =
        let did = does_too d m one h.0 marks k in
        (did.0, directive_stops missing refusal did.1, tt)
    comes_too (section next lines opens choice c) m one h marks k =
        let stays = choice_stays (LeadsAlike a b Inside one.path) choice h.1 in
        let r = comes_too c m one stays.1 marks
        (subst (λ before. AreMarked a b Inside before marks) (sym stays.0) k) in
        (r.0, section (marked marks next) lines opens (chooses_too choice marks) r.1, r.2)
    comes_too (section_stops refusal opens choice) m one h marks k =
        (marks, section_stops refusal opens (chooses_too choice marks), tt)
    comes_too (group_ends {line = line} {rest = rest} e c) m one h marks k =
        let r = comes_too c m one
        (held_after_section (LeadsAlike a b Inside one.path) 0 (line ∷ rest) h) marks k in
        (r.0, group_ends e r.1, r.2)

    does_too : {depth n : ℕ} {s : Stage} {line : Line} {o : Outcome} → Does a depth n s line o
        → (m : ℕ) → (one : IsOneFile a b Inside n m) → LeadsAlike a b Inside one.path line
        → (marks : List Bool) → AreMarked a b Inside s.once marks
        → DoesToo depth m s line o marks
    does_too {n = n} {s} {line} {o} (alone x) m one h marks k =
        let r = alone_too n m one s line marks k (kind_of line) o x in (r.0, alone r.1, r.2)
    does_too (includes_nothing e x) m one h marks k = (marks, includes_nothing e x, tt)
    does_too (too_deep target e x) m one h marks k = (marks, too_deep target e x, tt)
    does_too {n = n} {line = line} (nowhere target e x f) m one h marks k = (
      marks,
      nowhere target e x (none_found a b Inside (found a (path_of a n) target)
          (found b (path_of b m) target) (led_alike a b Inside n m one line target h e x) f),
      k,
    )
    does_too {n = n} {s} {line} (once_more target other e x f t) m one h marks k =
        let q = some_found a b Inside (found a (path_of a n) target)
        (found b (path_of b m) target) (led_alike a b Inside n m one line target h e x) other f in (
          marks,
          once_more target q.0 e x q.1 (marks_agree other q.0 q.2 s.once marks k ∙ t),
          k,
        )
    does_too {n = n} {s} {line} (enters {depth = depth} target other inner e x f t c back) m one h marks k =
        let q = some_found a b Inside (found a (path_of a n) target)
        (found b (path_of b m) target) (led_alike a b Inside n m one line target h e x) other f in
        let r = comes_too c q.0 q.2 (front_leads other q.0 q.2) marks k in
        let came = entered other q.0 q.2 depth (marked marks s) (outcome_marked r.0 inner) r.1 in
        let returned = back_too n m one r.0 inner r.2 in (
          r.0,
          enters target q.0 (outcome_marked r.0 inner) e x q.1
              (marks_agree other q.0 q.2 s.once marks k ∙ t) came
              (ap (outcome_marked r.0) back ∙ returned.0),
          subst (λ o. Behind o r.0) (sym back) returned.1,
        )

  -- what is chosen of a file on the one shelf is chosen of it on the other
  pub chosen_too : (n m : ℕ) → IsOneFile a b Inside n m → (config : Config) (answer : Answer)
      → IsChosen a n config answer → IsChosen b m config answer
  chosen_too n m one config answer (is_chosen macros outcome begun c) =
      let marks = replicate (length b.files) false in
      let r = comes_too c m one (front_leads n m one) marks
      (none_marked a b Inside alike.shelved) in
      let came = entered n m one include_depth (first_stage b macros) (outcome_marked r.0 outcome)
      r.1 in
      subst (IsChosen b m config) (answer_marked r.0 outcome)
      (is_chosen macros (outcome_marked r.0 outcome) begun came)
