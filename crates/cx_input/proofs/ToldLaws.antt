-- What is told of a unit is the same in both grounds.
use Rattle.std.proofs.Common.{◌≡◌, ℕ, List, [], ◌∷◌, All, Bool, true, false, Contains, None, cond, filter, map, refl, sym, ap, subst, ◌∙◌}
use Rattle.std.specs.List.{AllByRecursion, AllZip}
use Rattle.std.specs.Option.{option_or}
use Rattle.std.proofs.lemmas.List.Elements.{All-contains_itself, All-head, All-tail}
use Rattle.cx_asking.specs.Wishes.{answer_in, is_unreadable}
use Rattle.cx_finding.specs.Kinds.{read_fault}
use Rattle.cx_pre.specs.declared.config.Config.{Config}
use Rattle.cx_shelf.specs.declared.shelf.Shelf.{Shelf}
use Rattle.cx_unit.specs.declared.closure_fault.Counted.{Counted}
use Rattle.cx_unit.specs.declared.limits.UnitLimits.{UnitLimits}
use Rattle.cx_unit.specs.declared.report.UnitReport.{UnitReport}
use Rattle.cx_unit.specs.declared.told.Told.{Told}
use Rattle.cx_unit.specs.Closures.{closure_fault, file_fault, nothing, number_in, read_faults, with_file}
use Rattle.cx_unit.specs.Told.{IsForeign, IsTold, findings_of, of_fault, of_text}
use Rattle.cx_unit.specs.Names.{config_name, progress_line}
use Rattle.cx_configs.specs.Configurations.{configurations}
use Rattle.cx_unit.specs.Units.{Ground, HasForeign, IsForeignUnit, IsUnitReport, configurations_of, configured, configured_report, faulty, files_fault, shelf_number, unit_files, unread, unreadable_files}
use Rattle.cx_input.specs.Inputs.{IsSameFile, IsSameInput, IsShelfOfAnswers, fault_in}
use Rattle.cx_input.proofs.AlikeLaws.{AreAlike, IsOneFile}
use Rattle.cx_input.proofs.ChoiceLaws.{chosen_too}
use Rattle.cx_input.proofs.CleanLaws.{clean}
use Rattle.cx_input.proofs.ClosureLaws.{same_configurations}
use Rattle.cx_input.proofs.FoundLaws.{Inside, shelves_alike}
use Rattle.cx_input.proofs.InputLaws.{same_file, same_files, unit_inside}

-- ---- configurations told alike

module _ (a b : Shelf) (Inside : List ℕ → Type 0) (alike : AreAlike a b Inside) (n m : ℕ)
    (one : IsOneFile a b Inside n m) where
  told_too : (config : Config) (told : Told) → IsTold a n config told → IsTold b m config told
  told_too config _ (of_fault answer fault c e) =
      of_fault answer fault (chosen_too a b Inside alike n m one config answer c) e
  told_too config _ (of_text answer tokens source found c e t f) =
      of_text answer tokens source found (chosen_too a b Inside alike n m one config answer c) e t f

  foreign_too : (config : Config) → IsForeign a n config → IsForeign b m config
  foreign_too config f = record {
    answer = f.answer;
    chosen = chosen_too a b Inside alike n m one config f.answer f.chosen;
    tokens = f.tokens;
    is = f.is;
    foreign = f.foreign;
  }

  all_told_too : (configs : List Config) (tolds : List Told) → AllZip (IsTold a n) configs tolds
      → AllZip (IsTold b m) configs tolds
  all_told_too [] [] all = tt
  all_told_too [] (t ∷ tolds) all = absurd all
  all_told_too (c ∷ configs) [] all = absurd all
  all_told_too (c ∷ configs) (t ∷ tolds) all =
      (told_too c t all.0, all_told_too configs tolds all.1)

-- ---- faults of files

module _ (g h : Ground) where
  -- what is told of files that could not be read
  read_alike : (unit : ℕ) (files : List (List ℕ)) → AllByRecursion (IsSameFile g h) files
      → read_faults g.seen unit files ≡ read_faults h.seen unit files
  read_alike unit [] all = refl
  read_alike unit (file ∷ files) all =
      let rest = read_alike unit files all.1 in
      by (is_unreadable (answer_in g.seen file)) rest
      ∙ ap (λ answer. map (λ path. read_fault path unit)
      (cond (is_unreadable answer) (file ∷ filter (λ path. is_unreadable (answer_in h.seen path)) files)
      (filter (λ path. is_unreadable (answer_in h.seen path)) files))) all.0.answer
    where
      by : (c : Bool) → read_faults g.seen unit files ≡ read_faults h.seen unit files
          → map (λ path. read_fault path unit)
          (cond c (file ∷ filter (λ path. is_unreadable (answer_in g.seen path)) files)
          (filter (λ path. is_unreadable (answer_in g.seen path)) files))
          ≡ map (λ path. read_fault path unit)
          (cond c (file ∷ filter (λ path. is_unreadable (answer_in h.seen path)) files)
          (filter (λ path. is_unreadable (answer_in h.seen path)) files))
      by true e = ap (λ fs. read_fault file unit ∷ fs) e
      by false e = e

  -- the first fault of files
  fault_alike : (limits : UnitLimits) (unit : ℕ) (before : Counted) (files : List (List ℕ))
      → AllByRecursion (IsSameFile g h) files
      → closure_fault limits g.seen g.faults unit before files
      ≡ closure_fault limits h.seen h.faults unit before files
  unfolding closure_fault
  fault_alike limits unit before [] all = refl
  fault_alike limits unit before (file ∷ files) all =
      let one = all.0 in
      ap (λ rest. option_or (file_fault limits unit (number_in g.seen file) before (fault_in g file)
      (answer_in g.seen file)) rest)
      (fault_alike limits unit (with_file (answer_in g.seen file) before) files all.1)
      ∙ (λ i. option_or (file_fault limits unit (one.number i) before (one.fault i) (one.answer i))
      (closure_fault limits h.seen h.faults unit (with_file (one.answer i) before) files))

all_by_recursion : (P : List ℕ → Type 0) (all files : List (List ℕ))
    → ((file : List ℕ) → Contains all file → P file) → All (Contains all) files → AllByRecursion P files
all_by_recursion P all [] f inside = tt
all_by_recursion P all (file ∷ files) f inside = (
  f file (All-head (Contains all) file files inside),
  all_by_recursion P all files f (All-tail (Contains all) file files inside),
)

module _ (g h : Ground) (path : List ℕ) (same : IsSameInput g h path) where
  files_alike : AllByRecursion (IsSameFile g h) (unit_files g path)
  files_alike = all_by_recursion (IsSameFile g h) (unit_files g path) (unit_files g path)
      (same_file g h path same) (All-contains_itself (unit_files g path))

  unit_alike : IsSameFile g h path
  unit_alike = same_file g h path same path (unit_inside g path)

  pub unreadable_alike : unreadable_files g path ≡ unreadable_files h path
  unreadable_alike =
      read_alike g h (number_in g.seen path) (unit_files g path) files_alike
      ∙ (λ i. read_faults h.seen (unit_alike.number i) (same_files g h path same i))

  pub files_fault_alike : files_fault g path ≡ files_fault h path
  files_fault_alike =
      fault_alike g h g.limits (number_in g.seen path) nothing (unit_files g path) files_alike
      ∙ (λ i. closure_fault (same.limits i) h.seen h.faults (unit_alike.number i) nothing
      (same_files g h path same i))

  module _ (of_g : IsShelfOfAnswers g) (of_h : IsShelfOfAnswers h)
      (read : unreadable_files g path ≡ []) (sound : files_fault g path ≡ None) where
    alike : AreAlike g.shelf h.shelf (Inside g h path same of_g of_h (clean g path read sound))
    alike = shelves_alike g h path same of_g of_h (clean g path read sound)

    one : IsOneFile g.shelf h.shelf (Inside g h path same of_g of_h (clean g path read sound))
        (shelf_number g path) (shelf_number h path)
    one = record { path = path; inside = unit_inside g path; here = refl; there = refl }

    configurations_alike : configurations_of g path ≡ configurations_of h path
    configurations_alike =
        same_configurations g.shelf h.shelf _ alike (shelf_number g path) (shelf_number h path) one
        g.options g.macros
        ∙ (λ i. configurations h.shelf (shelf_number h path) (same.options i) (same.macros i))

    told_there : (tolds : List Told)
        → AllZip (IsTold g.shelf (shelf_number g path)) (configurations_of g path) tolds
        → AllZip (IsTold h.shelf (shelf_number h path)) (configurations_of h path) tolds
    told_there tolds all =
        subst (λ cs. AllZip (IsTold h.shelf (shelf_number h path)) cs tolds) configurations_alike
        (all_told_too g.shelf h.shelf _ alike (shelf_number g path) (shelf_number h path) one
        (configurations_of g path) tolds all)

    report_alike : (tolds : List Told) → configured_report g path tolds ≡ configured_report h path tolds
    report_alike tolds = λ i. record {
      progress =
          map (λ c. progress_line path (config_name (same.options i) c.names)) (configurations_alike i);
      findings = findings_of tolds;
    }

    foreign_there : HasForeign g.shelf (shelf_number g path) (configurations_of g path)
        → HasForeign h.shelf (shelf_number h path) (configurations_of h path)
    foreign_there f = (
      f.0,
      subst (λ cs. Contains cs f.0) configurations_alike f.1,
      foreign_too g.shelf h.shelf _ alike (shelf_number g path) (shelf_number h path) one f.0 f.2,
    )

  pub told_by_input : IsShelfOfAnswers g → IsShelfOfAnswers h → (report : UnitReport)
      → IsUnitReport g path report → IsUnitReport h path report
  told_by_input of_g of_h _ (unread found more e) = unread found more (sym unreadable_alike ∙ e)
  told_by_input of_g of_h _ (faulty found e f) =
      faulty found (sym unreadable_alike ∙ e) (sym files_fault_alike ∙ f)
  told_by_input of_g of_h _ (configured tolds e f all) =
      subst (IsUnitReport h path) (sym (report_alike of_g of_h e f tolds))
      (configured tolds (sym unreadable_alike ∙ e) (sym files_fault_alike ∙ f)
      (told_there of_g of_h e f tolds all))

  pub foreign_by_input : IsShelfOfAnswers g → IsShelfOfAnswers h → IsForeignUnit g path
      → IsForeignUnit h path
  foreign_by_input of_g of_h f = record {
    read = sym unreadable_alike ∙ f.read;
    sound = sym files_fault_alike ∙ f.sound;
    foreign = foreign_there of_g of_h f.read f.sound f.foreign;
  }
