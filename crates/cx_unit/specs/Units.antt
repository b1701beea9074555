-- What is told of a unit.
use Rattle.std.specs.Prelude.{◌≡◌, ℕ, Contains, List, [], ◌∷◌, Option, Some, None, bytes_eq, map}
use Rattle.std.specs.List.{AllZip, position_or_len}
use Rattle.cx_base.specs.declared.answers.SeenEntry.{SeenEntry}
use Rattle.cx_base.specs.declared.define.Define.{Define}
use Rattle.cx_base.specs.declared.finding.Finding.{Finding}
use Rattle.cx_options.specs.declared.answer.Options.{Options}
use Rattle.cx_asking.specs.declared.text_fault.TextFault.{TextFault}
use Rattle.cx_asking.specs.Asking.{text_of}
use Rattle.cx_asking.specs.Includes.{files_of}
use Rattle.cx_configs.specs.Configurations.{configurations}
use Rattle.cx_pre.specs.declared.config.Config.{Config}
use Rattle.cx_shelf.specs.declared.shelf.Shelf.{Shelf}
use Rattle.cx_unit.specs.declared.limits.UnitLimits.{UnitLimits}
use Rattle.cx_unit.specs.declared.report.UnitReport.{UnitReport}
use Rattle.cx_unit.specs.declared.told.Told.{Told}
use Rattle.cx_unit.specs.Closures.{closure_fault, nothing, number_in, read_faults}
use Rattle.cx_unit.specs.Names.{config_name, progress_line}
use Rattle.cx_unit.specs.Told.{IsForeign, IsTold, findings_of}

-- What units are told by: the options, the macros of the library, each path that was asked with its
-- answer, the files that have pieces, and of each answer why its text has none.
pub record Ground : Type 0 where
  pub limits : UnitLimits
  pub options : Options
  pub macros : List Define
  pub seen : List SeenEntry
  pub shelf : Shelf
  pub faults : List (Option TextFault)

-- the files of a unit, by their paths
abbrev pub unit_files : Ground → List ℕ → List (List ℕ)
unit_files g path = files_of (text_of g.shelf.files) g.shelf.folders g.seen (path ∷ [])

-- the files that could not be read
abbrev pub unreadable_files : Ground → List ℕ → List Finding
unreadable_files g path = read_faults g.seen (number_in g.seen path) (unit_files g path)

-- the first fault of the files
abbrev pub files_fault : Ground → List ℕ → Option Finding
files_fault g path =
    closure_fault g.limits g.seen g.faults (number_in g.seen path) nothing (unit_files g path)

-- the number of the file with a path on a shelf; behind all where it is not there
abbrev pub number_among : Shelf → List ℕ → ℕ
number_among shelf path = position_or_len (λ f. bytes_eq f.path path) shelf.files

-- the number of a unit's file on the shelf
abbrev pub shelf_number : Ground → List ℕ → ℕ
shelf_number g path = number_among g.shelf path

abbrev pub configurations_of : Ground → List ℕ → List Config
configurations_of g path = configurations g.shelf (shelf_number g path) g.options g.macros

-- a unit with one progress line
abbrev pub plain_report : List ℕ → List Finding → UnitReport
plain_report path findings =
    record { progress = progress_line path [] ∷ []; findings = findings }

-- what is told of a unit whose configurations are told so
abbrev pub configured_report : Ground → List ℕ → List Told → UnitReport
configured_report g path tolds = record {
  progress =
      map (λ c. progress_line path (config_name g.options c.names)) (configurations_of g path);
  findings = findings_of tolds;
}

-- What is told of the unit with a path. Where files could not be read, one finding for each. Else,
-- where a file has a fault, the first. Else what is told of its configurations.
pub data IsUnitReport (g : Ground) (path : List ℕ) : UnitReport → Type 0 where
  unread : (found : Finding) (more : List Finding) → unreadable_files g path ≡ found ∷ more
      → IsUnitReport g path (plain_report path (found ∷ more))
  faulty : (found : Finding) → unreadable_files g path ≡ [] → files_fault g path ≡ Some found
      → IsUnitReport g path (plain_report path (found ∷ []))
  configured : (tolds : List Told) → unreadable_files g path ≡ [] → files_fault g path ≡ None
      → AllZip (IsTold g.shelf (shelf_number g path)) (configurations_of g path) tolds
      → IsUnitReport g path (configured_report g path tolds)

-- the tokens of one of these configurations are no first text
abbrev pub HasForeign : Shelf → ℕ → List Config → Type 0
HasForeign shelf unit configs =
    (config : Config) × Contains configs config × IsForeign shelf unit config

-- the tokens of a configuration of a unit are no first text
pub record IsForeignUnit (g : Ground) (path : List ℕ) : Type 0 where
  pub read : unreadable_files g path ≡ []
  pub sound : files_fault g path ≡ None
  pub foreign : HasForeign g.shelf (shelf_number g path) (configurations_of g path)
