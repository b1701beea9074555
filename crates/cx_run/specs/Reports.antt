-- The written report: a cause, a status, and the pieces that go to the two sinks.
use Rattle.std.specs.Prelude.{◌≡◌, ◌≢◌, ℕ, ◌+◌, List, [], ◌∷◌, ◌++◌, Contains, None, Some, Ok, Err, codes, decimal, filter, if◌then◌else◌, length, map, nat_lt, slice_get, take}
use Rattle.std.specs.List.{AllZip, flat_map}
use Rattle.cx_base.specs.declared.answers.SeenEntry.{SeenEntry}
use Rattle.cx_base.specs.declared.finding.Finding.{Finding}
use Rattle.cx_base.specs.declared.place.Place.{Place}
use Rattle.cx_options.specs.declared.answer.Options.{Options}
use Rattle.cx_options.specs.declared.fault.WordKind.{WordKind}
use Rattle.cx_options.specs.Command.{command}
use Rattle.cx_options.specs.Texts.{refusal_text}
use Rattle.cx_library.specs.BuiltIn.{built_in}
use Rattle.cx_library.specs.Library.{macros_of}
use Rattle.cx_finding.specs.Kinds.{limit_passed}
use Rattle.cx_finding.specs.Texts.{finding_line}
use Rattle.cx_asking.specs.declared.list_fault.FileFault.{FileFault}
use Rattle.cx_asking.specs.declared.list_fault.FileFault.TheVariants as file_fault
use Rattle.cx_asking.specs.declared.list_fault.ListFault.{ListFault}
use Rattle.cx_asking.specs.Asking.{AreFaults, AreShelved}
use Rattle.cx_asking.specs.Wishes.{list_fault, units_of}
use Rattle.cx_unit.specs.declared.report.UnitReport.{UnitReport}
use Rattle.cx_unit.specs.Units.{Ground, IsForeignUnit, IsUnitReport}
use Rattle.cx_run.specs.declared.limits.RunLimits.{RunLimits}
use Rattle.cx_run.specs.declared.report.Cause.{Cause}
use Rattle.cx_run.specs.declared.report.Cause.TheVariants.{Done, BadWords, ListRefused, NoInput, NotBuilt}
use Rattle.cx_run.specs.declared.report.SinkName.TheVariants.{Out, Err as ErrSink}
use Rattle.cx_run.specs.declared.report.ReportPiece.{ReportPiece}
use Rattle.cx_run.specs.declared.report.Report.{Report}
use Rattle.cx_run.specs.Findings.{exit_status, is_enabled, new_findings, with_findings}

abbrev pub progress_piece : List ℕ → ReportPiece
progress_piece line = record { sink = Out; bytes = line ++ codes "\n" }

abbrev pub finding_piece : List (List ℕ) → Finding → ReportPiece
finding_piece files found = record { sink = ErrSink; bytes = finding_line files found }

-- the progress lines of a unit; with `-q` there are none
abbrev pub progress_pieces : Options → UnitReport → List ReportPiece
progress_pieces options unit = if options.quiet then [] else map progress_piece unit.progress

-- the lines of those findings that are switched on
abbrev pub finding_pieces : Options → List (List ℕ) → List Finding → List ReportPiece
finding_pieces options files findings =
    map (finding_piece files) (filter (is_enabled options) findings)

-- the pieces of units, where some findings were told before: of each its progress lines, and then its
-- findings that are new
unfoldable pub unit_pieces
    : Options → List (List ℕ) → List Finding → List UnitReport → List ReportPiece
unit_pieces options files told [] = []
unit_pieces options files told (unit ∷ units) =
    progress_pieces options unit
    ++ finding_pieces options files (new_findings told unit.findings)
    ++ unit_pieces options files (with_findings told unit.findings) units

-- a place in no file
abbrev pub nowhere : Place
nowhere = record { file = 4294967295; line = 0; column = 0 }

-- the finding where there are more units than are checked
unfoldable pub units_finding : ℕ → ℕ → List Finding
units_finding most units =
    if nat_lt most units then limit_passed (codes "units") most (most + 1) nowhere ∷ [] else []

abbrev pub all_findings : List Finding → List UnitReport → List Finding
all_findings first units = with_findings first (flat_map (λ unit. unit.findings) units)

-- The report where units are checked: these findings stand first.
abbrev pub done_report : Options → List (List ℕ) → List Finding → List UnitReport → Report
done_report options files first units = record {
  cause = Done;
  status = exit_status options (all_findings first units);
  pieces = finding_pieces options files first ++ unit_pieces options files first units;
}

-- the one piece of a refusal
abbrev pub refusal : List ℕ → List ReportPiece
refusal text =
    record { sink = ErrSink; bytes = codes "cppcheck: error: " ++ text ++ codes "\n" } ∷ []

abbrev pub refusal_report : Cause → List ℕ → Report
refusal_report cause text = record { cause = cause; status = 1; pieces = refusal text }

-- the text of a refused list
unfoldable pub list_text : FileFault → List ℕ → List ℕ
list_text file_fault.Absent path = codes "file \"" ++ path ++ codes "\" was not found."
list_text file_fault.Unreadable path = codes "file \"" ++ path ++ codes "\" could not be read."
list_text file_fault.TooLarge path = codes "file \"" ++ path ++ codes "\" is too large."
list_text (file_fault.BadLine line) path =
    codes "file \"" ++ path ++ codes "\" was refused at line " ++ decimal line ++ codes "."

abbrev pub list_report : ListFault → Report
list_report f = refusal_report (ListRefused f.word f.fault) (list_text f.fault f.path)

-- the word of a number
abbrev pub WordAt : List (List ℕ) → ℕ → List ℕ → Type 0
WordAt words number word = slice_get words number ≡ Some word

abbrev pub paths_of : List SeenEntry → List (List ℕ)
paths_of seen = map (λ e. e.path) seen

-- What the units are told by: the options, the built-in library, what was seen, the folders of `-I`,
-- the files that have pieces, and why others have none.
pub record IsGround (limits : RunLimits) (options : Options) (seen : List SeenEntry) (g : Ground)
    : Type 0 where
  pub limits_are : g.limits ≡ limits.unit
  pub options_are : g.options ≡ options
  pub macros_are : g.macros ≡ macros_of built_in
  pub seen_is : g.seen ≡ seen
  pub folders_are : g.shelf.folders ≡ options.folders
  pub shelved : AreShelved 0 seen g.shelf.files
  pub faulty : AreFaults 0 seen g.faults

-- the units that are checked
abbrev pub checked_units : RunLimits → Options → List SeenEntry → List (List ℕ)
checked_units limits options seen = take limits.units (units_of limits.asking seen options)

-- the findings that stand first
abbrev pub first_findings : RunLimits → Options → List SeenEntry → List Finding
first_findings limits options seen =
    units_finding limits.units (length (units_of limits.asking seen options))

-- the tokens of a configuration of one of these units are no first text
abbrev pub IsForeignAmong : Ground → List (List ℕ) → Type 0
IsForeignAmong g units = (path : List ℕ) × Contains units path × IsForeignUnit g path

-- the report of options whose lists are not refused, and which have units
pub data IsChecked (limits : RunLimits) (options : Options) (seen : List SeenEntry) : Report → Type 0
  where
    is_foreign : (g : Ground) → IsGround limits options seen g
        → IsForeignAmong g (checked_units limits options seen)
        → IsChecked limits options seen (refusal_report NotBuilt (codes "not built yet."))
    is_done : (g : Ground) (units : List UnitReport) → IsGround limits options seen g
        → AllZip (IsUnitReport g) (checked_units limits options seen) units
        → IsChecked limits options seen
        (done_report options (paths_of seen) (first_findings limits options seen) units)

-- The report of the options and of what was seen: that of the first refused list; or that there is
-- nothing to check; or that of the units.
pub data IsOptionsReport (limits : RunLimits) (options : Options) (seen : List SeenEntry)
    : Report → Type 0 where
  is_refused_list : (f : ListFault) → list_fault seen options.lists ≡ Some f
      → IsOptionsReport limits options seen (list_report f)
  is_empty : list_fault seen options.lists ≡ None → units_of limits.asking seen options ≡ []
      → IsOptionsReport limits options seen
      (refusal_report NoInput (codes "could not find any file to check."))
  is_checked : (report : Report) → list_fault seen options.lists ≡ None
      → units_of limits.asking seen options ≢ [] → IsChecked limits options seen report
      → IsOptionsReport limits options seen report

-- The report of the words and of what was seen: that of the first refused word, or that of the
-- options.
pub data IsReport (limits : RunLimits) (words : List (List ℕ)) (seen : List SeenEntry)
    : Report → Type 0 where
  is_bad_word : (number : ℕ) (kind : WordKind) (word : List ℕ)
      → command words ≡ Err (record { word = number; kind = kind }) → WordAt words number word
      → IsReport limits words seen (refusal_report (BadWords number kind) (refusal_text kind word))
  is_read : (options : Options) (report : Report) → command words ≡ Ok options
      → IsOptionsReport limits options seen report → IsReport limits words seen report
