-- The definitions of a report, computed.
use Rattle.std.proofs.Common.{◌≡◌, ℕ, Bool, true, false, List, [], ◌∷◌, None, codes, refl}
use Rattle.std.specs.Fmt.{digits}
use Rattle.cx_base.specs.declared.finding.Finding.{Finding}
use Rattle.cx_base.specs.declared.id.Id.TheVariants.{ZeroDiv}
use Rattle.cx_finding.specs.Distinct.{same}
use Rattle.cx_finding.specs.Kinds.{finding, missing_include}
use Rattle.cx_finding.specs.Texts.{message, word_at}
use Rattle.cx_options.specs.declared.answer.Options.{Options}
use Rattle.cx_asking.specs.declared.list_fault.FileFault.TheVariants.{Absent, BadLine}
use Rattle.cx_unit.specs.declared.report.UnitReport.{UnitReport}
use Rattle.cx_run.specs.declared.report.Cause.TheVariants.{Done}
use Rattle.cx_run.specs.declared.report.ReportPiece.{ReportPiece}
use Rattle.cx_run.specs.declared.report.SinkName.{SinkName}
use Rattle.cx_run.specs.declared.report.SinkName.TheVariants.{Out, Err}
use Rattle.cx_run.specs.Findings.{exit_status}
use Rattle.cx_run.specs.Reports.{done_report, list_text, unit_pieces, units_finding}
use Rattle.cx_run.specs.Written.{bytes_to}

-- options where these things are switched on
abbrev options : Bool → Bool → ℕ → Options
options quiet includes status = record {
  paths = [];
  defines = [];
  undefined = [];
  folders = [];
  quiet = quiet;
  warning = false;
  style = false;
  information = false;
  missing_include = includes;
  lists = [];
  error_exitcode = status;
  force = false;
  max_configs = None;
}

abbrev files : List (List ℕ)
files = codes "a.c" ∷ codes "b.c" ∷ []

-- a division by zero in the first file, and an include of it that leads nowhere
abbrev division : Finding
division = finding ZeroDiv (record { file = 0; line = 3; column = 15 }) []

abbrev missing : Finding
missing = missing_include (codes "n.h") true (record { file = 0; line = 1; column = 10 })

abbrev unit : List ℕ → List Finding → UnitReport
unit line findings = record { progress = line ∷ []; findings = findings }

abbrev units : List UnitReport
units = unit (codes "Checking a.c ...") (missing ∷ division ∷ []) ∷ unit (codes "Checking b.c ...") (division ∷ []) ∷ []

abbrev piece : SinkName → List ℕ → ReportPiece
piece sink bytes = record { sink = sink; bytes = bytes }

abbrev division_line : List ℕ
division_line = codes "a.c:3:15: error: Division by zero. [zerodiv]\n"

-- what the second unit finds again is not told again; a missing include is not switched on
told_once : done_report (options false false 2) files [] units
    ≡ record {
      cause = Done;
      status = 2;
      pieces =
          piece Out (codes "Checking a.c ...\n") ∷ piece Err division_line ∷ piece Out (codes "Checking b.c ...\n") ∷ [];
    }
unfolding unit_pieces exit_status same message word_at digits
told_once = refl

-- without progress lines, and with missing includes
quiet : unit_pieces (options true true 0) files [] units
    ≡ piece Err (codes "a.c:1:10: information: Include file: \"n.h\" not found. [missingInclude]\n") ∷ piece Err division_line ∷ []
unfolding unit_pieces same message word_at digits
quiet = refl

-- information alone is no reason for the status of `--error-exitcode=`, and neither is what is not told
information : exit_status (options false true 2) (missing ∷ []) ≡ 0
unfolding exit_status
information = refl

error : exit_status (options false true 2) (missing ∷ division ∷ []) ≡ 2
unfolding exit_status
error = refl

-- as many units as are checked, and one more
no_more : units_finding 4096 4096 ≡ []
unfolding units_finding
no_more = refl

one_more : done_report (options false false 7) files (units_finding 4096 4097) []
    ≡ record {
      cause = Done;
      status = 7;
      pieces = piece Err (codes "nofile:0:0: error: Limit reached: units 4096, counted 4097. [unitLimit]\n") ∷ [];
    }
unfolding units_finding unit_pieces exit_status same message word_at digits
one_more = refl

absent : list_text Absent (codes "./l") ≡ codes "file \"./l\" was not found."
unfolding list_text
absent = refl

bad_line : list_text (BadLine 2) (codes "l") ≡ codes "file \"l\" was refused at line 2."
unfolding list_text digits
bad_line = refl

-- each sink has its own pieces
out : bytes_to Out (piece Out (codes "a") ∷ piece Err (codes "b") ∷ piece Out (codes "c") ∷ []) ≡ codes "ac"
out = refl

err : bytes_to Err (piece Out (codes "a") ∷ piece Err (codes "b") ∷ piece Out (codes "c") ∷ []) ≡ codes "b"
err = refl
