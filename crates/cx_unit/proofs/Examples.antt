-- The definitions, computed on small units.
use Rattle.std.proofs.Common.{◌≡◌, ℕ, List, [], ◌∷◌, Option, Some, None, true, false, codes, refl}
use Rattle.cx_base.specs.declared.answers.Answer.{Answer}
use Rattle.cx_base.specs.declared.answers.Answer.TheVariants.{Present, Unreadable, TooLarge}
use Rattle.cx_base.specs.declared.answers.SeenEntry.{SeenEntry}
use Rattle.cx_base.specs.declared.define.Define.{Define}
use Rattle.cx_base.specs.declared.finding.Finding.{Finding}
use Rattle.cx_base.specs.declared.finding.Word.TheVariants.{Text}
use Rattle.cx_base.specs.declared.id.Id.TheVariants.{UninitVar, ZeroDiv, IntegerOverflow}
use Rattle.cx_base.specs.declared.place.Place.{Place}
use Rattle.cx_asking.specs.declared.text_fault.TextFault.{TextFault}
use Rattle.cx_asking.specs.declared.text_fault.TextFault.TheVariants.{UnclosedComment, TooLong}
use Rattle.cx_asking.specs.Wishes.{look_up}
use Rattle.cx_directive.specs.declared.include.IncludeName.{IncludeName}
use Rattle.cx_finding.specs.Distinct.{same}
use Rattle.cx_finding.specs.Kinds.{error_directive, finding, limit_passed, missing_include, read_fault, syntax_error}
use Rattle.cx_first.specs.declared.evaluation.Undefined.TheVariants.{Uninitialized, ZeroDivisor, Overflow}
use Rattle.cx_first.specs.declared.nodes.Node.{Node}
use Rattle.cx_macro.specs.declared.fault.MacroFault.TheVariants.{BadPaste, TooManyTokens}
use Rattle.cx_options.specs.declared.answer.Options.{Options}
use Rattle.cx_pre.specs.declared.fault.PreFault.TheVariants.{BadDirective, Deep, ErrorDirective, Macro}
use Rattle.cx_unit.specs.declared.limits.UnitLimits.{UnitLimits}
use Rattle.cx_unit.specs.declared.told.Told.TheVariants.{Dropped, Findings}
use Rattle.cx_unit.specs.Closures.{closure_fault, nothing, read_faults, top_of}
use Rattle.cx_unit.specs.Faults.{fault_finding, macro_finding, text_finding}
use Rattle.cx_unit.specs.First.{finding_of}
use Rattle.cx_unit.specs.Names.{config_name, joined, progress_line}
use Rattle.cx_unit.specs.Told.{findings_of, told_of_fault}

abbrev at : ℕ → ℕ → Place
at line column = record { file = 0; line = line; column = column }

-- ---- the names of configurations, and their progress lines

abbrev define : List ℕ → List ℕ → Define
define name value = record { name = name; value = value }

-- the options of `-D` with these macros and `-U` with these names
abbrev words : List Define → List (List ℕ) → Options
words defines undefined = record {
  paths = [];
  defines = defines;
  undefined = undefined;
  folders = [];
  quiet = false;
  warning = false;
  style = false;
  information = false;
  missing_include = false;
  lists = [];
  error_exitcode = 0;
  force = false;
  max_configs = None;
}

no_names : config_name (words [] []) [] ≡ []
unfolding joined
no_names = refl

one_name : config_name (words [] []) (codes "A" ∷ []) ≡ codes "A"
unfolding joined
one_name = refl

two_names : config_name (words [] []) (codes "A" ∷ codes "B" ∷ []) ≡ codes "A;B"
unfolding joined
two_names = refl

-- `-DX=1 -DY=2 -UY`
macros_in_front : config_name (words (define (codes "X") (codes "1") ∷ define (codes "Y") (codes "2") ∷ []) (codes "Y" ∷ [])) (codes "A" ∷ [])
    ≡ codes "X=1;A"
unfolding joined
macros_in_front = refl

plain_line : progress_line (codes "s/a.c") [] ≡ codes "Checking s/a.c ..."
plain_line = refl

named_line : progress_line (codes "a.c") (codes "A;B") ≡ codes "Checking a.c: A;B..."
named_line = refl

-- ---- faults

comment_fault : text_finding (UnclosedComment (at 3 4)) ≡ syntax_error (codes "unclosed comment") (at 3 4)
unfolding text_finding
comment_fault = refl

piece_fault : text_finding (TooLong (at 3 4)) ≡ limit_passed (codes "pieces") 1048576 1048577 (at 3 4)
unfolding text_finding
piece_fault = refl

depth_fault : fault_finding (Deep (at 1 10)) ≡ limit_passed (codes "include depth") 64 65 (at 1 10)
unfolding fault_finding
depth_fault = refl

paste_fault : fault_finding (Macro (BadPaste (at 5 6))) ≡ syntax_error (codes "bad paste") (at 5 6)
unfolding fault_finding macro_finding
paste_fault = refl

token_fault : fault_finding (Macro (TooManyTokens (at 5 6) 262150)) ≡ limit_passed (codes "tokens") 262144 262150 (at 5 6)
unfolding fault_finding macro_finding
token_fault = refl

-- ---- the files of a unit

abbrev asked : List ℕ → Answer → SeenEntry
asked path answer = record { path = path; answer = answer }

-- `a.c` has six bytes, and the comment of `c.h`, two bytes, has no end
abbrev seen : List SeenEntry
seen =
    asked (codes "a.c") (Present (codes "int a;")) ∷ asked (codes "b.h") Unreadable ∷ asked (codes "c.h") (Present (codes "/*"))
    ∷ asked (codes "d.h") TooLarge ∷ []

abbrev open_comment : TextFault
open_comment = UnclosedComment (record { file = 2; line = 1; column = 1 })

abbrev faults : List (Option TextFault)
faults = None ∷ None ∷ Some open_comment ∷ None ∷ []

-- so many files, and so many bytes of all of them
abbrev limits : ℕ → ℕ → UnitLimits
limits files bytes = record { read = 9; files = files; bytes = bytes }

-- a file that was not asked counts as absent
unread : read_faults seen 0 (codes "a.c" ∷ codes "b.h" ∷ codes "e.h" ∷ []) ≡ read_fault (codes "b.h") 0 ∷ []
unfolding look_up
unread = refl

no_fault : closure_fault (limits 1 6) seen faults 0 nothing (codes "a.c" ∷ codes "b.h" ∷ codes "e.h" ∷ []) ≡ None
unfolding closure_fault look_up
no_fault = refl

one_file_more : closure_fault (limits 1 6) seen faults 0 nothing (codes "a.c" ∷ codes "c.h" ∷ []) ≡ Some (limit_passed (codes "files") 1 2 (top_of 0))
unfolding closure_fault look_up
one_file_more = refl

bytes_more : closure_fault (limits 2 7) seen faults 0 nothing (codes "a.c" ∷ codes "c.h" ∷ []) ≡ Some (limit_passed (codes "closure bytes") 7 8 (top_of 0))
unfolding closure_fault look_up
bytes_more = refl

comment_of_a_header : closure_fault (limits 2 8) seen faults 0 nothing (codes "a.c" ∷ codes "c.h" ∷ []) ≡ Some (text_finding open_comment)
unfolding closure_fault look_up text_finding
comment_of_a_header = refl

-- the first fault alone: that of `d.h`, which counts as no file
large_header : closure_fault (limits 1 6) seen faults 0 nothing (codes "a.c" ∷ codes "d.h" ∷ codes "c.h" ∷ [])
    ≡ Some (limit_passed (codes "file bytes") 8 9 (top_of 3))
unfolding closure_fault look_up
large_header = refl

-- ---- configurations

abbrev missing : List IncludeName
missing = record { name = codes "h.h"; quoted = true; at = at 1 10 } ∷ []

error_is_dropped : told_of_fault missing (ErrorDirective (at 2 1) (codes "stop")) ≡ Dropped (error_directive (codes "stop") (at 2 1))
unfolding told_of_fault fault_finding
error_is_dropped = refl

fault_behind_includes : told_of_fault missing (BadDirective (at 2 1))
    ≡ Findings (missing_include (codes "h.h") true (at 1 10) ∷ syntax_error (codes "bad directive") (at 2 1) ∷ [])
unfolding told_of_fault fault_finding
fault_behind_includes = refl

abbrev division : ℕ → Finding
division line = finding ZeroDiv (at line 1) []

abbrev error_at : ℕ → Finding
error_at line = error_directive (codes "stop") (at line 1)

each_once : findings_of (Findings (division 1 ∷ division 2 ∷ []) ∷ Findings (division 3 ∷ division 2 ∷ []) ∷ [])
    ≡ division 1 ∷ division 2 ∷ division 3 ∷ []
unfolding findings_of same
each_once = refl

error_beside_others : findings_of (Dropped (error_at 1) ∷ Findings (division 2 ∷ []) ∷ Dropped (error_at 3) ∷ []) ≡ division 2 ∷ []
unfolding findings_of same
error_beside_others = refl

error_beside_nothing : findings_of (Dropped (error_at 1) ∷ Findings [] ∷ []) ≡ []
unfolding findings_of same
error_beside_nothing = refl

only_errors : findings_of (Dropped (error_at 1) ∷ Dropped (error_at 2) ∷ []) ≡ error_at 1 ∷ []
unfolding findings_of
only_errors = refl

-- ---- nodes

abbrev node : List ℕ → Node
node text = record { place = at 4 9; text = text }

no_value : finding_of Uninitialized (node (codes "x")) ≡ finding UninitVar (at 4 9) (Text (codes "x") ∷ [])
no_value = refl

by_zero : finding_of ZeroDivisor (node (codes "x/0")) ≡ finding ZeroDiv (at 4 9) []
by_zero = refl

too_great : finding_of Overflow (node (codes "x+1")) ≡ finding IntegerOverflow (at 4 9) (Text (codes "x+1") ∷ [])
too_great = refl
