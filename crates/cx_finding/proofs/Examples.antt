-- The definitions at work.
use Rattle.std.proofs.Common.{◌≡◌, ℕ, true, false, List, [], ◌∷◌, codes, pos, negsuc, refl}
use Rattle.std.specs.Fmt.{digits}
use Rattle.cx_base.specs.declared.finding.Finding.{Finding}
use Rattle.cx_base.specs.declared.finding.Word.{Word}
use Rattle.cx_base.specs.declared.finding.Word.TheVariants.{Text, Number}
use Rattle.cx_base.specs.declared.id.Id.{Id}
use Rattle.cx_base.specs.declared.id.Id.TheVariants as id_is
use Rattle.cx_base.specs.declared.id.Severity.TheVariants.{Error}
use Rattle.cx_base.specs.declared.place.Place.{Place}
use Rattle.cx_finding.specs.Distinct.{distinct, same, with_finding}
use Rattle.cx_finding.specs.Kinds.{error_directive, finding, limit_passed, missing_include, read_fault, syntax_error}
use Rattle.cx_finding.specs.Texts.{finding_line, message, word_at}

abbrev at : ℕ → ℕ → Place
at line column = record { file = 0; line = line; column = column }

abbrev line_of : Finding → List ℕ
line_of = finding_line (codes "a.c" ∷ [])

-- a line of each kind that has a message
uninitialized : line_of (finding id_is.UninitVar (at 3 8) (Text (codes "x") ∷ [])) ≡ codes "a.c:3:8: error: Uninitialized variable: x [uninitvar]\n"
unfolding message word_at digits
uninitialized = refl

division : line_of (finding id_is.ZeroDiv (at 3 11) []) ≡ codes "a.c:3:11: error: Division by zero. [zerodiv]\n"
unfolding message digits
division = refl

overflow : line_of (finding id_is.IntegerOverflow (at 2 19) (Text (codes "2147483647+1") ∷ []))
    ≡ codes "a.c:2:19: error: Signed integer overflow for expression '2147483647+1'. [integerOverflow]\n"
unfolding message word_at digits
overflow = refl

unread_text : line_of (syntax_error (codes "unclosed comment") (at 1 2)) ≡ codes "a.c:1:2: error: syntax error: unclosed comment [syntaxError]\n"
unfolding message word_at digits
unread_text = refl

directive : line_of (error_directive (codes "stop") (at 1 1)) ≡ codes "a.c:1:1: error: #error stop [preprocessorErrorDirective]\n"
unfolding message word_at digits
directive = refl

limit : line_of (limit_passed (codes "file bytes") 4194304 4194305 (at 1 1))
    ≡ codes "a.c:1:1: error: Limit reached: file bytes 4194304, counted 4194305. [unitLimit]\n"
unfolding message word_at digits
limit = refl

fault : line_of (read_fault (codes "a.c") 0) ≡ codes "a.c:0:0: error: File could not be read: a.c [readFault]\n"
unfolding message word_at digits
fault = refl

quoted : line_of (missing_include (codes "x.h") true (at 7 10)) ≡ codes "a.c:7:10: information: Include file: \"x.h\" not found. [missingInclude]\n"
unfolding message word_at digits
quoted = refl

in_brackets : line_of (missing_include [] false (at 7 10)) ≡ codes "a.c:7:10: information: Include file: <> not found. [missingIncludeSystem]\n"
unfolding message word_at digits
in_brackets = refl

-- a kind that has none
no_message : line_of (finding id_is.MemLeak (at 1 1) (Text (codes "x") ∷ [])) ≡ codes "a.c:1:1: error:  [memleak]\n"
unfolding message digits
no_message = refl

-- a place whose file is not among the paths
no_file : finding_line [] (finding id_is.ZeroDiv (at 3 11) []) ≡ codes "nofile:0:0: error: Division by zero. [zerodiv]\n"
unfolding message
no_file = refl

other_file : finding_line (codes "a.c" ∷ codes "b.h" ∷ []) (finding id_is.ZeroDiv (record { file = 1; line = 3; column = 11 }) [])
    ≡ codes "b.h:3:11: error: Division by zero. [zerodiv]\n"
unfolding message digits
other_file = refl

-- words
below_zero : word_at (Number (negsuc 9) ∷ []) 0 ≡ codes "-10"
unfolding word_at digits
below_zero = refl

no_word : word_at (Text (codes "x") ∷ []) 1 ≡ []
unfolding word_at
no_word = refl

-- `same` in each component
some_finding : Id → ℕ → ℕ → ℕ → List Place → List Word → Finding
some_finding id file line column others words =
    record { id = id; severity = Error; place = record { file = file; line = line; column = column }; others = others; words = words }

all_same : same (some_finding id_is.ZeroDiv 1 2 3 (at 4 5 ∷ []) (Text (codes "x") ∷ Number (pos 6) ∷ [])) (some_finding id_is.ZeroDiv 1 2 3 (at 4 5 ∷ []) (Text (codes "x") ∷ Number (pos 6) ∷ [])) ≡ true
unfolding same some_finding
all_same = refl

other_kind : same (some_finding id_is.ZeroDiv 1 2 3 (at 4 5 ∷ []) (Text (codes "x") ∷ Number (pos 6) ∷ [])) (some_finding id_is.UninitVar 1 2 3 (at 4 5 ∷ []) (Text (codes "x") ∷ Number (pos 6) ∷ [])) ≡ false
unfolding same some_finding
other_kind = refl

file_of_another : same (some_finding id_is.ZeroDiv 1 2 3 (at 4 5 ∷ []) (Text (codes "x") ∷ Number (pos 6) ∷ [])) (some_finding id_is.ZeroDiv 0 2 3 (at 4 5 ∷ []) (Text (codes "x") ∷ Number (pos 6) ∷ [])) ≡ false
unfolding same some_finding
file_of_another = refl

other_line : same (some_finding id_is.ZeroDiv 1 2 3 (at 4 5 ∷ []) (Text (codes "x") ∷ Number (pos 6) ∷ [])) (some_finding id_is.ZeroDiv 1 3 3 (at 4 5 ∷ []) (Text (codes "x") ∷ Number (pos 6) ∷ [])) ≡ false
unfolding same some_finding
other_line = refl

other_column : same (some_finding id_is.ZeroDiv 1 2 3 (at 4 5 ∷ []) (Text (codes "x") ∷ Number (pos 6) ∷ [])) (some_finding id_is.ZeroDiv 1 2 4 (at 4 5 ∷ []) (Text (codes "x") ∷ Number (pos 6) ∷ [])) ≡ false
unfolding same some_finding
other_column = refl

no_other_place : same (some_finding id_is.ZeroDiv 1 2 3 (at 4 5 ∷ []) (Text (codes "x") ∷ Number (pos 6) ∷ [])) (some_finding id_is.ZeroDiv 1 2 3 [] (Text (codes "x") ∷ Number (pos 6) ∷ [])) ≡ false
unfolding same some_finding
no_other_place = refl

place_among_others : same (some_finding id_is.ZeroDiv 1 2 3 (at 4 5 ∷ []) (Text (codes "x") ∷ Number (pos 6) ∷ [])) (some_finding id_is.ZeroDiv 1 2 3 (at 4 6 ∷ []) (Text (codes "x") ∷ Number (pos 6) ∷ [])) ≡ false
unfolding same some_finding
place_among_others = refl

other_text : same (some_finding id_is.ZeroDiv 1 2 3 (at 4 5 ∷ []) (Text (codes "x") ∷ Number (pos 6) ∷ [])) (some_finding id_is.ZeroDiv 1 2 3 (at 4 5 ∷ []) (Text (codes "y") ∷ Number (pos 6) ∷ [])) ≡ false
unfolding same some_finding
other_text = refl

other_number : same (some_finding id_is.ZeroDiv 1 2 3 (at 4 5 ∷ []) (Text (codes "x") ∷ Number (pos 6) ∷ [])) (some_finding id_is.ZeroDiv 1 2 3 (at 4 5 ∷ []) (Text (codes "x") ∷ Number (pos 7) ∷ [])) ≡ false
unfolding same some_finding
other_number = refl

number_as_text : same (some_finding id_is.ZeroDiv 1 2 3 (at 4 5 ∷ []) (Text (codes "x") ∷ Number (pos 6) ∷ [])) (some_finding id_is.ZeroDiv 1 2 3 (at 4 5 ∷ []) (Text (codes "x") ∷ Text (codes "6") ∷ [])) ≡ false
unfolding same some_finding
number_as_text = refl

one_word_less : same (some_finding id_is.ZeroDiv 1 2 3 (at 4 5 ∷ []) (Text (codes "x") ∷ Number (pos 6) ∷ [])) (some_finding id_is.ZeroDiv 1 2 3 (at 4 5 ∷ []) (Text (codes "x") ∷ [])) ≡ false
unfolding same some_finding
one_word_less = refl

-- the severity comes from the kind, and is not looked at
other_severity : same (finding id_is.MissingInclude (at 1 2) []) (record { id = id_is.MissingInclude; severity = Error; place = at 1 2; others = []; words = [] }) ≡ true
unfolding same
other_severity = refl

abbrev division_at : ℕ → Finding
division_at line = finding id_is.ZeroDiv (at line 1) []

-- each once, where it first stands
once : distinct (division_at 2 ∷ division_at 1 ∷ division_at 2 ∷ division_at 3 ∷ division_at 1 ∷ []) ≡ division_at 2 ∷ division_at 1 ∷ division_at 3 ∷ []
unfolding same
once = refl

none : distinct [] ≡ []
none = refl

one_more : with_finding (division_at 1 ∷ []) (division_at 2) ≡ division_at 1 ∷ division_at 2 ∷ []
unfolding same
one_more = refl

there_already : with_finding (division_at 1 ∷ division_at 2 ∷ []) (division_at 1) ≡ division_at 1 ∷ division_at 2 ∷ []
unfolding same
there_already = refl
