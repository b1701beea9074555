-- Findings, each once.
use Rattle.std.specs.Prelude.{ℕ, List, [], Bool, false, ◌&&◌, ◌==◌, bytes_eq}
use Rattle.std.specs.Ordering.{int_eq}
use Rattle.std.specs.Cmp.Lexicographic.{pointwise}
use Rattle.indexmap.specs.IndexSet.{insert_all, insert_key}
use Rattle.cx_base.specs.declared.finding.Finding.{Finding}
use Rattle.cx_base.specs.declared.finding.Word.{Word}
use Rattle.cx_base.specs.declared.finding.Word.TheVariants.{Text, Number}
use Rattle.cx_base.specs.declared.id.Id.{Id}
use Rattle.cx_base.specs.declared.id.Id.TheVariants as id
use Rattle.cx_base.specs.declared.place.Place.{Place}

-- the number of a kind
abbrev pub number_of : Id → ℕ
number_of id.UninitVar = 1
number_of id.DeallocUse = 2
number_of id.DoubleFree = 3
number_of id.NullPointer = 4
number_of id.MismatchAllocDealloc = 5
number_of id.AutovarInvalidDeallocation = 6
number_of id.ArrayIndexOutOfBounds = 7
number_of id.PointerOutOfBounds = 8
number_of id.StringLiteralWrite = 9
number_of id.ConstWrite = 10
number_of id.ZeroDiv = 11
number_of id.ShiftNegative = 12
number_of id.ShiftTooManyBits = 13
number_of id.ShiftNegativeLhs = 14
number_of id.IntegerOverflow = 15
number_of id.InvalidFunctionArg = 16
number_of id.KnownConditionTrueFalse = 17
number_of id.NullPointerRedundantCheck = 18
number_of id.ZeroDivCond = 19
number_of id.ArrayIndexOutOfBoundsCond = 20
number_of id.IgnoredReturnValue = 21
number_of id.CtuNullPointer = 22
number_of id.SyntaxError = 23
number_of id.PreprocessorErrorDirective = 24
number_of id.UnitLimit = 25
number_of id.ReadFault = 26
number_of id.ValueFlowBailout = 27
number_of id.MissingInclude = 28
number_of id.MissingIncludeSystem = 29
number_of id.UnmatchedSuppression = 30
number_of id.MemLeak = 31

abbrev pub same_id : Id → Id → Bool
same_id some other = number_of some == number_of other

abbrev pub same_place : Place → Place → Bool
same_place some other =
    (some.file == other.file) && (some.line == other.line) && (some.column == other.column)

abbrev pub same_word : Word → Word → Bool
same_word (Text text) (Text other) = bytes_eq text other
same_word (Number number) (Number other) = int_eq number other
same_word (Text text) (Number number) = false
same_word (Number number) (Text text) = false

-- two findings are told once where their kinds, places and words are the same
unfoldable pub same : Finding → Finding → Bool
same some other =
    same_id some.id other.id && same_place some.place other.place
    && pointwise same_place some.others other.others && pointwise same_word some.words other.words

-- findings with one more, unless it is there
abbrev pub with_finding : List Finding → Finding → List Finding
with_finding found f = insert_key same found f

-- findings in order, each where it first stands
abbrev pub distinct : List Finding → List Finding
distinct findings = insert_all same [] findings
