-- The names and severities of the kinds of findings.
use Rattle.std.specs.Prelude.{ℕ, List, codes}
use Rattle.cx_base.specs.declared.id.Id.{Id}
use Rattle.cx_base.specs.declared.id.Id.TheVariants.{UninitVar, DeallocUse, DoubleFree, NullPointer, MismatchAllocDealloc, AutovarInvalidDeallocation, ArrayIndexOutOfBounds, PointerOutOfBounds, StringLiteralWrite, ConstWrite, ZeroDiv, ShiftNegative, ShiftTooManyBits, ShiftNegativeLhs, IntegerOverflow, InvalidFunctionArg, KnownConditionTrueFalse, NullPointerRedundantCheck, ZeroDivCond, ArrayIndexOutOfBoundsCond, IgnoredReturnValue, CtuNullPointer, SyntaxError, PreprocessorErrorDirective, UnitLimit, ReadFault, ValueFlowBailout, MissingInclude, MissingIncludeSystem, UnmatchedSuppression, MemLeak}
use Rattle.cx_base.specs.declared.id.Severity.{Severity}
use Rattle.cx_base.specs.declared.id.Severity.TheVariants.{Error, Warning, Style, Information}

abbrev pub severity_name : Severity → List ℕ
severity_name Error = codes "error"
severity_name Warning = codes "warning"
severity_name Style = codes "style"
severity_name Information = codes "information"

abbrev pub id_name : Id → List ℕ
id_name UninitVar = codes "uninitvar"
id_name DeallocUse = codes "deallocuse"
id_name DoubleFree = codes "doubleFree"
id_name NullPointer = codes "nullPointer"
id_name MismatchAllocDealloc = codes "mismatchAllocDealloc"
id_name AutovarInvalidDeallocation = codes "autovarInvalidDeallocation"
id_name ArrayIndexOutOfBounds = codes "arrayIndexOutOfBounds"
id_name PointerOutOfBounds = codes "pointerOutOfBounds"
id_name StringLiteralWrite = codes "stringLiteralWrite"
id_name ConstWrite = codes "constWrite"
id_name ZeroDiv = codes "zerodiv"
id_name ShiftNegative = codes "shiftNegative"
id_name ShiftTooManyBits = codes "shiftTooManyBits"
id_name ShiftNegativeLhs = codes "shiftNegativeLHS"
id_name IntegerOverflow = codes "integerOverflow"
id_name InvalidFunctionArg = codes "invalidFunctionArg"
id_name KnownConditionTrueFalse = codes "knownConditionTrueFalse"
id_name NullPointerRedundantCheck = codes "nullPointerRedundantCheck"
id_name ZeroDivCond = codes "zerodivcond"
id_name ArrayIndexOutOfBoundsCond = codes "arrayIndexOutOfBoundsCond"
id_name IgnoredReturnValue = codes "ignoredReturnValue"
id_name CtuNullPointer = codes "ctunullpointer"
id_name SyntaxError = codes "syntaxError"
id_name PreprocessorErrorDirective = codes "preprocessorErrorDirective"
id_name UnitLimit = codes "unitLimit"
id_name ReadFault = codes "readFault"
id_name ValueFlowBailout = codes "valueFlowBailout"
id_name MissingInclude = codes "missingInclude"
id_name MissingIncludeSystem = codes "missingIncludeSystem"
id_name UnmatchedSuppression = codes "unmatchedSuppression"
id_name MemLeak = codes "memleak"

abbrev pub id_severity : Id → Severity
id_severity UninitVar = Error
id_severity DeallocUse = Error
id_severity DoubleFree = Error
id_severity NullPointer = Error
id_severity MismatchAllocDealloc = Error
id_severity AutovarInvalidDeallocation = Error
id_severity ArrayIndexOutOfBounds = Error
id_severity PointerOutOfBounds = Error
id_severity StringLiteralWrite = Error
id_severity ConstWrite = Error
id_severity ZeroDiv = Error
id_severity ShiftNegative = Error
id_severity ShiftTooManyBits = Error
id_severity ShiftNegativeLhs = Error
id_severity IntegerOverflow = Error
id_severity InvalidFunctionArg = Error
id_severity KnownConditionTrueFalse = Style
id_severity NullPointerRedundantCheck = Warning
id_severity ZeroDivCond = Warning
id_severity ArrayIndexOutOfBoundsCond = Warning
id_severity IgnoredReturnValue = Warning
id_severity CtuNullPointer = Error
id_severity SyntaxError = Error
id_severity PreprocessorErrorDirective = Error
id_severity UnitLimit = Error
id_severity ReadFault = Error
id_severity ValueFlowBailout = Information
id_severity MissingInclude = Information
id_severity MissingIncludeSystem = Information
id_severity UnmatchedSuppression = Information
id_severity MemLeak = Error
