-- What is told where a text does not read.
use Rattle.std.specs.Prelude.{◌+◌, codes}
use Rattle.cx_base.specs.declared.finding.Finding.{Finding}
use Rattle.cx_asking.specs.declared.text_fault.TextFault.{TextFault}
use Rattle.cx_asking.specs.declared.text_fault.TextFault.TheVariants.{UnclosedComment, TooLong}
use Rattle.cx_finding.specs.Kinds.{error_directive, limit_passed, syntax_error}
use Rattle.cx_lex.specs.Lexing.{piece_limit}
use Rattle.cx_macro.specs.declared.fault.MacroFault.{MacroFault}
use Rattle.cx_macro.specs.declared.fault.MacroFault.TheVariants as macro_fault
use Rattle.cx_macro.specs.Expansion.{most_laid}
use Rattle.cx_pre.specs.declared.fault.PreFault.{PreFault}
use Rattle.cx_pre.specs.declared.fault.PreFault.TheVariants as fault
use Rattle.cx_pre.specs.Choosing.{include_depth}

-- a text that has no pieces
unfoldable pub text_finding : TextFault → Finding
text_finding (UnclosedComment at) = syntax_error (codes "unclosed comment") at
text_finding (TooLong at) = limit_passed (codes "pieces") piece_limit (piece_limit + 1) at

-- a macro that cannot be replaced; where memory ran out nothing is told
unfoldable pub macro_finding : MacroFault → Finding
macro_finding (macro_fault.ArgumentCount at) = syntax_error (codes "macro argument count") at
macro_finding (macro_fault.UnclosedCall at) = syntax_error (codes "unclosed macro call") at
macro_finding (macro_fault.BadPaste at) = syntax_error (codes "bad paste") at
macro_finding (macro_fault.TooManyTokens at laid) =
    limit_passed (codes "tokens") most_laid laid at
macro_finding macro_fault.NoMemory =
    syntax_error (codes "") (record { file = 0; line = 0; column = 0 })

-- the first fault of a text
unfoldable pub fault_finding : PreFault → Finding
fault_finding (fault.ErrorDirective at text) = error_directive text at
fault_finding (fault.BadDirective at) = syntax_error (codes "bad directive") at
fault_finding (fault.UnclosedGroup at) = syntax_error (codes "unclosed group") at
fault_finding (fault.StrayElse at) = syntax_error (codes "stray else") at
fault_finding (fault.BadCondition at) = syntax_error (codes "bad condition") at
fault_finding (fault.Deep at) =
    limit_passed (codes "include depth") include_depth (include_depth + 1) at
fault_finding (fault.UnclosedLiteral at) = syntax_error (codes "unclosed literal") at
fault_finding (fault.Macro f) = macro_finding f
