-- What is told of a refused word, in front of the word and behind it.
use Rattle.std.specs.Prelude.{ℕ, List, codes}
use Rattle.cx_options.specs.declared.fault.WordKind.{WordKind}
use Rattle.cx_options.specs.declared.fault.WordKind.TheVariants as kind

abbrev pub text_before : WordKind → List ℕ
text_before kind.Unknown = codes "unrecognized command line option: \""
text_before kind.MissingValue = codes "argument to \""
text_before kind.BadNumber = codes "argument to \""
text_before kind.BadName = codes "\""
text_before kind.BadValue = codes "argument of \""
text_before kind.BadTemplate = codes "template in \""
text_before kind.BadSpec = codes "suppression in \""
text_before kind.TooMany = codes "too many suppressions at \""

abbrev pub text_after : WordKind → List ℕ
text_after kind.Unknown = codes "\"."
text_after kind.MissingValue = codes "\" is missing."
text_after kind.BadNumber = codes "\" is not a number in range."
text_after kind.BadName = codes "\" does not name a macro."
text_after kind.BadValue = codes "\" is not one of the permitted values."
text_after kind.BadTemplate = codes "\" is refused."
text_after kind.BadSpec = codes "\" is refused."
text_after kind.TooMany = codes "\"."
