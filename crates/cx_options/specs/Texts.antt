-- What is told of a refused word.
use Rattle.std.specs.Prelude.{ℕ, List, ◌++◌, codes}
use Rattle.cx_options.specs.declared.fault.WordKind.{WordKind}
use Rattle.cx_options.specs.declared.fault.WordKind.TheVariants as kind

-- the text behind `cppcheck: error: `, by the kind and the word
unfoldable pub refusal_text : WordKind → List ℕ → List ℕ
refusal_text kind.Unknown word =
    codes "unrecognized command line option: \"" ++ word ++ codes "\"."
refusal_text kind.MissingValue word = codes "argument to \"" ++ word ++ codes "\" is missing."
refusal_text kind.BadNumber word =
    codes "argument to \"" ++ word ++ codes "\" is not a number in range."
refusal_text kind.BadName word = codes "\"" ++ word ++ codes "\" does not name a macro."
refusal_text kind.BadValue word =
    codes "argument of \"" ++ word ++ codes "\" is not one of the permitted values."
refusal_text kind.BadTemplate word = codes "template in \"" ++ word ++ codes "\" is refused."
refusal_text kind.BadSpec word = codes "suppression in \"" ++ word ++ codes "\" is refused."
refusal_text kind.TooMany word = codes "too many suppressions at \"" ++ word ++ codes "\"."
