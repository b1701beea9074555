-- Calls, token by token.
use Rattle.std.specs.Prelude.{ℕ, ◌+◌, ◌-◌, List, ◌++◌, if◌then◌else◌, Option, Some, None}
use Rattle.cx_tokens.specs.declared.token.Token.{Token}
use Rattle.cx_macro.specs.Arguments.{Bracketed, is_close, is_open}
use Rattle.cx_macro.specs.Shapes.Counting.{Cut, Named}

-- how many brackets are open behind a token
unfoldable pub deeper : ℕ → Token → ℕ
deeper depth t = if is_open t then depth + 1 else if is_close t then depth - 1 else depth

-- brackets, cuts and arguments with more in front
abbrev pub behind_inner : List Token → Option Bracketed → Option Bracketed
behind_inner front None = None
behind_inner front (Some b) =
    Some (record { inner = front ++ b.inner; closing = b.closing; after = b.after })

abbrev pub behind_front : List Token → Cut → Cut
behind_front front cut = record { front = front ++ cut.front; after = cut.after }

abbrev pub behind_arguments : List (List Token) → Option Named → Option Named
behind_arguments front None = None
behind_arguments front (Some named) =
    Some (record { arguments = front ++ named.arguments; after = named.after })
