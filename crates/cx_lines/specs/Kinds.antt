-- What a line is (C11 6.10): text, or a directive, by the name after its `#`.
use Rattle.std.specs.Prelude.{ℕ, ◌&&◌, ◌||◌, Bool, true, false, List, [], ◌∷◌, if◌then◌else◌, codes, bytes_eq}
use Rattle.std.specs.List.{list_any}
use Rattle.cx_tokens.specs.declared.token.Kind.{Kind}
use Rattle.cx_tokens.specs.declared.token.Kind.TheVariants as kind_is
use Rattle.cx_tokens.specs.declared.token.Token.{Token}
use Rattle.cx_tokens.specs.Brackets.{is_punctuator}
use Rattle.cx_tokens.specs.Simplified.{is_name}
use Rattle.cx_lex.specs.declared.piece.Piece.{Piece}
use Rattle.cx_lines.specs.declared.kind.LineKind.{LineKind}
use Rattle.cx_lines.specs.declared.kind.LineKind.TheVariants.{Text, If, Ifdef, Ifndef, Elif, Else, Endif, Include, Define, Undef, Error, Once, Passed, Bad}

-- directives that say nothing here: `warning` and `line`, and what real headers have of GNU's
abbrev pub passed_words : List (List ℕ)
passed_words =
    codes "warning" ∷ codes "line" ∷ codes "include_next" ∷ codes "ident" ∷ codes "sccs"
    ∷ codes "assert" ∷ codes "unassert" ∷ []

-- a directive by its name, but `pragma`
unfoldable pub named_kind : List ℕ → LineKind
named_kind word =
    if bytes_eq word (codes "if") then If
    else if bytes_eq word (codes "ifdef") then Ifdef
    else if bytes_eq word (codes "ifndef") then Ifndef
    else if bytes_eq word (codes "elif") then Elif
    else if bytes_eq word (codes "else") then Else
    else if bytes_eq word (codes "endif") then Endif
    else if bytes_eq word (codes "include") then Include
    else if bytes_eq word (codes "define") then Define
    else if bytes_eq word (codes "undef") then Undef
    else if bytes_eq word (codes "error") then Error
    else if list_any (bytes_eq word) passed_words then Passed
    else Bad

-- a name that is this word
abbrev pub is_word : List ℕ → Token → Bool
is_word word t = is_name t.kind && bytes_eq t.text word

-- `pragma once`; every other pragma says nothing here (C11 6.10.6)
unfoldable pub pragma_kind : List Piece → LineKind
pragma_kind [] = Passed
pragma_kind (p ∷ ps) = if is_word (codes "once") p.token then Once else Passed

-- what stands after a `#`: a number makes a line marker, as compilers write them
unfoldable pub kind_after_hash : Kind → List ℕ → List Piece → LineKind
kind_after_hash kind_is.Number text rest = Passed
kind_after_hash kind_is.Name text rest =
    if bytes_eq text (codes "pragma") then pragma_kind rest else named_kind text
kind_after_hash _ text rest = Bad

-- a `#` alone says nothing (C11 6.10.7)
unfoldable pub directive_kind : List Piece → LineKind
directive_kind [] = Passed
directive_kind (p ∷ ps) = kind_after_hash p.token.kind p.token.text ps

unfoldable pub kind_of : List Piece → LineKind
kind_of [] = Text
kind_of (p ∷ ps) = if is_punctuator (codes "#") p.token then directive_kind ps else Text

-- a line that opens a section (C11 6.10, if-group)
abbrev pub opens : LineKind → Bool
opens If = true
opens Ifdef = true
opens Ifndef = true
opens _ = false

-- a line that ends a group of a section, and begins another (C11 6.10, elif-group and else-group)
abbrev pub parts : LineKind → Bool
parts Elif = true
parts Else = true
parts _ = false

abbrev pub is_else : LineKind → Bool
is_else Else = true
is_else _ = false

-- a line that ends a section (C11 6.10, endif-line)
abbrev pub closes : LineKind → Bool
closes Endif = true
closes _ = false

abbrev pub ends_group : LineKind → Bool
ends_group kind = parts kind || closes kind

abbrev pub is_text : LineKind → Bool
is_text Text = true
is_text _ = false

-- lines begin with text
abbrev pub begins_text : List (List Piece) → Bool
begins_text [] = false
begins_text (line ∷ lines) = is_text (kind_of line)

-- the text in front of lines, up to the first directive
unfoldable pub front_text : List (List Piece) → List (List Piece)
front_text [] = []
front_text (line ∷ lines) = if is_text (kind_of line) then line ∷ front_text lines else []

-- the lines from the first directive on
unfoldable pub after_text : List (List Piece) → List (List Piece)
after_text [] = []
after_text (line ∷ lines) = if is_text (kind_of line) then after_text lines else line ∷ lines
