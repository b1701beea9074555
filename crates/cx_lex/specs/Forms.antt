-- The forms of identifiers, preprocessing numbers and punctuators (C11 6.4).
use Rattle.std.specs.Prelude.{◌≡◌, ℕ, List, [], ◌∷◌, ◌++◌, Bool, true, ◌&&◌, ◌||◌, ◌⊎◌, Contains, codes}
use Rattle.std.specs.List.{list_all}
use Rattle.cx_tokens.specs.declared.token.Kind.{Kind}
use Rattle.cx_tokens.specs.declared.token.Kind.TheVariants.{Name, Number, Punct}
use Rattle.cx_lex.specs.Characters.{is_digit, is_nondigit, is_one_of, is_word}

-- an identifier: a nondigit, then nondigits and digits (C11 6.4.2.1)
abbrev pub IsIdentifier : List ℕ → Type 0
IsIdentifier [] = ⊥
IsIdentifier (b ∷ bs) = (is_nondigit b ≡ true) × (list_all is_word bs ≡ true)

-- whether a preprocessing number whose last character is `last` may have b after it: a digit, a
-- nondigit or `.`, or a sign after `e`, `E`, `p` or `P` (C11 6.4.8)
unfoldable pub goes_on : ℕ → ℕ → Bool
goes_on last b =
    (is_word b || is_one_of (codes ".") b)
    || (is_one_of (codes "eEpP") last && is_one_of (codes "+-") b)

-- a preprocessing number whose last character is `last` may have these characters after it (C11
-- 6.4.8)
abbrev pub GoesOn : ℕ → List ℕ → Type 0
GoesOn last [] = Unit {0}
GoesOn last (b ∷ bs) = (goes_on last b ≡ true) × GoesOn b bs

-- a digit, and what may come after it
abbrev pub BeginsWithDigit : List ℕ → Type 0
BeginsWithDigit [] = ⊥
BeginsWithDigit (b ∷ bs) = (is_digit b ≡ true) × GoesOn b bs

-- a preprocessing number: a digit or `.` with a digit, and what may come after it (C11 6.4.8)
abbrev pub IsPpNumber : List ℕ → Type 0
IsPpNumber text =
    BeginsWithDigit text ⊎ ((rest : List ℕ) × (text ≡ codes "." ++ rest) × BeginsWithDigit rest)

-- the punctuators (C11 6.4.6)
unfoldable pub punctuators : List (List ℕ)
punctuators =
    codes "[" ∷ codes "]" ∷ codes "(" ∷ codes ")" ∷ codes "{" ∷ codes "}" ∷ codes "." ∷ codes "->"
    ∷ codes "++" ∷ codes "--" ∷ codes "&" ∷ codes "*" ∷ codes "+" ∷ codes "-" ∷ codes "~"
    ∷ codes "!" ∷ codes "/" ∷ codes "%" ∷ codes "<<" ∷ codes ">>" ∷ codes "<" ∷ codes ">"
    ∷ codes "<=" ∷ codes ">=" ∷ codes "==" ∷ codes "!=" ∷ codes "^" ∷ codes "|" ∷ codes "&&"
    ∷ codes "||" ∷ codes "?" ∷ codes ":" ∷ codes ";" ∷ codes "..."
    ∷ codes "=" ∷ codes "*=" ∷ codes "/=" ∷ codes "%=" ∷ codes "+=" ∷ codes "-=" ∷ codes "<<="
    ∷ codes ">>=" ∷ codes "&=" ∷ codes "^=" ∷ codes "|=" ∷ codes "," ∷ codes "#" ∷ codes "##"
    ∷ codes "<:" ∷ codes ":>" ∷ codes "<%" ∷ codes "%>" ∷ codes "%:" ∷ codes "%:%:" ∷ []

-- what could constitute a preprocessing token of a kind (C11 6.4)
abbrev pub IsToken : Kind → List ℕ → Type 0
IsToken Name text = IsIdentifier text
IsToken Number text = IsPpNumber text
IsToken Punct text = Contains punctuators text
IsToken _ text = ⊥

-- no more of what stands after the text could be part of its token: the longest one is taken (C11
-- 6.4, paragraph 4)
abbrev pub IsLongest : List ℕ → List ℕ → Type 0
IsLongest text rest =
    (kind : Kind) (more others : List ℕ) → rest ≡ more ++ others → IsToken kind (text ++ more)
    → more ≡ []
