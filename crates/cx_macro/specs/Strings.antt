-- What a string of `#` says (C11 6.10.3.2): its argument, spelt, in quotes and with `\` before some
-- characters.
use Rattle.std.specs.Prelude.{◌≡◌, ℕ, List, [], ◌∷◌, ◌++◌, Bool, true, false, ◌⊎◌, ◌==◌, if◌then◌else◌, All, codes}
use Rattle.cx_tokens.specs.Digraphs.{spelling_of}
use Rattle.cx_tokens.specs.declared.token.Token.{Token}
use Rattle.cx_macro.specs.Replacement.{is_quoted}

-- the spellings of tokens after others: one space before each that has a space
abbrev pub spellings_after : List Token → List ℕ
spellings_after [] = []
spellings_after (t ∷ ts) =
    (if t.space then codes " " else []) ++ (spelling_of t ++ spellings_after ts)

-- the spellings of an argument's tokens: no space before the first, and none after the last
abbrev pub spellings_of : List Token → List ℕ
spellings_of [] = []
spellings_of (t ∷ ts) = spelling_of t ++ spellings_after ts

-- bytes without the `\` (92) before another, whether one was just passed
abbrev pub unescaped_after : Bool → List ℕ → List ℕ
unescaped_after passed [] = []
unescaped_after true (b ∷ bs) = b ∷ unescaped_after false bs
unescaped_after false (b ∷ bs) =
    if b == 92 then unescaped_after true bs else b ∷ unescaped_after false bs

-- bytes in which a `\` stands for the byte after it
abbrev pub unescaped : List ℕ → List ℕ
unescaped bytes = unescaped_after false bytes

-- a `\` (92) is in no other token than a character constant or a string literal
abbrev pub HasNoStrayBackslash : Token → Type 0
HasNoStrayBackslash t = (is_quoted t.kind ≡ true) ⊎ All (λ b. (b == 92) ≡ false) (spelling_of t)
