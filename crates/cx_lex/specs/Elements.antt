-- What a source consists of: separators, comments and preprocessing tokens (C11 6.4 and 6.4.9).
use Rattle.std.specs.Prelude.{◌≡◌, ◌≢◌, ℕ, List, [], ◌∷◌, ◌++◌, Bool, true, false, not, ◌||◌, ◌==◌, ◌⊎◌, All, codes, bytes_eq, flat_map, if◌then◌else◌}
use Rattle.std.specs.List.{list_all, list_any}
use Rattle.cx_tokens.specs.declared.token.Kind.{Kind}
use Rattle.cx_tokens.specs.declared.token.Kind.TheVariants.{Name, Char, String, Unclosed, Header, Punct, Other}
use Rattle.cx_tokens.specs.Digraphs.{plain_text}
use Rattle.cx_lex.specs.Characters.{is_digit, is_nondigit, is_one_of}
use Rattle.cx_lex.specs.Forms.{IsLongest, IsToken, punctuators}
use Rattle.cx_lex.specs.declared.before.Before.{Before}
use Rattle.cx_lex.specs.declared.before.Directive.{Directive}
use Rattle.cx_lex.specs.declared.before.Directive.TheVariants.{Nothing, Hash, Include}
use Rattle.cx_lex.specs.declared.character.Character.{Character}
use Rattle.cx_lex.specs.Lines.{bytes_of}

-- An element of a source. A comment has its opening, its text, and its end, where it has one.
pub data Element : Type 0 where
  separator : Character → Element
  comment : (opening text end : List Character) → Element
  piece : Kind → List Character → Element

abbrev pub characters_of : Element → List Character
characters_of (separator c) = c ∷ []
characters_of (comment opening text end) = opening ++ (text ++ end)
characters_of (piece kind cs) = cs

abbrev pub at_start : Before
at_start = record { space = false; first_on_line = true; directive = Nothing }

-- how far an include line has been read after a piece of this kind and text (C11 6.10.2)
unfoldable pub directive_after : Directive → Kind → List ℕ → Directive
directive_after before Punct text = if bytes_eq text (codes "#") then Hash else Nothing
directive_after Hash Name text = if bytes_eq text (codes "include") then Include else Nothing
directive_after before kind text = Nothing

-- what stands before the next element
unfoldable pub after_element : Before → Element → Before
after_element before (separator c) = record {
  space = true;
  first_on_line = before.first_on_line || c.in_newline;
  directive = if c.in_newline then Nothing else before.directive;
}
after_element before (comment opening text end) = record {
  space = true;
  first_on_line = before.first_on_line;
  directive = before.directive;
}
after_element before (piece kind cs) = record {
  space = false;
  first_on_line = false;
  directive = directive_after before.directive kind (plain_text kind (bytes_of cs));
}

-- a newline, or a space, a tab, a vertical tab or a form feed (C11 6.4, paragraph 3)
unfoldable pub is_separator : Character → Bool
is_separator c =
    c.in_newline || (((c.code == 32) || (c.code == 9)) || ((c.code == 11) || (c.code == 12)))

-- what stands after a line: nothing, or a newline
abbrev pub EndsLine : List Character → Type 0
EndsLine [] = Unit {0}
EndsLine (c ∷ cs) = c.in_newline ≡ true

abbrev pub on_one_line : List Character → Bool
on_one_line cs = list_all (λ c. not c.in_newline) cs

-- the text begins with the word
abbrev pub BeginsWith : List ℕ → List ℕ → Type 0
BeginsWith word text = (rest : List ℕ) × (text ≡ word ++ rest)

-- the word stands nowhere in the text
abbrev pub StandsNowhere : List ℕ → List ℕ → Type 0
StandsNowhere word [] = Unit {0}
StandsNowhere word (b ∷ bs) = (¬ BeginsWith word (b ∷ bs)) × StandsNowhere word bs

-- A comment: from `//` to the end of the line, or from `/*` to the next `*/` (C11 6.4.9).
abbrev pub IsComment : (opening text end rest : List Character) → Type 0
IsComment opening text end rest =
    (bytes_of opening ≡ codes "//" × end ≡ [] × on_one_line text ≡ true × EndsLine rest)
    ⊎ (bytes_of opening ≡ codes "/*" × bytes_of end ≡ codes "*/"
    × StandsNowhere (codes "*/") (bytes_of text ++ codes "*"))

-- A member of a character constant or a string literal: a byte that is neither its quote nor a
-- backslash (92), or a backslash with the byte after it (C11 6.4.4.4 and 6.4.5).
abbrev pub IsMember : ℕ → List ℕ → Type 0
IsMember quote text =
    ((b : ℕ) × (text ≡ b ∷ []) × (b ≢ quote) × (b ≢ 92)) ⊎ ((b : ℕ) × (text ≡ 92 ∷ b ∷ []))

-- members, one after the other
abbrev pub AreMembers : ℕ → List ℕ → Type 0
AreMembers quote text =
    (members : List (List ℕ)) × All (IsMember quote) members
    × (text ≡ flat_map (λ member. member) members)

-- a character constant or a string literal: members between quotes (C11 6.4.4.4 and 6.4.5)
abbrev pub IsQuoted : ℕ → List ℕ → Type 0
IsQuoted quote text =
    (inner : List ℕ) × (text ≡ quote ∷ (inner ++ quote ∷ [])) × AreMembers quote inner

-- a quote, and members with no quote after them: at the end may be a backslash with nothing after
-- it
abbrev pub IsUnclosed : List ℕ → Type 0
IsUnclosed [] = ⊥
IsUnclosed (quote ∷ inner) =
    (is_one_of (codes "'\"") quote ≡ true)
    × (AreMembers quote inner
    ⊎ ((members : List ℕ) × (inner ≡ members ++ 92 ∷ []) × AreMembers quote members))

-- a character does not stand in a text
abbrev pub lacks : ℕ → List ℕ → Bool
lacks b text = list_all (λ c. not (c == b)) text

-- a header name: between `<` and `>` (62) with no `>` inside, or between `"` with no `"` (34) (C11
-- 6.4.7)
abbrev pub IsHeaderName : List ℕ → Type 0
IsHeaderName text =
    (inner : List ℕ)
    × (((text ≡ codes "<" ++ (inner ++ codes ">")) × (lacks 62 inner ≡ true))
    ⊎ ((text ≡ codes "\"" ++ (inner ++ codes "\"")) × (lacks 34 inner ≡ true)))

-- a header name is to stand in front, and does
abbrev pub HasHeader : Directive → List Character → Type 0
HasHeader Include cs =
    (name rest : List Character) × (cs ≡ name ++ rest) × (on_one_line name ≡ true)
    × IsHeaderName (bytes_of name)
HasHeader _ cs = ⊥

-- a byte with which no other piece begins
abbrev pub IsOtherByte : List ℕ → Type 0
IsOtherByte (b ∷ []) =
    (is_nondigit b ≡ false) × (is_digit b ≡ false) × (is_one_of (codes "'\"") b ≡ false)
    × ((text : List ℕ) → ¬ (list_any (bytes_eq (b ∷ text)) punctuators ≡ true))
IsOtherByte _ = ⊥

-- the form of a piece of each kind, by its characters and by what stands after it
abbrev pub HasForm : Kind → List Character → List Character → Type 0
HasForm Char cs rest = IsQuoted 39 (bytes_of cs)
HasForm String cs rest = IsQuoted 34 (bytes_of cs)
HasForm Unclosed cs rest = IsUnclosed (bytes_of cs) × EndsLine rest
HasForm Header cs rest = IsHeaderName (bytes_of cs)
HasForm Other cs rest = IsOtherByte (bytes_of cs) × (list_any is_separator cs ≡ false)
HasForm kind cs rest = IsToken kind (bytes_of cs) × IsLongest (bytes_of cs) (bytes_of rest)

-- A piece in front of a text: where a header name is to stand and does, it is the piece (C11 6.4,
-- paragraph 4).
pub record IsPiece (before : Before) (kind : Kind) (cs rest : List Character) : Type 0 where
  pub one_line : on_one_line cs ≡ true
  pub form : HasForm kind cs rest
  pub no_line_comment : ¬ BeginsWith (codes "//") (bytes_of (cs ++ rest))
  pub no_block_comment : ¬ BeginsWith (codes "/*") (bytes_of (cs ++ rest))
  pub header : kind ≡ Header → before.directive ≡ Include
  pub no_header : kind ≢ Header → ¬ HasHeader before.directive (cs ++ rest)

-- an element in front of a text
abbrev pub IsElement : Before → Element → List Character → Type 0
IsElement before (separator c) rest = is_separator c ≡ true
IsElement before (comment opening text end) rest = IsComment opening text end rest
IsElement before (piece kind cs) rest = IsPiece before kind cs rest
