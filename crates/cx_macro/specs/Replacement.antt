-- What a macro is replaced by (C11 6.10.3.1 to 6.10.3.3).
use Rattle.std.specs.Prelude.{◌≡◌, ℕ, List, [], ◌∷◌, ◌++◌, Bool, true, false, not, ◌&&◌, ◌||◌, ◌==◌, Option, Some, None, if◌then◌else◌, flat_map, length, map, reverse, slice_index_or, codes}
use Rattle.std.specs.List.{list_any}
use Rattle.cx_tokens.specs.Digraphs.{is_digraph, spelling_of}
use Rattle.cx_tokens.specs.declared.token.Kind.{Kind}
use Rattle.cx_tokens.specs.declared.token.Kind.TheVariants.{Char, String}
use Rattle.cx_tokens.specs.declared.token.Token.{Token}
use Rattle.cx_lex.specs.Lexing.{IsOnePiece}
use Rattle.cx_macro.specs.Arguments.{Arguments, is_comma}
use Rattle.cx_macro.specs.Hiding.{common, united}
use Rattle.cx_macro.specs.Macros.{Definition, is_hash, is_paste, parameter_at}

-- ---- the `#` operator (6.10.3.2)

abbrev pub is_quoted : Kind → Bool
is_quoted Char = true
is_quoted String = true
is_quoted _ = false

-- a `\` before each `"` (34) and each `\` (92)
abbrev pub escaped : List ℕ → List ℕ
escaped text = flat_map (λ b. if (b == 34) || (b == 92) then 92 ∷ b ∷ [] else b ∷ []) text

-- what a token gives to a string: its spelling, escaped where that is a character constant or a
-- string literal
abbrev pub characters_of : Token → List ℕ
characters_of t = if is_quoted t.kind then escaped (spelling_of t) else spelling_of t

-- what tokens give to a string after others: one space before each that has a space
abbrev pub characters_after : List Token → List ℕ
characters_after [] = []
characters_after (t ∷ ts) =
    (if t.space then codes " " else []) ++ (characters_of t ++ characters_after ts)

-- what an argument gives to a string: no space before its first token, and none after its last
unfoldable pub characters_of_all : List Token → List ℕ
characters_of_all [] = []
characters_of_all (t ∷ ts) = characters_of t ++ characters_after ts

-- the string that a `#` makes of an argument (paragraph 2)
unfoldable pub string_of : Token → List Token → Token
string_of hash argument = record {
  kind = String;
  text = codes "\"" ++ (characters_of_all argument ++ codes "\"");
  place = hash.place;
  hide = hash.hide;
  space = hash.space;
  parts = [];
  digraph = false;
}

-- ---- what stands in a replacement list, by its neighbours

-- A token of a replacement list, with those before it, the nearest first, and those after it.
pub record Position : Type 0 where
  pub before : List Token
  pub token : Token
  pub after : List Token

abbrev pub positions_after : List Token → List Token → List Position
positions_after before [] = []
positions_after before (t ∷ ts) =
    (record { before = before; token = t; after = ts }) ∷ positions_after (t ∷ before) ts

abbrev pub positions_of : List Token → List Position
positions_of tokens = positions_after [] tokens

-- whether there is a first token, and it passes
abbrev pub begins_with : (Token → Bool) → List Token → Bool
begins_with test [] = false
begins_with test (t ∷ ts) = test t

-- What a token of a replacement list is.
pub data Role : Type 0 where
  -- it stands for itself
  itself : Role
  -- a `##` operator
  paste : Role
  -- a `#` operator, before its operand
  hash : Role
  -- the operand of this `#`: the parameter with this index
  hash_operand : Token → ℕ → Role
  -- the parameter with this index, an operand of a `##`: its argument stands as it is given
  given : ℕ → Role
  -- the parameter with this index, elsewhere: its argument stands expanded
  expanded : ℕ → Role
  -- GNU's comma; the `##` of one; its variable argument, with this index
  gnu_comma : Role
  gnu_paste : Role
  gnu_variable : ℕ → Role

-- the parameter with this index, where it is no operand of a `#`: whether a `##` stands beside it
-- (6.10.3.1)
abbrev pub substituted : Position → ℕ → Role
substituted p i =
    if begins_with is_paste p.before || begins_with is_paste p.after then given i else expanded i

-- the parameter with this index, with these tokens before it
abbrev pub role_of_parameter : Position → List Token → ℕ → Role
role_of_parameter p [] i = substituted p i
role_of_parameter p (t ∷ before) i = if is_hash t then hash_operand t i else substituted p i

abbrev pub role_by : Position → Option ℕ → Role
role_by p None = itself
role_by p (Some i) = role_of_parameter p p.before i

abbrev pub is_parameter : Definition → Token → Bool
is_parameter d t = is_one (parameter_at d t)
  where
    is_one : Option ℕ → Bool
    is_one None = false
    is_one (Some i) = true

-- what the standard makes of a token: `##` is an operator in each list, `#` before a parameter
abbrev pub standard_role : Definition → Position → Role
standard_role d p =
    if is_paste p.token then paste
    else if is_hash p.token && begins_with (is_parameter d) p.after then hash
    else role_by p (parameter_at d p.token)

-- ---- GNU's comma: no rule of the standard's, which leaves it undefined, but real headers use it

abbrev pub is_index : ℕ → Option ℕ → Bool
is_index i None = false
is_index i (Some j) = i == j

-- the index of the variable argument
abbrev pub variable_index : Definition → ℕ
variable_index d = count d.parameters
  where
    count : Option (List (List ℕ)) → ℕ
    count None = 0
    count (Some names) = length names

abbrev pub is_variable : Definition → Token → Bool
is_variable d t = is_index (variable_index d) (parameter_at d t)

-- with these tokens before it begins a `,` that no `##` precedes, a `##`, and the variable
-- argument, which no `##` follows
abbrev pub is_gnu_comma : Definition → List Token → List Token → Bool
is_gnu_comma d before (comma ∷ operator ∷ variable ∷ after) =
    is_comma comma && is_paste operator && is_variable d variable
    && not (begins_with is_paste before) && not (begins_with is_paste after)
is_gnu_comma d before _ = false

-- the same from the token before; and from the one before that
abbrev pub follows_gnu_comma : Definition → List Token → List Token → Bool
follows_gnu_comma d [] after = false
follows_gnu_comma d (t ∷ before) after = is_gnu_comma d before (t ∷ after)

abbrev pub ends_gnu_comma : Definition → List Token → List Token → Bool
ends_gnu_comma d [] after = false
ends_gnu_comma d (t ∷ before) after = follows_gnu_comma d before (t ∷ after)

-- what a token of the replacement list is: one of GNU's three, or what the standard makes of it
unfoldable pub role_of : Definition → Position → Role
role_of d p =
    if is_gnu_comma d p.before (p.token ∷ p.after) then gnu_comma
    else if follows_gnu_comma d p.before (p.token ∷ p.after) then gnu_paste
    else if ends_gnu_comma d p.before (p.token ∷ p.after) then gnu_variable (variable_index d)
    else standard_role d p

-- whether the argument with an index stands expanded somewhere
abbrev pub takes_expanded : ℕ → Role → Bool
takes_expanded i (expanded j) = i == j
takes_expanded i (gnu_variable j) = i == j
takes_expanded i _ = false

unfoldable pub is_expanded : Definition → ℕ → Bool
is_expanded d i = list_any (λ p. takes_expanded i (role_of d p)) (positions_of d.body)

-- ---- the substitution of arguments (6.10.3.1)

-- What stands for a token of a replacement list: tokens, or a `##` operator.
pub data Substitute : Type 0 where
  operand : List Token → Substitute
  paste_operator : Token → Substitute

abbrev pub tokens_of : Substitute → List Token
tokens_of (operand ts) = ts
tokens_of (paste_operator t) = t ∷ []

abbrev pub with_space : Bool → List Token → List Token
with_space space [] = []
with_space space (t ∷ ts) = (record t { space = space }) ∷ ts

-- what stands for a token with this role: the first token of an argument gets the space of the
-- parameter. Where the variable argument is left out, GNU's comma goes with it; elsewhere its `##`
-- is as not there.
abbrev pub substitutes_by : Arguments → List (List Token) → Token → Role → List Substitute
substitutes_by arguments done t itself = operand (t ∷ []) ∷ []
substitutes_by arguments done t paste = paste_operator t ∷ []
substitutes_by arguments done t hash = []
substitutes_by arguments done t (hash_operand h i) =
    operand (string_of h (slice_index_or arguments.given i []) ∷ []) ∷ []
substitutes_by arguments done t (given i) =
    operand (with_space t.space (slice_index_or arguments.given i [])) ∷ []
substitutes_by arguments done t (expanded i) =
    operand (with_space t.space (slice_index_or done i [])) ∷ []
substitutes_by arguments done t gnu_comma =
    if arguments.left_out then [] else operand (t ∷ []) ∷ []
substitutes_by arguments done t gnu_paste = []
substitutes_by arguments done t (gnu_variable i) =
    if arguments.left_out then [] else operand (with_space t.space (slice_index_or done i [])) ∷ []

-- a replacement list with its arguments put in: these as they are given, and expanded
unfoldable pub substitutes_of : Definition → Arguments → List (List Token) → List Substitute
substitutes_of d arguments done =
    flat_map (λ p. substitutes_by arguments done p.token (role_of d p)) (positions_of d.body)

-- the same by the standard's rules alone
abbrev pub standard_substitutes_of : Definition → Arguments → List (List Token) → List Substitute
standard_substitutes_of d arguments done =
    flat_map (λ p. substitutes_by arguments done p.token (standard_role d p)) (positions_of d.body)

-- nowhere in a replacement list stands GNU's comma, whatever tokens are before it, the nearest
-- first, and from it on
abbrev pub HasNoGnuComma : Definition → Type 0
HasNoGnuComma d = (before after : List Token) → reverse before ++ after ≡ d.body
    → is_gnu_comma d before after ≡ false

-- ---- the `##` operator (6.10.3.3)

-- what a `##` makes of two tokens: the one piece that both spellings give, or None (paragraph 3)
pub data Joins (a b : Token) : Option Token → Type 0 where
  one_piece : (kind : Kind) (text : List ℕ) → IsOnePiece (spelling_of a ++ spelling_of b) kind text
      → Joins a b (Some (record {
        kind = kind;
        text = text;
        place = a.place;
        hide = common a.hide b.hide;
        space = a.space;
        parts = [];
        digraph = is_digraph kind (spelling_of a ++ spelling_of b);
      }))
  no_piece :
      ((kind : Kind) (text : List ℕ) → ¬ IsOnePiece (spelling_of a ++ spelling_of b) kind text)
      → Joins a b None

-- what a `##` makes of its operands: of one that is empty, the other
pub data JoinsSides : List Token → List Token → Option (List Token) → Type 0 where
  left_empty : {right : List Token} → JoinsSides [] right (Some right)
  right_empty : {left : List Token} → JoinsSides left [] (Some left)
  joined : {left right : List Token} (a b c : Token) (front rest : List Token)
      → left ≡ front ++ a ∷ [] → right ≡ b ∷ rest → Joins a b (Some c)
      → JoinsSides left right (Some (front ++ c ∷ rest))
  unjoined : {left right : List Token} (a b : Token) (front rest : List Token)
      → left ≡ front ++ a ∷ [] → right ≡ b ∷ rest → Joins a b None → JoinsSides left right None

abbrev pub preceded_by : List Token → Option (List Token) → Option (List Token)
preceded_by front None = None
preceded_by front (Some ts) = Some (front ++ ts)

-- Glues left substitutes result: the tokens of the substitutes, with each `##` carried out from
-- left to right, after those of the last operand before them.
pub data Glues : List Token → List Substitute → Option (List Token) → Type 0 where
  ends : {left : List Token} → Glues left [] (Some left)
  ends_with_paste : {left : List Token} {t : Token} → Glues left (paste_operator t ∷ []) (Some left)
  pastes : {left : List Token} {t : Token} {s : Substitute} {ss : List Substitute}
      {result : Option (List Token)} (both : List Token)
      → JoinsSides left (tokens_of s) (Some both) → Glues both ss result
      → Glues left (paste_operator t ∷ s ∷ ss) result
  fails : {left : List Token} {t : Token} {s : Substitute} {ss : List Substitute}
      → JoinsSides left (tokens_of s) None → Glues left (paste_operator t ∷ s ∷ ss) None
  goes_on : {left ts : List Token} {ss : List Substitute} {result : Option (List Token)}
      → Glues ts ss result → Glues left (operand ts ∷ ss) (preceded_by left result)

-- ---- the tokens that replace a macro's name

-- a token as it stands for a name: it gets the name's place, and these names to hide
abbrev pub replacement_token : Token → List (List ℕ) → Token → Token
replacement_token name hide t = record t { place = name.place; hide = united t.hide hide }

-- tokens as they stand for a name: the first gets the name's space
unfoldable pub replacement_tokens : Token → List (List ℕ) → List Token → List Token
replacement_tokens name hide ts = with_space name.space (map (replacement_token name hide) ts)
