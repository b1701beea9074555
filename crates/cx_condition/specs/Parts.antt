-- Tokens as parts of a condition, when each `defined` is answered and macros are replaced (C11
-- 6.10.1, paragraphs 1 and 4).
use Rattle.std.specs.Prelude.{ℕ, ◌==◌, List, [], ◌∷◌, Bool, true, false, not, ◌&&◌, ◌||◌, if◌then◌else◌, nat_lt}
use Rattle.std.specs.Option.{option_map_or}
use Rattle.std.specs.Int.{cast_signed, w8}
use Rattle.cx_tokens.specs.declared.token.Kind.{Kind}
use Rattle.cx_tokens.specs.declared.token.Kind.TheVariants as kind_is
use Rattle.cx_tokens.specs.declared.token.Token.{Token}
use Rattle.cx_condition.specs.declared.operator.Operator.TheVariants as operator
use Rattle.cx_condition.specs.declared.part.Part.{Part}
use Rattle.cx_condition.specs.declared.part.Part.TheVariants.{Constant, Operator, Complement, Not, Question, Colon, Open, Close, Other}
use Rattle.cx_condition.specs.Constants.{character_value, integer_constant}
use Rattle.cx_condition.specs.Values.{bits_of}

abbrev pub constant : Bool → ℕ → Part
constant is_unsigned bits = Constant (record { is_unsigned = is_unsigned; bits = bits })

-- an integer constant is unsigned where its suffix says so, or where intmax_t does not hold it
unfoldable pub number_part : List ℕ → Part
number_part text =
    option_map_or
    (λ c. constant (c.is_unsigned || nat_lt 9223372036854775807 c.value) c.value)
    (integer_constant text) Other

-- a character constant: its byte as a signed char
unfoldable pub char_part : List ℕ → Part
char_part text =
    option_map_or (λ b. constant false (bits_of (cast_signed w8 b))) (character_value text) Other

-- one behind a prefix: a byte from 0 to 127
unfoldable pub wide_part : List ℕ → Part
wide_part text =
    option_map_or
    (λ b. if nat_lt b 128 then constant false b else Other)
    (character_value text) Other

-- a punctuator of one byte
unfoldable pub single_sign : ℕ → Part
single_sign b =
    if b == 42 then Operator operator.Multiply  -- *
    else if b == 47 then Operator operator.Divide  -- /
    else if b == 37 then Operator operator.Remainder  -- %
    else if b == 43 then Operator operator.Add  -- +
    else if b == 45 then Operator operator.Subtract  -- -
    else if b == 60 then Operator operator.Less  -- <
    else if b == 62 then Operator operator.Greater  -- >
    else if b == 38 then Operator operator.And  -- &
    else if b == 94 then Operator operator.ExclusiveOr  -- ^
    else if b == 124 then Operator operator.Or  -- |
    else if b == 126 then Complement  -- ~
    else if b == 33 then Not  -- !
    else if b == 63 then Question  -- ?
    else if b == 58 then Colon  -- :
    else if b == 40 then Open  -- (
    else if b == 41 then Close  -- )
    else Other

-- a punctuator of two bytes
unfoldable pub double_sign : ℕ → ℕ → Part
double_sign a b =
    if (a == 60) && (b == 60) then Operator operator.ShiftLeft  -- <<
    else if (a == 62) && (b == 62) then Operator operator.ShiftRight  -- >>
    else if (a == 60) && (b == 61) then Operator operator.AtMost  -- <=
    else if (a == 62) && (b == 61) then Operator operator.AtLeast  -- >=
    else if (a == 61) && (b == 61) then Operator operator.Equal  -- ==
    else if (a == 33) && (b == 61) then Operator operator.Different  -- !=
    else if (a == 38) && (b == 38) then Operator operator.LogicalAnd  -- &&
    else if (a == 124) && (b == 124) then Operator operator.LogicalOr  -- ||
    else Other

-- a punctuator
unfoldable pub sign_part : List ℕ → Part
sign_part [] = Other
sign_part (a ∷ []) = single_sign a
sign_part (a ∷ b ∷ []) = double_sign a b
sign_part (a ∷ b ∷ c ∷ rest) = Other

-- a token alone; a name that is left counts as 0 (C11 6.10.1, paragraph 4)
unfoldable pub part_of : Kind → List ℕ → Part
part_of kind_is.Number text = number_part text
part_of kind_is.Char text = char_part text
part_of kind_is.Name text = constant false 0
part_of kind_is.Punct text = sign_part text
part_of _ text = Other

abbrev pub is_name : Kind → Bool
is_name kind_is.Name = true
is_name _ = false

abbrev pub is_char : Kind → Bool
is_char kind_is.Char = true
is_char _ = false

-- L, u or U
unfoldable pub is_prefix_text : List ℕ → Bool
is_prefix_text [] = false
is_prefix_text (a ∷ []) = (a == 76) || (a == 117) || (a == 85)
is_prefix_text (a ∷ b ∷ rest) = false

-- tokens begin with a character constant, and no separator stands directly before it
unfoldable pub begins_joined_char : List Token → Bool
begins_joined_char [] = false
begins_joined_char (t ∷ ts) = is_char t.kind && not t.space

-- the prefix of the character constant directly behind it (C11 6.4.4.4)
unfoldable pub is_prefix : Token → List Token → Bool
is_prefix t ts = is_name t.kind && is_prefix_text t.text && begins_joined_char ts

-- the parts of tokens, in order; whether a prefix stands directly before
unfoldable pub parts_behind : Bool → List Token → List Part
parts_behind prefixed [] = []
parts_behind true (t ∷ ts) = wide_part t.text ∷ parts_behind false ts
parts_behind false (t ∷ ts) =
    if is_prefix t ts then parts_behind true ts
    else part_of t.kind t.text ∷ parts_behind false ts

abbrev pub parts_of : List Token → List Part
parts_of tokens = parts_behind false tokens
