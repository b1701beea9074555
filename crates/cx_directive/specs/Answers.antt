-- The tokens of a condition, of which each `defined` is answered (C11 6.10.1, paragraph 1).
use Rattle.std.specs.Prelude.{ℕ, List, [], ◌∷◌, Bool, false, ◌&&◌, if◌then◌else◌, is_some, codes, bytes_eq}
use Rattle.cx_tokens.specs.declared.token.Kind.TheVariants.{Number}
use Rattle.cx_tokens.specs.declared.token.Token.{Token}
use Rattle.cx_tokens.specs.Simplified.{is_name}
use Rattle.cx_table.specs.NameTable.{value_of}
use Rattle.cx_macro.specs.Arguments.{is_close, is_open}
use Rattle.cx_macro.specs.Macros.{Table}

-- a name is defined
abbrev pub is_defined : Table → List ℕ → Bool
is_defined table name = is_some (value_of table name)

-- the token `defined`
abbrev pub is_question : Token → Bool
is_question t = is_name t.kind && bytes_eq t.text (codes "defined")

-- the answer, which stands where the `defined` stood
abbrev pub answer : Bool → Token → Token
answer is_true t = record {
  kind = Number;
  text = if is_true then codes "1" else codes "0";
  place = t.place;
  hide = [];
  space = t.space;
  parts = [];
  digraph = false;
}

-- `( name )`
abbrev pub is_bracketed_name : Token → Token → Token → Bool
is_bracketed_name a b c = is_open a && is_name b.kind && is_close c

-- Each `defined name` and `defined ( name )` is 1 or 0; any other `defined` stays a name.
unfoldable pub answered : Table → List Token → List Token
answered table [] = []
answered table (t ∷ []) = t ∷ []
answered table (t ∷ a ∷ []) =
    if is_question t && is_name a.kind then answer (is_defined table a.text) t ∷ []
    else t ∷ a ∷ []
answered table (t ∷ a ∷ b ∷ []) =
    if is_question t && is_name a.kind
    then answer (is_defined table a.text) t ∷ answered table (b ∷ [])
    else t ∷ answered table (a ∷ b ∷ [])
answered table (t ∷ a ∷ b ∷ c ∷ rest) =
    if is_question t && is_name a.kind
    then answer (is_defined table a.text) t ∷ answered table (b ∷ c ∷ rest)
    else if is_question t && is_bracketed_name a b c
    then answer (is_defined table b.text) t ∷ answered table rest
    else t ∷ answered table (a ∷ b ∷ c ∷ rest)
