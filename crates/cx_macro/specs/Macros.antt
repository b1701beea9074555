-- Macros by their names (C11 6.10.3).
use Rattle.std.specs.Prelude.{◌≡◌, ℕ, List, [], ◌∷◌, Bool, true, false, if◌then◌else◌, ◌&&◌, Option, Some, None, is_some, length, position, codes, bytes_eq}
use Rattle.std.specs.List.{IsDistinct}
use Rattle.cx_table.specs.NameTable.{Entries}
use Rattle.cx_tokens.specs.declared.token.Token.{Token}
use Rattle.cx_tokens.specs.Brackets.{is_punctuator}
use Rattle.cx_tokens.specs.Simplified.{is_name}

-- A macro: its parameters, where it is function-like; whether a variable argument stands behind
-- these; its body.
pub record Definition : Type 0 where
  pub parameters : Option (List (List ℕ))
  pub variadic : Bool
  pub body : List Token

-- macros by their names, in the order in which the names came
abbrev pub Table : Type 0
Table = Entries Definition

abbrev pub no_macros : Table
no_macros = []

-- the name of the variable argument (C11 6.10.3, paragraph 5)
abbrev pub variable_name : List ℕ
variable_name = codes "__VA_ARGS__"

-- the index of the argument that a name stands for, among these parameters: behind them is the
-- variable argument
abbrev pub index_among : Bool → List (List ℕ) → List ℕ → Option ℕ → Option ℕ
index_among variadic parameters name (Some i) = Some i
index_among variadic parameters name None =
    if variadic && bytes_eq name variable_name then Some (length parameters) else None

abbrev pub index_of : Bool → Option (List (List ℕ)) → List ℕ → Option ℕ
index_of variadic None name = None
index_of variadic (Some parameters) name =
    index_among variadic parameters name (position (bytes_eq name) parameters)

-- the index of the argument that a token of the body stands for
unfoldable pub parameter_at : Definition → Token → Option ℕ
parameter_at d t =
    if is_name t.kind then index_of d.variadic d.parameters t.text else None

-- `#`, and `##` (C11 6.10.3.2 and 6.10.3.3)
abbrev pub is_hash : Token → Bool
is_hash t = is_punctuator (codes "#") t

abbrev pub is_paste : Token → Bool
is_paste t = is_punctuator (codes "##") t

-- each `#` of a function-like body stands before a parameter (C11 6.10.3.2, paragraph 1)
abbrev pub begins_with_parameter : Definition → List Token → Bool
begins_with_parameter d [] = false
begins_with_parameter d (t ∷ ts) = is_some (parameter_at d t)

abbrev pub hashes_stand : Definition → List Token → Bool
hashes_stand d [] = true
hashes_stand d (t ∷ ts) =
    (if is_hash t then begins_with_parameter d ts else true) && hashes_stand d ts

abbrev pub are_distinct : Option (List (List ℕ)) → Type 0
are_distinct None = Unit {0}
are_distinct (Some parameters) = IsDistinct bytes_eq parameters

-- What can be a macro.
pub record IsDefinition (d : Definition) : Type 0 where
  pub distinct : are_distinct d.parameters
  pub variable : d.variadic ≡ true → is_some d.parameters ≡ true
  pub hashes : is_some d.parameters ≡ true → hashes_stand d d.body ≡ true
