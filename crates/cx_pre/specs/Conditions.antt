-- Whether a group of a section is chosen, by the line that begins it (C11 6.10.1).
use Rattle.std.specs.Prelude.{◌≡◌, ℕ, ◌==◌, List, [], ◌∷◌, Bool, true, false, not, Option, Some, None}
use Rattle.cx_tokens.specs.declared.token.Token.{Token}
use Rattle.cx_lex.specs.declared.piece.Piece.{Piece}
use Rattle.cx_condition.specs.Conditions.{Reads, Tree, value}
use Rattle.cx_condition.specs.declared.value.Value.{Value}
use Rattle.cx_macro.specs.declared.fault.MacroFault.{MacroFault}
use Rattle.cx_macro.specs.Expansion.{ExpandsList, expanded, most_laid, refused}
use Rattle.cx_lines.specs.Kinds.{kind_of}
use Rattle.cx_lines.specs.Nesting.{from_part, place_of}
use Rattle.cx_lines.specs.declared.kind.LineKind.{LineKind}
use Rattle.cx_lines.specs.declared.kind.LineKind.TheVariants.{If, Ifdef, Ifndef, Elif, Else, Endif}
use Rattle.cx_directive.specs.Answers.{answered, is_defined}
use Rattle.cx_directive.specs.Operands.{name_of, operands}
use Rattle.cx_pre.specs.declared.fault.PreFault.{PreFault}
use Rattle.cx_pre.specs.declared.fault.PreFault.TheVariants.{BadCondition, BadDirective, Macro}
use Rattle.cx_pre.specs.Stages.{Stage, with_laid}

-- HasValue tokens v: the value of the condition that tokens are, or none where no tree that reads
-- them has a value.
pub data HasValue (ts : List Token) : Option Value → Type 0 where
  has : {v : Value} (t : Tree) → Reads ts t → value t ≡ Some v → HasValue ts (Some v)
  has_none : ((t : Tree) → Reads ts t → value t ≡ None) → HasValue ts None

abbrev pub is_nonzero : Value → Bool
is_nonzero v = not (v.bits == 0)

-- a line with a condition
abbrev pub asks_value : LineKind → Bool
asks_value If = true
asks_value Elif = true
asks_value _ = false

-- what `ifdef` and `ifndef` say of a name, by whether it is defined
abbrev pub said_of : LineKind → Bool → Option Bool
said_of Ifdef defined = Some defined
said_of Ifndef defined = Some (not defined)
said_of _ defined = None

-- `else`; and `endif`, after which the text goes on in any case
abbrev pub is_unconditional : LineKind → Bool
is_unconditional Else = true
is_unconditional Endif = true
is_unconditional _ = false

-- Whether the lines after a line are chosen, and how many tokens were laid then; or a fault.
pub data Decision : Type 0 where
  decided : Bool → ℕ → Decision
  undecided : PreFault → Decision

pub data Decides (s : Stage) (line : List Piece) : Decision → Type 0 where
  value_is : {ts : List Token} {laid : ℕ} {v : Value} → asks_value (kind_of line) ≡ true
      → ExpandsList s.macros most_laid s.laid (answered s.macros (operands line)) (expanded ts laid)
      → HasValue ts (Some v) → Decides s line (decided (is_nonzero v) laid)
  no_value : {ts : List Token} {laid : ℕ} → asks_value (kind_of line) ≡ true
      → ExpandsList s.macros most_laid s.laid (answered s.macros (operands line)) (expanded ts laid)
      → HasValue ts None → Decides s line (undecided (BadCondition (place_of line)))
  not_replaced : {fault : MacroFault} → asks_value (kind_of line) ≡ true
      → ExpandsList s.macros most_laid s.laid (answered s.macros (operands line)) (refused fault)
      → Decides s line (undecided (Macro fault))
  name_is : {name : List ℕ} {is_chosen : Bool}
      → said_of (kind_of line) (is_defined s.macros name) ≡ Some is_chosen
      → name_of (operands line) ≡ Some name → Decides s line (decided is_chosen s.laid)
  no_name : {is_chosen : Bool} → said_of (kind_of line) true ≡ Some is_chosen
      → name_of (operands line) ≡ None
      → Decides s line (undecided (BadDirective (place_of line)))
  no_condition : is_unconditional (kind_of line) ≡ true → Decides s line (decided true s.laid)

-- The text that goes on after the lines that ask, and how far it has been gone through; or a fault.
pub data Choice : Type 0 where
  chosen : Stage → List (List Piece) → Choice
  no_choice : PreFault → Choice

-- Chooses s line rest choice: of the groups of a section from a line on, with the lines after it,
-- the first is chosen whose line says so, each being asked in order (C11 6.10.1, paragraph 6); the
-- text goes on with its lines, or after the `endif`.
pub data Chooses : Stage → List Piece → List (List Piece) → Choice → Type 0 where
  this_one : {s : Stage} {line : List Piece} {rest : List (List Piece)} {laid : ℕ}
      → Decides s line (decided true laid)
      → Chooses s line rest (chosen (with_laid laid s) rest)
  another : {s : Stage} {line : List Piece} {rest : List (List Piece)} {laid : ℕ}
      {choice : Choice} (part : List Piece) (more : List (List Piece))
      → Decides s line (decided false laid) → from_part 0 rest ≡ part ∷ more
      → Chooses (with_laid laid s) part more choice → Chooses s line rest choice
  none_left : {s : Stage} {line : List Piece} {rest : List (List Piece)} {laid : ℕ}
      → Decides s line (decided false laid) → from_part 0 rest ≡ []
      → Chooses s line rest (chosen (with_laid laid s) [])
  no_decision : {s : Stage} {line : List Piece} {rest : List (List Piece)} {fault : PreFault}
      → Decides s line (undecided fault) → Chooses s line rest (no_choice fault)
