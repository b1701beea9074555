-- What is chosen of a text (C11 6.10), by its lines.
use Rattle.std.specs.Prelude.{◌≡◌, ℕ, zero, suc, List, [], ◌∷◌, true, false, Option, Some, None, flat_map}
use Rattle.cx_base.specs.declared.place.Place.{Place}
use Rattle.cx_tokens.specs.declared.token.Token.{Token}
use Rattle.cx_lex.specs.declared.piece.Piece.{Piece}
use Rattle.cx_macro.specs.declared.fault.MacroFault.{MacroFault}
use Rattle.cx_macro.specs.Expansion.{ExpandsList, expanded, most_laid, refused}
use Rattle.cx_macro.specs.Macros.{Definition, Table}
use Rattle.cx_lines.specs.Kinds.{after_text, begins_text, ends_group, front_text, kind_of, opens}
use Rattle.cx_lines.specs.Lines.{lines_of}
use Rattle.cx_lines.specs.Nesting.{Extent, after_section, extent_of, place_of}
use Rattle.cx_lines.specs.declared.kind.LineKind.{LineKind}
use Rattle.cx_lines.specs.declared.kind.LineKind.TheVariants.{Include, Define, Undef, Error, Once, Passed, Bad}
use Rattle.cx_lines.specs.declared.nesting.NestingFault.{NestingFault}
use Rattle.cx_lines.specs.declared.nesting.NestingFault.TheVariants.{Stray, Unclosed}
use Rattle.cx_directive.specs.declared.include.IncludeName.{IncludeName}
use Rattle.cx_directive.specs.declared.include.Target.{Target}
use Rattle.cx_directive.specs.Defines.{defined_by}
use Rattle.cx_directive.specs.Operands.{name_of, operands, spelled, target_of, tokens_of}
use Rattle.cx_pre.specs.declared.fault.PreFault.{PreFault}
use Rattle.cx_pre.specs.declared.fault.PreFault.TheVariants.{BadDirective, Deep, ErrorDirective, Macro, StrayElse, UnclosedGroup}
use Rattle.cx_pre.specs.declared.config.Config.{Config}
use Rattle.cx_shelf.specs.declared.shelf.Shelf.{Shelf}
use Rattle.cx_pre.specs.Conditions.{Chooses, chosen, no_choice}
use Rattle.cx_shelf.specs.Searches.{found}
use Rattle.cx_shelf.specs.Shelves.{path_of, pieces_of}
use Rattle.cx_pre.specs.Stages.{Answer, Outcome, Stage, answer_of, first_stage, is_once, stopped, through, with_macros, with_missing, with_once, with_text}
use Rattle.cx_pre.specs.Starts.{IsStart, in_file, with_definition, without_definition}

-- how deep includes may be nested
abbrev pub include_depth : ℕ
include_depth = 64

-- the text stops at a fault
abbrev pub stops : Stage → PreFault → Outcome
stops s fault = stopped s.missing fault

abbrev pub after_define : Stage → Place → Option (List ℕ × Definition) → Outcome
after_define s at None = stops s (BadDirective at)
after_define s at (Some d) = through (with_macros (with_definition d.0 d.1 s.macros) s)

abbrev pub after_undef : Stage → Place → Option (List ℕ) → Outcome
after_undef s at None = stops s (BadDirective at)
after_undef s at (Some name) = through (with_macros (without_definition name s.macros) s)

-- what a directive of a file does, of those that neither include nor ask
unfoldable pub after_directive : LineKind → ℕ → Stage → List Piece → Option Outcome
after_directive Define file s line =
    Some (after_define s (place_of line) (defined_by (operands line)))
after_directive Undef file s line = Some (after_undef s (place_of line) (name_of (operands line)))
after_directive Error file s line =
    Some (stops s (ErrorDirective (place_of line) (spelled (operands line))))
after_directive Once file s line = Some (through (with_once file s))
after_directive Passed file s line = Some (through s)
after_directive Bad file s line = Some (stops s (BadDirective (place_of line)))
after_directive _ file s line = None

abbrev pub nesting_fault : NestingFault → PreFault
nesting_fault (Stray at) = StrayElse at
nesting_fault (Unclosed at) = UnclosedGroup at

-- where the lines that nest end, the text is gone through, or stops
abbrev pub at_end : Option NestingFault → Stage → Outcome
at_end None s = through s
at_end (Some fault) s = stops s (nesting_fault fault)

-- the tokens of the text in front of lines
abbrev pub text_tokens : List (List Piece) → List Token
text_tokens lines = tokens_of (flat_map (λ line. line) (front_text lines))

-- after an include the text goes on in the file that includes
abbrev pub back_in : Shelf → ℕ → Outcome → Outcome
back_in shelf file (through s) = through (in_file shelf file s)
back_in shelf file (stopped missing fault) = stopped missing fault

-- how far the lines of a file nest
abbrev pub extent_in : Shelf → ℕ → Extent
extent_in shelf file = extent_of (lines_of (pieces_of shelf file))

mutual
  -- Comes shelf depth file fault s lines outcome: this comes of lines of a file, which end with
  -- this fault of nesting or without one, where includes may be nested so deep.
  pub data Comes (shelf : Shelf)
      : ℕ → ℕ → Option NestingFault → Stage → List (List Piece) → Outcome → Type 0 where
    ends : {depth file : ℕ} {fault : Option NestingFault} {s : Stage}
        → Comes shelf depth file fault s [] (at_end fault s)
    -- text up to the next directive, whose macros are replaced as they stand
    text : {depth file : ℕ} {fault : Option NestingFault} {s : Stage} {lines : List (List Piece)}
        {outcome : Outcome} (ts : List Token) (laid : ℕ) → begins_text lines ≡ true
        → ExpandsList s.macros most_laid s.laid (text_tokens lines) (expanded ts laid)
        → Comes shelf depth file fault (with_text ts laid s) (after_text lines) outcome
        → Comes shelf depth file fault s lines outcome
    text_stops : {depth file : ℕ} {fault : Option NestingFault} {s : Stage}
        {lines : List (List Piece)} (refusal : MacroFault) → begins_text lines ≡ true
        → ExpandsList s.macros most_laid s.laid (text_tokens lines) (refused refusal)
        → Comes shelf depth file fault s lines (stops s (Macro refusal))
    directive : {depth file : ℕ} {fault : Option NestingFault} {s : Stage} {line : List Piece}
        {rest : List (List Piece)} {outcome : Outcome} (next : Stage)
        → Does shelf depth file s line (through next)
        → Comes shelf depth file fault next rest outcome
        → Comes shelf depth file fault s (line ∷ rest) outcome
    directive_stops : {depth file : ℕ} {fault : Option NestingFault} {s : Stage}
        {line : List Piece} {rest : List (List Piece)} (missing : List IncludeName)
        (refusal : PreFault) → Does shelf depth file s line (stopped missing refusal)
        → Comes shelf depth file fault s (line ∷ rest) (stopped missing refusal)
    -- a section: the text goes on with the group that is chosen
    section : {depth file : ℕ} {fault : Option NestingFault} {s : Stage} {line : List Piece}
        {rest : List (List Piece)} {outcome : Outcome} (next : Stage) (lines : List (List Piece))
        → opens (kind_of line) ≡ true → Chooses s line rest (chosen next lines)
        → Comes shelf depth file fault next lines outcome
        → Comes shelf depth file fault s (line ∷ rest) outcome
    section_stops : {depth file : ℕ} {fault : Option NestingFault} {s : Stage}
        {line : List Piece} {rest : List (List Piece)} (refusal : PreFault)
        → opens (kind_of line) ≡ true → Chooses s line rest (no_choice refusal)
        → Comes shelf depth file fault s (line ∷ rest) (stops s refusal)
    -- the group that was chosen ends: the rest of its section is passed over
    group_ends : {depth file : ℕ} {fault : Option NestingFault} {s : Stage} {line : List Piece}
        {rest : List (List Piece)} {outcome : Outcome} → ends_group (kind_of line) ≡ true
        → Comes shelf depth file fault s (after_section 0 (line ∷ rest)) outcome
        → Comes shelf depth file fault s (line ∷ rest) outcome

  -- Does shelf depth file s line outcome: this comes of a directive of a file that asks nothing.
  pub data Does (shelf : Shelf) : ℕ → ℕ → Stage → List Piece → Outcome → Type 0 where
    alone : {depth file : ℕ} {s : Stage} {line : List Piece} {outcome : Outcome}
        → after_directive (kind_of line) file s line ≡ Some outcome
        → Does shelf depth file s line outcome
    includes_nothing : {depth file : ℕ} {s : Stage} {line : List Piece}
        → kind_of line ≡ Include → target_of (operands line) ≡ None
        → Does shelf depth file s line (stops s (BadDirective (place_of line)))
    too_deep : {file : ℕ} {s : Stage} {line : List Piece} (target : Target)
        → kind_of line ≡ Include → target_of (operands line) ≡ Some target
        → Does shelf zero file s line (stops s (Deep target.name.at))
    nowhere : {depth file : ℕ} {s : Stage} {line : List Piece} (target : Target)
        → kind_of line ≡ Include → target_of (operands line) ≡ Some target
        → found shelf (path_of shelf file) target ≡ None
        → Does shelf (suc depth) file s line (through (with_missing target.name s))
    once_more : {depth file : ℕ} {s : Stage} {line : List Piece} (target : Target) (other : ℕ)
        → kind_of line ≡ Include → target_of (operands line) ≡ Some target
        → found shelf (path_of shelf file) target ≡ Some other → is_once other s ≡ true
        → Does shelf (suc depth) file s line (through s)
    enters : {depth file : ℕ} {s : Stage} {line : List Piece} {outcome : Outcome}
        (target : Target) (other : ℕ) (inner : Outcome)
        → kind_of line ≡ Include → target_of (operands line) ≡ Some target
        → found shelf (path_of shelf file) target ≡ Some other → is_once other s ≡ false
        → Comes shelf depth other (extent_in shelf other).fault (in_file shelf other s)
        (extent_in shelf other).front inner → outcome ≡ back_in shelf file inner
        → Does shelf (suc depth) file s line outcome

-- what comes of a whole file
abbrev pub Enters : Shelf → ℕ → ℕ → Stage → Outcome → Type 0
Enters shelf depth file s outcome =
    Comes shelf depth file (extent_in shelf file).fault (in_file shelf file s)
    (extent_in shelf file).front outcome

-- What is chosen of a unit in a configuration.
pub data IsChosen (shelf : Shelf) (unit : ℕ) (config : Config) : Answer → Type 0 where
  is_chosen : (macros : Table) (outcome : Outcome) → IsStart config macros
      → Enters shelf include_depth unit (first_stage shelf macros) outcome
      → IsChosen shelf unit config (answer_of outcome)
