-- Some outcome: each unit has an answer in each configuration.
use Rattle.std.proofs.Common.{◌≡◌, ℕ, zero, suc, ◌<◌, ◌≤◌, Bool, true, false, not, List, [], ◌∷◌, Option, Some, None, refl, ap, arith, length}
use Rattle.cx_base.specs.declared.place.Place.{Place}
use Rattle.cx_tokens.specs.declared.token.Token.{Token}
use Rattle.cx_lex.specs.declared.piece.Piece.{Piece}
use Rattle.cx_condition.specs.declared.value.Value.{Value}
use Rattle.cx_macro.specs.Expansion as macro
use Rattle.cx_macro.specs.Expansion.{ExpandsList, expanded, most_laid, refused}
use Rattle.cx_macro.specs.Macros.{Definition, Table}
use Rattle.cx_macro.proofs.BoundLaws.{met}
use Rattle.cx_macro.proofs.ExistenceLaws.{list_some}
use Rattle.cx_lines.specs.Kinds.{after_text, ends_group, is_text, kind_of, opens}
use Rattle.cx_lines.specs.Nesting.{after_section, from_part, place_of}
use Rattle.cx_lines.specs.declared.kind.LineKind.{LineKind}
use Rattle.cx_lines.specs.declared.kind.LineKind.TheVariants.{If, Ifdef, Ifndef, Elif, Else, Endif, Include, Define, Undef, Error, Once, Passed, Bad}
use Rattle.cx_lines.specs.declared.nesting.NestingFault.{NestingFault}
use Rattle.cx_directive.specs.declared.include.Target.{Target}
use Rattle.cx_directive.specs.Answers.{answered, is_defined}
use Rattle.cx_directive.specs.Defines.{defined_by}
use Rattle.cx_directive.specs.Operands.{name_of, operands, spelled, target_of}
use Rattle.cx_pre.specs.declared.fault.PreFault.TheVariants.{BadCondition, BadDirective, Deep, ErrorDirective, Macro}
use Rattle.cx_pre.specs.declared.config.Config.{Config}
use Rattle.cx_shelf.specs.declared.shelf.Shelf.{Shelf}
use Rattle.cx_pre.specs.Choosing.{Comes, Does, IsChosen, after_define, after_directive, after_undef, alone, at_end, back_in, directive, directive_stops, ends, enters, extent_in, group_ends, include_depth, includes_nothing, is_chosen, nowhere, once_more, section, section_stops, stops, text, text_stops, text_tokens, too_deep}
use Rattle.cx_pre.specs.Conditions.{Choice, Chooses, Decides, Decision, HasValue, another, asks_value, chosen, decided, is_nonzero, is_unconditional, name_is, no_choice, no_condition, no_decision, no_name, no_value, none_left, not_replaced, said_of, this_one, undecided, value_is}
use Rattle.cx_shelf.specs.Searches.{found}
use Rattle.cx_shelf.specs.Shelves.{path_of}
use Rattle.cx_pre.specs.Stages.{Answer, Outcome, Stage, answer_of, first_stage, is_once, stopped, through, with_laid, with_missing, with_once, with_text}
use Rattle.cx_pre.specs.Starts.{IsStart, in_file}
use Rattle.cx_pre.proofs.KindLaws.{Sorted, by_directive, by_opening, by_part, by_text, is_a_directive, sort_of, sorted}
use Rattle.cx_pre.proofs.LengthLaws.{after_section_less, after_text_less, from_part_ends, from_part_length}

-- each list of tokens has a value or none
abbrev pub SomeValue : Type 0
SomeValue = (tokens : List Token) → (v : Option Value) × HasValue tokens v

-- no more was laid than may be
abbrev pub IsMet : Stage → Type 0
IsMet s = s.laid ≤ most_laid

-- the ways in which a line asks
pub data Asks (kind : LineKind) : Type 0 where
  by_value : asks_value kind ≡ true → Asks kind
  by_name : ((is_defined : Bool) → (is_chosen : Bool) × (said_of kind is_defined ≡ Some is_chosen)) → Asks kind
  by_nothing : is_unconditional kind ≡ true → Asks kind

pub opening_asks : (kind : LineKind) → opens kind ≡ true → Asks kind
opening_asks If e = by_value refl
opening_asks Ifdef e = by_name (λ b. (b, refl))
opening_asks Ifndef e = by_name (λ b. (not b, refl))
opening_asks _ e = absurd cc

pub part_asks : (kind : LineKind) → ends_group kind ≡ true → Asks kind
part_asks Elif e = by_value refl
part_asks Else e = by_nothing refl
part_asks Endif e = by_nothing refl
part_asks _ e = absurd cc

abbrev pub DecisionMet : Decision → Type 0
DecisionMet (decided b laid) = laid ≤ most_laid
DecisionMet (undecided fault) = Unit {0}

pub record FoundDecision (s : Stage) (line : List Piece) : Type 0 where
  pub decision : Decision
  pub decides : Decides s line decision
  pub met : DecisionMet decision

-- each line that asks decides something
pub some_decision : SomeValue → (s : Stage) (line : List Piece) → IsMet s → Asks (kind_of line) → FoundDecision s line
some_decision some_value s line le (by_nothing u) = record { decision = decided true s.laid; decides = no_condition u; met = le }
some_decision some_value s line le (by_name said) = at (name_of (operands line)) refl
  where
    at : (name : Option (List ℕ)) → name_of (operands line) ≡ name → FoundDecision s line
    at None e = let a = said true in record { decision = undecided (BadDirective (place_of line)); decides = no_name a.1 e; met = tt }
    at (Some name) e = let a = said (is_defined s.macros name) in record { decision = decided a.0 s.laid; decides = name_is a.1 e; met = le }
some_decision some_value s line le (by_value a) = let o = list_some s.macros most_laid s.laid (answered s.macros (operands line)) le in at o.0 o.1
  where
    by : (ts : List Token) (laid : ℕ) → ExpandsList s.macros most_laid s.laid (answered s.macros (operands line)) (expanded ts laid) → (v : Option Value) → HasValue ts v
        → FoundDecision s line
    by ts laid e None h = record { decision = undecided (BadCondition (place_of line)); decides = no_value a e h; met = tt }
    by ts laid e (Some v) h = record { decision = decided (is_nonzero v) laid; decides = value_is a e h; met = met s.macros most_laid s.laid (answered s.macros (operands line)) ts laid e }

    at : (o : macro.Outcome) → ExpandsList s.macros most_laid s.laid (answered s.macros (operands line)) o → FoundDecision s line
    at (refused fault) e = record { decision = undecided (Macro fault); decides = not_replaced a e; met = tt }
    at (expanded ts laid) e = let v = some_value ts in by ts laid e v.0 v.1

abbrev pub ChoiceMet : ℕ → Choice → Type 0
ChoiceMet n (chosen next lines) = (next.laid ≤ most_laid) × (length lines ≤ n)
ChoiceMet n (no_choice fault) = Unit {0}

choice_met : (m n : ℕ) (choice : Choice) → m ≤ n → ChoiceMet m choice → ChoiceMet n choice
choice_met m n (chosen next lines) le h = let l = h.1 in (h.0, omega (arith, l, le))
choice_met m n (no_choice fault) le h = tt

pub record FoundChoice (s : Stage) (line : List Piece) (rest : List (List Piece)) : Type 0 where
  pub choice : Choice
  pub chooses : Chooses s line rest choice
  pub met : ChoiceMet (length rest) choice

-- by the lines that are left
choice_within : SomeValue → (work : ℕ) (s : Stage) (line : List Piece) (rest : List (List Piece)) → length rest < work → IsMet s → Asks (kind_of line) → FoundChoice s line rest
choice_within some_value zero s line rest less le asks = absurd (omega (arith, less))
choice_within some_value (suc work) s line rest less le asks =
    let d = some_decision some_value s line le asks in
    at (λ t part more l m a. choice_within some_value work t part more l m a) d.decision d.decides d.met
  where
    Next : Type 0
    Next = (t : Stage) (part : List Piece) (more : List (List Piece)) → length more < work → IsMet t → Asks (kind_of part) → FoundChoice t part more

    left : Next → (laid : ℕ) → Decides s line (decided false laid) → laid ≤ most_laid → (lines : List (List Piece)) → from_part 0 rest ≡ lines → FoundChoice s line rest
    left next laid h m [] e = record { choice = chosen (with_laid laid s) []; chooses = none_left h e; met = (m, omega arith) }
    left next laid h m (part ∷ more) e =
        let same : length (from_part 0 rest) ≡ length (part ∷ more) = ap length e in
        let shorter = from_part_length 0 rest in
        let within : length more < length rest = omega (arith, same, shorter) in
        let c = next (with_laid laid s) part more (omega (arith, within, less)) m (part_asks (kind_of part) (from_part_ends 0 rest part more e)) in
        record { choice = c.choice; chooses = another part more h e c.chooses; met = choice_met (length more) (length rest) c.choice (omega (arith, within)) c.met }

    at : Next → (d : Decision) → Decides s line d → DecisionMet d → FoundChoice s line rest
    at next (undecided fault) h m = record { choice = no_choice fault; chooses = no_decision h; met = tt }
    at next (decided true laid) h m = record { choice = chosen (with_laid laid s) rest; chooses = this_one h; met = (m, omega arith) }
    at next (decided false laid) h m = left next laid h m (from_part 0 rest) refl

-- each section has a choice
pub some_choice : SomeValue → (s : Stage) (line : List Piece) (rest : List (List Piece)) → IsMet s → Asks (kind_of line) → FoundChoice s line rest
some_choice some_value s line rest le asks = choice_within some_value (suc (length rest)) s line rest (omega arith) le asks

abbrev pub OutcomeMet : Outcome → Type 0
OutcomeMet (through s) = s.laid ≤ most_laid
OutcomeMet (stopped missing fault) = Unit {0}

-- what a directive does that asks nothing: an include, or one that does it alone
data Acts (kind : LineKind) : Type 0 where
  by_include : kind ≡ Include → Acts kind
  by_itself : ((file : ℕ) (s : Stage) (line : List Piece) → IsMet s → (o : Outcome) × (after_directive kind file s line ≡ Some o) × OutcomeMet o) → Acts kind

define_met : (s : Stage) (place : Place) (d : Option (List ℕ × Definition)) → IsMet s → OutcomeMet (after_define s place d)
define_met s place None le = tt
define_met s place (Some d) le = le

undef_met : (s : Stage) (place : Place) (name : Option (List ℕ)) → IsMet s → OutcomeMet (after_undef s place name)
undef_met s place None le = tt
undef_met s place (Some name) le = le

acts : (kind : LineKind) → sort_of kind ≡ is_a_directive → Acts kind
unfolding after_directive
acts Include e = by_include refl
acts Define e = by_itself (λ file s line le. (after_define s (place_of line) (defined_by (operands line)), refl, define_met s (place_of line) (defined_by (operands line)) le))
acts Undef e = by_itself (λ file s line le. (after_undef s (place_of line) (name_of (operands line)), refl, undef_met s (place_of line) (name_of (operands line)) le))
acts Error e = by_itself (λ file s line le. (stops s (ErrorDirective (place_of line) (spelled (operands line))), refl, tt))
acts Once e = by_itself (λ file s line le. (through (with_once file s), refl, le))
acts Passed e = by_itself (λ file s line le. (through s, refl, le))
acts Bad e = by_itself (λ file s line le. (stops s (BadDirective (place_of line)), refl, tt))
acts _ e = absurd cc

record FoundDoing (shelf : Shelf) (depth file : ℕ) (s : Stage) (line : List Piece) : Type 0 where
  outcome : Outcome
  does : Does shelf depth file s line outcome
  met : OutcomeMet outcome

pub record Found (shelf : Shelf) (depth file : ℕ) (fault : Option NestingFault) (s : Stage) (lines : List (List Piece)) : Type 0 where
  pub outcome : Outcome
  pub comes : Comes shelf depth file fault s lines outcome
  pub met : OutcomeMet outcome

-- something comes of each directive, at a depth
Doing : Shelf → ℕ → Type 0
Doing shelf depth = (file : ℕ) (s : Stage) (line : List Piece) → IsMet s → sort_of (kind_of line) ≡ is_a_directive → FoundDoing shelf depth file s line

-- something comes of all lines, at a depth
Coming : Shelf → ℕ → Type 0
Coming shelf depth = (file : ℕ) (fault : Option NestingFault) (s : Stage) (lines : List (List Piece)) → IsMet s → Found shelf depth file fault s lines

doing : (shelf : Shelf) (depth : ℕ) → ((file : ℕ) (s : Stage) (line : List Piece) → IsMet s → kind_of line ≡ Include → FoundDoing shelf depth file s line) → Doing shelf depth
unfolding Doing
doing shelf depth including file s line le e = at (acts (kind_of line) e)
  where
    at : Acts (kind_of line) → FoundDoing shelf depth file s line
    at (by_include k) = including file s line le k
    at (by_itself h) = let o = h file s line le in record { outcome = o.0; does = alone o.1; met = o.2 }

doing_none : (shelf : Shelf) → Doing shelf zero
doing_none shelf = doing shelf zero (λ file s line le k. at file s line k (target_of (operands line)) refl)
  where
    at : (file : ℕ) (s : Stage) (line : List Piece) → kind_of line ≡ Include → (target : Option Target) → target_of (operands line) ≡ target → FoundDoing shelf zero file s line
    at file s line k None e = record { outcome = stops s (BadDirective (place_of line)); does = includes_nothing k e; met = tt }
    at file s line k (Some target) e = record { outcome = stops s (Deep target.name.at); does = too_deep target k e; met = tt }

back_met : (shelf : Shelf) (file : ℕ) (o : Outcome) → OutcomeMet o → OutcomeMet (back_in shelf file o)
back_met shelf file (through s) m = m
back_met shelf file (stopped missing fault) m = tt

doing_some : (shelf : Shelf) (depth : ℕ) → Coming shelf depth → Doing shelf (suc depth)
unfolding Coming
doing_some shelf depth coming = doing shelf (suc depth) (λ file s line le k. at file s line le k (target_of (operands line)) refl)
  where
    entered : (file : ℕ) (s : Stage) (line : List Piece) → IsMet s → kind_of line ≡ Include → (target : Target) → target_of (operands line) ≡ Some target
        → (other : ℕ) → found shelf (path_of shelf file) target ≡ Some other → (marked : Bool) → is_once other s ≡ marked → FoundDoing shelf (suc depth) file s line
    entered file s line le k target e other f true m = record { outcome = through s; does = once_more target other k e f m; met = le }
    entered file s line le k target e other f false m =
        let c = coming other (extent_in shelf other).fault (in_file shelf other s) (extent_in shelf other).front le in
        record { outcome = back_in shelf file c.outcome; does = enters target other c.outcome k e f m c.comes refl; met = back_met shelf file c.outcome c.met }

    led : (file : ℕ) (s : Stage) (line : List Piece) → IsMet s → kind_of line ≡ Include → (target : Target) → target_of (operands line) ≡ Some target
        → (other : Option ℕ) → found shelf (path_of shelf file) target ≡ other → FoundDoing shelf (suc depth) file s line
    led file s line le k target e None f = record { outcome = through (with_missing target.name s); does = nowhere target k e f; met = le }
    led file s line le k target e (Some other) f = entered file s line le k target e other f (is_once other s) refl

    at : (file : ℕ) (s : Stage) (line : List Piece) → IsMet s → kind_of line ≡ Include → (target : Option Target) → target_of (operands line) ≡ target
        → FoundDoing shelf (suc depth) file s line
    at file s line le k None e = record { outcome = stops s (BadDirective (place_of line)); does = includes_nothing k e; met = tt }
    at file s line le k (Some target) e = led file s line le k target e (found shelf (path_of shelf file) target) refl

end_met : (fault : Option NestingFault) (s : Stage) → IsMet s → OutcomeMet (at_end fault s)
end_met None s le = le
end_met (Some fault) s le = tt

-- by the lines that are left
coming_within : SomeValue → (shelf : Shelf) (depth : ℕ) → Doing shelf depth → (work file : ℕ) (fault : Option NestingFault) (s : Stage) (lines : List (List Piece))
    → length lines < work → IsMet s → Found shelf depth file fault s lines
unfolding Doing
coming_within some_value shelf depth does zero file fault s lines less le = absurd (omega (arith, less))
coming_within some_value shelf depth does (suc work) file fault s [] less le = record { outcome = at_end fault s; comes = ends; met = end_met fault s le }
coming_within some_value shelf depth does (suc work) file fault s (line ∷ rest) less le =
    at (λ t more l m. coming_within some_value shelf depth does work file fault t more l m) (sorted (kind_of line))
  where
    Next : Type 0
    Next = (t : Stage) (more : List (List Piece)) → length more < work → IsMet t → Found shelf depth file fault t more

    texts : Next → is_text (kind_of line) ≡ true → (o : macro.Outcome) → ExpandsList s.macros most_laid s.laid (text_tokens (line ∷ rest)) o → Found shelf depth file fault s (line ∷ rest)
    texts next k (refused fault) e = record { outcome = stops s (Macro fault); comes = text_stops fault k e; met = tt }
    texts next k (expanded ts laid) e =
        let shorter = after_text_less line rest k in
        let c = next (with_text ts laid s) (after_text (line ∷ rest)) (omega (arith, shorter, less)) (met s.macros most_laid s.laid (text_tokens (line ∷ rest)) ts laid e) in
        record { outcome = c.outcome; comes = text ts laid k e c.comes; met = c.met }

    directives : Next → (o : Outcome) → Does shelf depth file s line o → OutcomeMet o → Found shelf depth file fault s (line ∷ rest)
    directives next (stopped missing refusal) d m = record { outcome = stopped missing refusal; comes = directive_stops missing refusal d; met = tt }
    directives next (through t) d m = let c = next t rest (omega (arith, less)) m in record { outcome = c.outcome; comes = directive t d c.comes; met = c.met }

    sections : Next → opens (kind_of line) ≡ true → (choice : Choice) → Chooses s line rest choice → ChoiceMet (length rest) choice → Found shelf depth file fault s (line ∷ rest)
    sections next k (no_choice refusal) h m = record { outcome = stops s refusal; comes = section_stops refusal k h; met = tt }
    sections next k (chosen t lines) h m =
        let shorter = m.1 in let c = next t lines (omega (arith, shorter, less)) m.0 in record { outcome = c.outcome; comes = section t lines k h c.comes; met = c.met }

    at : Next → Sorted (kind_of line) → Found shelf depth file fault s (line ∷ rest)
    at next (by_text k) = let o = list_some s.macros most_laid s.laid (text_tokens (line ∷ rest)) le in texts next k o.0 o.1
    at next (by_opening k) =
        let h = some_choice some_value s line rest le (opening_asks (kind_of line) k) in sections next k h.choice h.chooses h.met
    at next (by_part k) =
        let shorter = after_section_less 0 line rest in
        let c = next s (after_section 0 (line ∷ rest)) (omega (arith, shorter, less)) le in
        record { outcome = c.outcome; comes = group_ends k c.comes; met = c.met }
    at next (by_directive k) = let d = does file s line le k in directives next d.outcome d.does d.met

coming_by : SomeValue → (shelf : Shelf) (depth : ℕ) → Doing shelf depth → Coming shelf depth
unfolding Coming
coming_by some_value shelf depth does file fault s lines le = coming_within some_value shelf depth does (suc (length lines)) file fault s lines (omega arith) le

-- by the depth of includes
coming : SomeValue → (shelf : Shelf) (depth : ℕ) → Coming shelf depth
coming some_value shelf zero = coming_by some_value shelf zero (doing_none shelf)
coming some_value shelf (suc depth) = coming_by some_value shelf (suc depth) (doing_some shelf depth (coming some_value shelf depth))

-- something comes of all lines
pub some_outcome : SomeValue → (shelf : Shelf) (depth file : ℕ) (fault : Option NestingFault) (s : Stage) (lines : List (List Piece)) → IsMet s
    → Found shelf depth file fault s lines
unfolding Coming
some_outcome some_value shelf depth file fault s lines le = coming some_value shelf depth file fault s lines le

-- each unit has an answer in each configuration
pub some_answer : SomeValue → ((config : Config) → (macros : Table) × IsStart config macros) → (shelf : Shelf) (unit : ℕ) (config : Config)
    → (a : Answer) × IsChosen shelf unit config a
some_answer some_value some_start shelf unit config =
    let start = some_start config in
    let o = some_outcome some_value shelf include_depth unit (extent_in shelf unit).fault (in_file shelf unit (first_stage shelf start.0)) (extent_in shelf unit).front (omega arith) in
    (answer_of o.outcome, is_chosen start.0 o.outcome start.1 o.comes)
