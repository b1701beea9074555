-- What calls give that go through a text.
use Rattle.std.specs.Prelude.{◌≡◌, ◌≢◌, ℕ, List, Bool, true, false, Result, Ok, Err, Option, Some, None, Vec}
use Rattle.std.specs.declared.alloc.Global.{Global}
use Rattle.cx_tokens.specs.declared.token.Token.{Token}
use Rattle.cx_lex.specs.declared.piece.Piece.{Piece}
use Rattle.cx_macro.specs.declared.fault.MacroFault.{MacroFault}
use Rattle.cx_macro.specs.declared.fault.MacroFault.TheVariants as macro_fault
use Rattle.cx_macro.specs.Expansion.{ExpandsList, expanded, most_laid, refused}
use Rattle.cx_directive.specs.Answers.{is_defined}
use Rattle.cx_directive.specs.Operands.{name_of, operands}
use Rattle.cx_lines.specs.Nesting.{place_of}
use Rattle.cx_lines.specs.declared.kind.LineKind.{LineKind}
use Rattle.cx_lines.specs.declared.kind.LineKind.TheVariants.{Define, Undef, Error, Once, Passed, Bad}
use Rattle.cx_lines.specs.declared.nesting.NestingFault.{NestingFault}
use Rattle.cx_pre.specs.declared.fault.PreFault.{PreFault}
use Rattle.cx_pre.specs.declared.fault.PreFault.TheVariants.{BadDirective, Macro}
use Rattle.cx_shelf.specs.declared.shelf.Shelf.{Shelf}
use Rattle.cx_pre.specs.declared.stop.Stop.{Stop}
use Rattle.cx_pre.specs.declared.stop.Stop.TheVariants.{Fault, NoMemory}
use Rattle.cx_pre.specs.Choosing.{Comes}
use Rattle.cx_pre.specs.Conditions.{Decides, decided, undecided}
use Rattle.cx_pre.specs.Stages.{Outcome, Stage, stopped, through, with_laid, with_text}

-- a refused replacement stops with its fault, or with want of memory
abbrev pub StopsWith : MacroFault → Stop → Type 0
StopsWith fault (Fault f) = (f ≡ Macro fault) × (fault ≢ macro_fault.NoMemory)
StopsWith fault NoMemory = Unit {0}

-- the fault of a stop has a property; want of memory has none
abbrev pub OnFault : Stop → (PreFault → Type 0) → Type 0
OnFault (Fault f) P = P f
OnFault NoMemory P = Unit {0}

-- what replacement gives: tokens, and a stage in which they are laid; or a fault
abbrev pub Replaces : Stage → List Token → Stage → Result (Vec Token Global) Stop → Type 0
Replaces s ts new (Ok made) =
    ExpandsList s.macros most_laid s.laid ts (expanded made.items new.laid)
    × (new ≡ with_laid new.laid s)
Replaces s ts new (Err stop) =
    OnFault stop
    (λ f. (refusal : MacroFault) × (f ≡ Macro refusal) × (new.missing ≡ s.missing)
    × ExpandsList s.macros most_laid s.laid ts (refused refusal))

-- what text gives: its tokens, replaced, are chosen
abbrev pub TextIs : Stage → List Token → Stage → Result (List Piece) Stop → Type 0
TextIs s ts new (Ok rest) =
    (made : List Token) × ExpandsList s.macros most_laid s.laid ts (expanded made new.laid)
    × (new ≡ with_text made new.laid s)
TextIs s ts new (Err stop) =
    OnFault stop
    (λ f. (refusal : MacroFault) × (f ≡ Macro refusal) × (new.missing ≡ s.missing)
    × ExpandsList s.macros most_laid s.laid ts (refused refusal))

-- whether the name that a line has is defined
abbrev pub NameIs : Stage → List Piece → Result Bool Stop → Type 0
NameIs s line (Ok is_named) =
    (name : List ℕ) × (name_of (operands line) ≡ Some name)
    × (is_named ≡ is_defined s.macros name)
NameIs s line (Err stop) =
    OnFault stop (λ f. (name_of (operands line) ≡ None) × (f ≡ BadDirective (place_of line)))

-- a directive that neither includes nor asks
abbrev pub is_alone : LineKind → Bool
is_alone Define = true
is_alone Undef = true
is_alone Error = true
is_alone Once = true
is_alone Passed = true
is_alone Bad = true
is_alone _ = false

-- what comes of something, by its answer and the stage afterwards
abbrev pub Gives : (Outcome → Type 0) → Stage → Result (Unit {0}) Stop → Type 0
Gives P new (Ok x) = P (through new)
Gives P new (Err stop) = OnFault stop (λ f. P (stopped new.missing f))

-- what a line that asks decides, by the answer and the stage afterwards
abbrev pub DecisionIs : Stage → List Piece → Stage → Result Bool Stop → Type 0
DecisionIs s line new (Ok is_chosen) =
    Decides s line (decided is_chosen new.laid) × (new ≡ with_laid new.laid s)
DecisionIs s line new (Err stop) =
    OnFault stop (λ f. (new.missing ≡ s.missing) × Decides s line (undecided f))

-- what stands in front of lines leads on to other lines, by a stage
abbrev pub Leads : Shelf → ℕ → Stage → List (List Piece) → Stage → List (List Piece) → Type 0
Leads shelf file s lines new next =
    (depth : ℕ) (fault : Option NestingFault) (outcome : Outcome)
    → Comes shelf depth file fault new next outcome
    → Comes shelf depth file fault s lines outcome

-- lines stop at a fault
abbrev pub Stops : Shelf → ℕ → Stage → List (List Piece) → Stage → PreFault → Type 0
Stops shelf file s lines new f =
    (depth : ℕ) (fault : Option NestingFault)
    → Comes shelf depth file fault s lines (stopped new.missing f)
