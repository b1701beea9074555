-- What lines that ask decide.
use Rattle.std.proofs.Common.{◌≡◌, ◌≢◌, List, Bool, true, not, ◌||◌, Some, None, Result, Ok, Err, refl, sym, ap, ◌∙◌, subst}
use Rattle.cx_tokens.specs.declared.token.Token.{Token}
use Rattle.cx_lex.specs.declared.piece.Piece.{Piece}
use Rattle.cx_condition.specs.Conditions.{Reads, Tree, value}
use Rattle.cx_condition.specs.declared.value.Value.{Value}
use Rattle.cx_macro.specs.declared.fault.MacroFault.{MacroFault}
use Rattle.cx_macro.specs.Expansion.{ExpandsList, expanded, most_laid, refused}
use Rattle.cx_lines.specs.Kinds.{ends_group, kind_of, opens}
use Rattle.cx_lines.specs.Nesting.{place_of}
use Rattle.cx_lines.specs.declared.kind.LineKind.{LineKind}
use Rattle.cx_lines.specs.declared.kind.LineKind.TheVariants as kind_is
use Rattle.cx_directive.specs.Answers.{answered, is_defined}
use Rattle.cx_directive.specs.Operands.{operands}
use Rattle.cx_pre.specs.declared.fault.PreFault.{PreFault}
use Rattle.cx_pre.specs.declared.fault.PreFault.TheVariants.{BadCondition, Macro}
use Rattle.cx_pre.specs.declared.stop.Stop.{Stop}
use Rattle.cx_pre.specs.declared.stop.Stop.TheVariants.{Fault, NoMemory}
use Rattle.cx_pre.specs.Conditions.{Decides, asks_value, decided, has, has_none, is_nonzero, is_unconditional, name_is, no_condition, no_name, no_value, not_replaced, undecided, value_is}
use Rattle.cx_pre.specs.Conditions as Conditions
use Rattle.cx_pre.specs.Shapes.Gives.{DecisionIs, NameIs}
use Rattle.cx_pre.specs.Stages.{Stage}

pub value_decides : (s new : Stage) (line : List Piece) (ts : List Token) (v : Value) (b : Bool) → asks_value (kind_of line) ≡ true
    → ExpandsList s.macros most_laid s.laid (answered s.macros (operands line)) (expanded ts new.laid)
    → (t : Tree) × Reads ts t × (value t ≡ Some v) → b ≡ is_nonzero v → Decides s line (decided b new.laid)
value_decides s new line ts v b a e (t, r, w) is =
    subst (λ c. Decides s line (decided c new.laid)) (sym is) (value_is a e (has t r w))

pub nothing_decides : (s new : Stage) (line : List Piece) (ts : List Token) (f : PreFault) → asks_value (kind_of line) ≡ true
    → ExpandsList s.macros most_laid s.laid (answered s.macros (operands line)) (expanded ts new.laid)
    → ((t : Tree) → Reads ts t → None ≡ value t) → f ≡ BadCondition (place_of line) → Decides s line (undecided f)
nothing_decides s new line ts f a e n is =
    subst (λ c. Decides s line (undecided c)) (sym is) (no_value a e (has_none (λ t r. sym (n t r))))

pub refusal_decides : (s : Stage) (line : List Piece) (f : PreFault) (refusal : MacroFault) → asks_value (kind_of line) ≡ true
    → f ≡ Macro refusal → ExpandsList s.macros most_laid s.laid (answered s.macros (operands line)) (refused refusal) → Decides s line (undecided f)
refusal_decides s line f refusal a is e = subst (λ c. Decides s line (undecided c)) (sym is) (not_replaced a e)

pub name_decides : (s : Stage) (line : List Piece) (r : Result Bool Stop) → kind_of line ≡ kind_is.Ifdef → NameIs s line r → DecisionIs s line s r
name_decides s line (Ok b) k (name, n, d) =
    (name_is (ap (λ t. Conditions.said_of t (is_defined s.macros name)) k ∙ ap Some (sym d)) n, refl)
name_decides s line (Err (Fault f)) k (n, is) =
    (refl, subst (λ c. Decides s line (undecided c)) (sym is) (no_name (ap (λ t. Conditions.said_of t true) k) n))
name_decides s line (Err NoMemory) k h = tt

-- the other way round
abbrev pub turned : Result Bool Stop → Result Bool Stop
turned (Ok b) = Ok (not b)
turned (Err stop) = Err stop

pub no_name_decides : (s : Stage) (line : List Piece) (r : Result Bool Stop) → kind_of line ≡ kind_is.Ifndef → NameIs s line r
    → DecisionIs s line s (turned r)
no_name_decides s line (Ok b) k (name, n, d) =
    (name_is (ap (λ t. Conditions.said_of t (is_defined s.macros name)) k ∙ ap (λ t. Some (not t)) (sym d)) n, refl)
no_name_decides s line (Err (Fault f)) k (n, is) =
    (refl, subst (λ c. Decides s line (undecided c)) (sym is) (no_name (ap (λ t. Conditions.said_of t true) k) n))
no_name_decides s line (Err NoMemory) k h = tt

asks : (kind : LineKind) → (opens kind || ends_group kind) ≡ true → kind ≢ kind_is.If → kind ≢ kind_is.Elif → kind ≢ kind_is.Ifdef → kind ≢ kind_is.Ifndef
    → is_unconditional kind ≡ true
asks kind_is.If h a b c d = absurd (a refl)
asks kind_is.Ifdef h a b c d = absurd (c refl)
asks kind_is.Ifndef h a b c d = absurd (d refl)
asks kind_is.Elif h a b c d = absurd (b refl)
asks kind_is.Else h a b c d = refl
asks kind_is.Endif h a b c d = refl
asks _ h a b c d = absurd cc

pub always_decides : (s : Stage) (line : List Piece) → (opens (kind_of line) || ends_group (kind_of line)) ≡ true → kind_of line ≢ kind_is.If
    → kind_of line ≢ kind_is.Elif → kind_of line ≢ kind_is.Ifdef → kind_of line ≢ kind_is.Ifndef → DecisionIs s line s (Ok true)
always_decides s line h a b c d = (no_condition (asks (kind_of line) h a b c d), refl)
