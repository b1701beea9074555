-- The runs of a first text: which statement is next, and the memory before it (C11 6.8p3, 6.8.6.4).
use Rattle.std.specs.Prelude.{◌≡◌, ℕ, ◌+◌, ◌<◌, ◌≤◌, ◌^◌, ℤ, List, [], ◌∷◌, ◌++◌, length, replicate, All, slice_get, slice_set, Option, Some, None, option_map, option_and_then, IfSome}
use Rattle.cx_first.specs.declared.evaluation.Undefined.{Undefined}
use Rattle.cx_first.specs.declared.evaluation.End.{End}
use Rattle.cx_first.specs.declared.evaluation.End.TheVariants as at_end
use Rattle.cx_first.specs.declared.runs.RunEnd.{RunEnd}
use Rattle.cx_first.specs.declared.runs.RunEnd.TheVariants.{Finished, Stuck}
use Rattle.cx_first.specs.Tree.{Tree, Form, declares, assigns, returns, Source}
use Rattle.cx_first.specs.Evaluation.{Memory, made, size}

-- the number of the statement to come, and the memory before it
abbrev pub Pair : Type 0
Pair = ℕ × Memory

-- no name has a value (C11 6.7.9p10)
abbrev pub start : Source → Pair
start text = (0, replicate (length text.names) None)

-- the expression that a statement evaluates
abbrev pub evaluates : Form → Option Tree
evaluates (declares index at initialiser) = initialiser
evaluates (assigns index at value) = Some value
evaluates (returns at value) = Some value

abbrev pub value_of : End → Option ℤ
value_of (at_end.Value v) = Some v
value_of (at_end.Undefined cause) = None

-- the value of an expression, where it has one
abbrev pub value_in : Memory → Tree → Option ℤ
value_in memory tree = value_of (made tree memory).end

-- the next statement, with the value stored (C11 6.5.16p3, 6.7.9p11)
abbrev pub stored : Pair → ℕ → ℤ → Pair
stored pair index value = (pair.0 + 1, slice_set pair.1 index (Some value))

-- where a statement of a text of so many leads; a return leads to the end
abbrev pub after : ℕ → Pair → Form → Option Pair
after count pair (declares index at None) = Some (pair.0 + 1, pair.1)
after count pair (declares index at (Some initialiser)) =
    option_map (stored pair index) (value_in pair.1 initialiser)
after count pair (assigns index at value) = option_map (stored pair index) (value_in pair.1 value)
after count pair (returns at value) = option_map (λ v. (count, pair.1)) (value_in pair.1 value)

abbrev pub next : Source → Pair → Option Pair
next text pair =
    option_and_then (after (length text.statements) pair) (slice_get text.statements pair.0)

-- a step from a pair to the next one; there is none from a pair at the end, and none where the
-- value is undefined
abbrev pub Step : Source → Pair → Pair → Type 0
Step text before later = next text before ≡ Some later

-- each pair of the list is a step from the one before it
abbrev pub Follows : Source → Pair → List Pair → Type 0
Follows text pair [] = Unit {0}
Follows text pair (later ∷ more) = Step text pair later × Follows text later more

abbrev pub IsRun : Source → List Pair → Type 0
IsRun text [] = ⊥
IsRun text (pair ∷ more) = (pair ≡ start text) × Follows text pair more

-- one list begins with the other
abbrev pub IsFront : List Pair → List Pair → Type 0
IsFront front whole = (more : List Pair) × (whole ≡ front ++ more)

-- a run of which each run is a front
pub record IsLongest (text : Source) (run : List Pair) : Type 0 where
  pub is_run : IsRun text run
  pub longest : (other : List Pair) → IsRun text other → IsFront other run

-- the last pair of a list
abbrev pub EndsAt : List Pair → Pair → Type 0
EndsAt run pair = (front : List Pair) × (run ≡ front ++ pair ∷ [])

-- a run that comes to a pair
pub record Reaches (text : Source) (pair : Pair) : Type 0 where
  pub run : List Pair
  pub is_run : IsRun text run
  pub ends : EndsAt run pair

-- the longest run comes to a pair and no further
pub record EndsIn (text : Source) (pair : Pair) : Type 0 where
  pub run : List Pair
  pub longest : IsLongest text run
  pub ends : EndsAt run pair

-- the expression of a statement of the text
abbrev pub expression : Source → ℕ → Option Tree
expression text statement = option_and_then evaluates (slice_get text.statements statement)

-- the values that the evaluation at a pair makes
abbrev pub values_at : Source → Pair → Option (List ℤ)
values_at text pair = option_map (λ tree. (made tree pair.1).values) (expression text pair.0)

-- in a memory the evaluation of an expression makes so many values, and is then undefined
pub record StopsAt (tree : Tree) (memory : Memory) (node : ℕ) (cause : Undefined) : Type 0 where
  pub stopped : node ≡ length (made tree memory).values
  pub undefined : (made tree memory).end ≡ at_end.Undefined cause

-- the longest run ends before a statement whose expression is undefined there, at this node and for
-- this cause
pub record IsStuck (text : Source) (statement node : ℕ) (cause : Undefined) : Type 0 where
  pub memory : Memory
  pub ends : EndsIn text (statement, memory)
  pub tree : Tree
  pub evaluates : expression text statement ≡ Some tree
  pub stops : StopsAt tree memory node cause

-- how the longest run ends
abbrev pub Ends : Source → RunEnd → Type 0
Ends text Finished = (memory : Memory) × EndsIn text (length text.statements, memory)
Ends text (Stuck statement node cause) = IsStuck text statement node cause

-- no pair of a run at this statement makes the value of this node
abbrev pub NonePasses : Source → ℕ → ℕ → List Pair → Type 0
NonePasses text statement node [] = Unit {0}
NonePasses text statement node (pair ∷ more) =
    (pair.0 ≡ statement → IfSome (values_at text pair) (λ values. length values ≤ node))
    × NonePasses text statement node more

-- an expression, and a statement, whose nodes have numbers of 32 bits
abbrev pub IsSmall : Tree → Type 0
IsSmall tree = size tree < 2 ^ 32

abbrev pub IsSmallForm : Form → Type 0
IsSmallForm form = IfSome (evaluates form) IsSmall

-- a text whose statements and nodes have numbers of 32 bits
pub record IsNumbered (text : Source) : Type 0 where
  pub count : length text.statements < 2 ^ 32
  pub sizes : All IsSmallForm text.statements

-- the laws of runs
abbrev pub OneLongest : Source → Type 0
OneLongest text = (run : List Pair) × IsLongest text run
    × ((other : List Pair) → IsLongest text other → other ≡ run)

-- a statement evaluates in a memory: its expression has a value there, if it has an expression
abbrev pub IsEvaluated : Memory → Form → Type 0
IsEvaluated memory form =
    IfSome (evaluates form) (λ tree. (v : ℤ) × (value_in memory tree ≡ Some v))

abbrev pub GoesOn : Source → Type 0
GoesOn text = (run : List Pair) (pair : Pair) → IsRun text run → EndsAt run pair → (form : Form)
    → slice_get text.statements pair.0 ≡ Some form → IsEvaluated pair.1 form
    → (later : Pair) × IsRun text (run ++ later ∷ [])

-- no run of the text passes the node where it is stuck, and a run comes to its statement
pub record IsNeverPassed (text : Source) (statement node : ℕ) : Type 0 where
  pub none_passes : (run : List Pair) → IsRun text run → NonePasses text statement node run
  pub memory : Memory
  pub reached : Reaches text (statement, memory)
