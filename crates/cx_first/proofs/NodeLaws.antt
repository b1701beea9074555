-- The nodes of an expression, their places and their texts, by the variants of an expression, and the node at which an
-- evaluation stops.
use Rattle.std.proofs.Common.{◌≡◌, ℕ, zero, suc, ◌+◌, ℤ, pos, List, [], ◌∷◌, ◌++◌, length, Option, Some, None, option_map, slice_get, IsSome, IsSomeAnd, refl, ◌∙◌, ap, subst, arith, length-append, append_assoc}
use Rattle.std.specs.Prelude.{true, false, cond, codes, decimal, Result, OnOk, ⊤}
use Rattle.cx_base.specs.declared.errors.NoMemory.{NoMemory}
use Rattle.std.specs.Ordering.{int_eq}
use Rattle.std.proofs.lemmas.Option.{slice_get_past, slice_get-map}
use Rattle.cx_base.specs.declared.place.Place.{Place}
use Rattle.cx_tree.specs.declared.operators.Op.TheVariants as operation
use Rattle.cx_first.specs.declared.tree.Operator.{Operator}
use Rattle.cx_first.specs.declared.tree.Operator.TheVariants.{Add, Subtract, Multiply, Divide}
use Rattle.cx_first.specs.declared.evaluation.Undefined.{Undefined}
use Rattle.cx_first.specs.declared.evaluation.Undefined.TheVariants.{Uninitialized, ZeroDivisor, Overflow}
use Rattle.cx_first.specs.declared.evaluation.End.{End}
use Rattle.cx_first.specs.declared.evaluation.End.TheVariants as at_end
use Rattle.cx_first.specs.declared.tree.Expr.{Expr}
use Rattle.cx_first.specs.declared.tree.Expr.TheVariants.{Number, Variable, Negation, Binary, Brackets}
use Rattle.cx_first.proofs.TreeLaws.{tree_negation, tree_binary, tree_brackets}
use Rattle.cx_first.specs.declared.tree.Statement.{Statement}
use Rattle.cx_first.specs.declared.tree.FirstText.{FirstText}
use Rattle.cx_first.specs.declared.nodes.Found.{Found}
use Rattle.cx_first.specs.declared.nodes.Found.TheVariants as found
use Rattle.cx_first.specs.Names.{Names}
use Rattle.cx_first.specs.Tree.{Tree, tree_of, form_of, source_of, number, variable, negation, binary, brackets, Source}
use Rattle.cx_first.specs.Evaluation.{Memory, Made, made, last_node, goes_on, then_make, held, on_int, operation_of, cause_of}
use Rattle.cx_first.specs.Runs.{evaluates, expression, IsStuck, StopsAt}
use Rattle.cx_first.specs.Nodes.{nodes, place_of, symbol_of, name_of, text_of, node_tree, written, node_of, FoundIs, CanStop}

-- the nodes of each variant
pub nodes_number : (n : ℕ) (at : Place) → nodes (tree_of (Number n at)) ≡ tree_of (Number n at) ∷ []
unfolding tree_of nodes
nodes_number n at = refl

pub nodes_variable : (x : ℕ) (at : Place) → nodes (tree_of (Variable x at)) ≡ tree_of (Variable x at) ∷ []
unfolding tree_of nodes
nodes_variable x at = refl

pub nodes_negation : (at : Place) (a : Expr) → nodes (tree_of (Negation at a)) ≡ nodes (tree_of a) ++ tree_of (Negation at a) ∷ []
unfolding nodes
nodes_negation at a = rw tree_negation refl

pub nodes_binary : (op : Operator) (at : Place) (a b : Expr) → nodes (tree_of (Binary op at a b))
    ≡ nodes (tree_of a) ++ (nodes (tree_of b) ++ tree_of (Binary op at a b) ∷ [])
unfolding nodes
nodes_binary op at a b = rw tree_binary refl

pub nodes_brackets : (a : Expr) → nodes (tree_of (Brackets a)) ≡ nodes (tree_of a)
unfolding nodes
nodes_brackets a = rw tree_brackets refl

-- a member of an append is one of the front, or one of what is behind it
pub get_front : (xs ys : List Tree) (k : ℕ) (t : Tree) → slice_get xs k ≡ Some t → slice_get (xs ++ ys) k ≡ Some t
get_front [] ys k t e = absurd cc
get_front (x ∷ xs) ys zero t e = e
get_front (x ∷ xs) ys (suc k) t e = get_front xs ys k t e

pub get_behind : (xs ys : List Tree) (k : ℕ) → slice_get (xs ++ ys) (length xs + k) ≡ slice_get ys k
get_behind [] ys k = ap (slice_get ys) (omega arith)
get_behind (x ∷ xs) ys k =
    let e : length (x ∷ xs) + k ≡ suc (length xs + k) = omega arith in
    rw e (get_behind xs ys k)

pub get_past : (xs ys : List Tree) (n k : ℕ) (t : Tree) → n ≡ length xs + k → slice_get ys k ≡ Some t → slice_get (xs ++ ys) n ≡ Some t
get_past xs ys n k t e h = rw e (get_behind xs ys k ∙ h)

pub found_behind : (xs ys : List Tree) (n k : ℕ) (r : Found) → n ≡ length xs + k → FoundIs ys k r → FoundIs (xs ++ ys) n r
found_behind xs ys n k (found.Node e) h f = get_past xs ys n k (tree_of e.now) h f
found_behind xs ys n k (found.Past more) h f = omega (arith, h, f, length-append {A = Tree})

pub found_negation : (e : Expr) (at : Place) (a : Expr) (n k : ℕ) (r : Found) → e ≡ Negation at a → n ≡ length (nodes (tree_of a)) + k
    → FoundIs (tree_of e ∷ []) k r → FoundIs (nodes (tree_of e)) n r
found_negation e at a n k r s h f =
    rw (s, nodes_negation) (found_behind (nodes (tree_of a)) (tree_of (Negation at a) ∷ []) n k r h (rw s at f))

pub found_binary : (e : Expr) (op : Operator) (at : Place) (a b : Expr) (n k j : ℕ) (r : Found) → e ≡ Binary op at a b
    → n ≡ length (nodes (tree_of a)) + k → k ≡ length (nodes (tree_of b)) + j
    → FoundIs (tree_of e ∷ []) j r → FoundIs (nodes (tree_of e)) n r
found_binary e op at a b n k j r s h g f =
    rw (s, nodes_binary) (found_behind (nodes (tree_of a)) (nodes (tree_of b) ++ tree_of (Binary op at a b) ∷ []) n k r h
    (found_behind (nodes (tree_of b)) (tree_of (Binary op at a b) ∷ []) k j r g (rw s at f)))

pub right_found : (e : Expr) (op : Operator) (at : Place) (a b : Expr) (n k : ℕ) (t : Tree) → e ≡ Binary op at a b
    → n ≡ length (nodes (tree_of a)) + k → slice_get (nodes (tree_of b)) k ≡ Some t
    → slice_get (nodes (tree_of e)) n ≡ Some t
right_found e op at a b n k t s h g =
    rw (s, nodes_binary) (get_past (nodes (tree_of a)) (nodes (tree_of b) ++ tree_of (Binary op at a b) ∷ []) n k t h
    (get_front (nodes (tree_of b)) (tree_of (Binary op at a b) ∷ []) k t g))

pub ruleset nodes_are = (nodes_number, nodes_variable, nodes_negation, nodes_binary, nodes_brackets, get_front, found_negation, found_binary, right_found)

-- the place of each variant
pub place_number : (n : ℕ) (at : Place) → place_of (tree_of (Number n at)) ≡ at
unfolding tree_of place_of
place_number n at = refl

pub place_variable : (x : ℕ) (at : Place) → place_of (tree_of (Variable x at)) ≡ at
unfolding tree_of place_of
place_variable x at = refl

pub place_negation : (at : Place) (a : Expr) → place_of (tree_of (Negation at a)) ≡ at
unfolding place_of
place_negation at a = rw tree_negation refl

pub place_binary : (op : Operator) (at : Place) (a b : Expr) → place_of (tree_of (Binary op at a b)) ≡ at
unfolding place_of
place_binary op at a b = rw tree_binary refl

pub place_brackets : (a : Expr) → place_of (tree_of (Brackets a)) ≡ place_of (tree_of a)
unfolding place_of
place_brackets a = rw tree_brackets refl

pub ruleset places = (place_number, place_variable, place_negation, place_binary, place_brackets)

-- the text of each variant
pub text_number : (names : Names) (n : ℕ) (at : Place) → text_of names (tree_of (Number n at)) ≡ decimal n
unfolding tree_of text_of
text_number names n at = refl

pub text_variable : (names : Names) (x : ℕ) (at : Place) → text_of names (tree_of (Variable x at)) ≡ name_of names x
unfolding tree_of text_of
text_variable names x at = refl

pub text_negation : (names : Names) (at : Place) (a : Expr) → text_of names (tree_of (Negation at a)) ≡ codes "-" ++ text_of names (tree_of a)
unfolding text_of
text_negation names at a = rw tree_negation refl

pub text_binary : (names : Names) (op : Operator) (at : Place) (a b : Expr) → text_of names (tree_of (Binary op at a b))
    ≡ text_of names (tree_of a) ++ (symbol_of op ++ text_of names (tree_of b))
unfolding text_of
text_binary names op at a b = rw tree_binary refl

pub text_brackets : (names : Names) (a : Expr) → text_of names (tree_of (Brackets a)) ≡ codes "(" ++ (text_of names (tree_of a) ++ codes ")")
unfolding text_of
text_brackets names a = rw tree_brackets refl

-- the text of each variant behind another text, token by token
pub push_negation : (names : Names) (e : Expr) (at : Place) (a : Expr) (old mid new : List ℕ) (r : Result ⊤ NoMemory) → e ≡ Negation at a
    → mid ≡ old ++ codes "-" → OnOk r (new ≡ mid ++ text_of names (tree_of a)) → OnOk r (new ≡ old ++ text_of names (tree_of e))
push_negation names e at a old mid new r s m h =
    rw (s, text_negation, ← append_assoc old (codes "-") (text_of names (tree_of a)), ← m) h

pub push_binary : (names : Names) (e : Expr) (op : Operator) (at : Place) (a b : Expr) (old left mid new : List ℕ) (r : Result ⊤ NoMemory)
    → e ≡ Binary op at a b → left ≡ old ++ text_of names (tree_of a) → mid ≡ left ++ symbol_of op
    → OnOk r (new ≡ mid ++ text_of names (tree_of b)) → OnOk r (new ≡ old ++ text_of names (tree_of e))
push_binary names e op at a b old left mid new r s l m h =
    let whole : mid ++ text_of names (tree_of b) ≡ old ++ text_of names (tree_of e) =
    rw (m, l, s, text_binary) (simp append_assoc) in
    subst (λ t. OnOk r (new ≡ t)) whole h

pub push_brackets : (names : Names) (e : Expr) (a : Expr) (old mid inner new : List ℕ) (r : Result ⊤ NoMemory) → e ≡ Brackets a
    → mid ≡ old ++ codes "(" → inner ≡ mid ++ text_of names (tree_of a)
    → OnOk r (new ≡ inner ++ codes ")") → OnOk r (new ≡ old ++ text_of names (tree_of e))
push_brackets names e a old mid inner new r s m i h =
    let whole : inner ++ codes ")" ≡ old ++ text_of names (tree_of e) =
    rw (i, m, s, text_brackets) (simp append_assoc) in
    subst (λ t. OnOk r (new ≡ t)) whole h

pub ruleset texts = (text_number, text_variable, push_negation, push_binary, push_brackets)

-- the expression of a statement
pub expression_at : (text : FirstText) (k : ℕ) (statement : Statement) → slice_get text.statements k ≡ Some statement
    → evaluates (form_of statement) ≡ expression (source_of text) k
expression_at text k statement e = rw (slice_get-map form_of text.statements k, e) refl

pub expression_past : (text : FirstText) (k : ℕ) → slice_get text.statements k ≡ None → None ≡ expression (source_of text) k
expression_past text k e = rw (slice_get-map form_of text.statements k, e) refl

-- a node, and the number past all of them, of an expression
pub node_there : (source : Source) (statement node : ℕ) (tree t : Tree) → Some tree ≡ expression source statement
    → slice_get (nodes tree) node ≡ Some t → Some (written source.names t) ≡ node_of source statement node
node_there source statement node tree t e h = rw (← e, h) refl

pub node_past : (source : Source) (statement node more : ℕ) (tree : Tree) → Some tree ≡ expression source statement
    → node ≡ length (nodes tree) + more → None ≡ node_of source statement node
node_past source statement node more tree e h = rw (← e, slice_get_past (nodes tree) node (omega (arith, h))) refl

-- an evaluation that ends with so many values has made those of all nodes, or stops at a node that can
abbrev EndFits : List Tree → ℕ → End → Type 0
EndFits among count (at_end.Value v) = count ≡ length among
EndFits among count (at_end.Undefined cause) = IsSomeAnd (slice_get among count) (CanStop cause)

some_front : (P : Tree → Type 0) (xs ys : List Tree) (k : ℕ) (r : Option Tree) → slice_get xs k ≡ r → IsSomeAnd r P → IsSomeAnd (slice_get (xs ++ ys) k) P
some_front P xs ys k None e h = absurd h
some_front P xs ys k (Some t) e h = rw (get_front xs ys k t e) h

some_behind : (P : Tree → Type 0) (xs ys : List Tree) (k : ℕ) → IsSomeAnd (slice_get ys k) P → IsSomeAnd (slice_get (xs ++ ys) (length xs + k)) P
some_behind P xs ys k h = rw (get_behind xs ys k) h

behind_fits : (xs ys : List Tree) (values more : List ℤ) (end : End) → length values ≡ length xs → EndFits ys (length more) end
    → EndFits (xs ++ ys) (length (values ++ more)) end
behind_fits xs ys values more (at_end.Value v) e h =
    omega (arith, h, length-append {A = ℤ}, length-append {A = Tree})
behind_fits xs ys values more (at_end.Undefined cause) e h =
    rw (length-append values more, e) (some_behind (CanStop cause) xs ys (length more) h)

goes_fits : (xs ys : List Tree) (values : List ℤ) (end : End) (next : ℤ → Made) → EndFits xs (length values) end
    → ((v : ℤ) → EndFits ys (length (next v).values) (next v).end)
    → EndFits (xs ++ ys) (length (goes_on values end next).values) (goes_on values end next).end
goes_fits xs ys values (at_end.Value v) next h more = behind_fits xs ys values (next v).values (next v).end h (more v)
goes_fits xs ys values (at_end.Undefined cause) next h more = some_front (CanStop cause) xs ys (length values) (slice_get xs (length values)) refl h

last_fits : (tree : Tree) (cause : Undefined) (value : Option ℤ) → CanStop cause tree
    → EndFits (tree ∷ []) (length (last_node cause value).values) (last_node cause value).end
last_fits tree cause None h = h
last_fits tree cause (Some v) h = refl

operator_fits : (op : Operator) (at : Place) (a b : Tree) (w : ℤ) → CanStop (cause_of op w) (binary op at a b)
operator_fits Add at a b w = tt
operator_fits Subtract at a b w = tt
operator_fits Multiply at a b w = tt
operator_fits Divide at a b w =
    elim (int_eq w (pos 0)) as (λ t. CanStop (cond t ZeroDivisor Overflow) (binary Divide at a b)) [ true ↦ refl | false ↦ tt ]

pub made_fits : (tree : Tree) (memory : Memory) → EndFits (nodes tree) (length (made tree memory).values) (made tree memory).end
unfolding made nodes
made_fits (number value at) m = refl
made_fits (variable index at) m = last_fits (variable index at) Uninitialized (held m index) tt
made_fits (negation at a) m =
    goes_fits (nodes a) (negation at a ∷ []) (made a m).values (made a m).end
    (λ v. last_node Overflow (on_int operation.Negate v (pos 0))) (made_fits a m)
    (λ v. last_fits (negation at a) Overflow (on_int operation.Negate v (pos 0)) tt)
made_fits (binary op at a b) m =
    let last : ℤ → ℤ → Made = λ v w. last_node (cause_of op w) (on_int (operation_of op) v w) in
    goes_fits (nodes a) (nodes b ++ binary op at a b ∷ []) (made a m).values (made a m).end
    (λ v. then_make (made b m) (last v)) (made_fits a m) (λ v.
    goes_fits (nodes b) (binary op at a b ∷ []) (made b m).values (made b m).end (last v) (made_fits b m) (λ w.
    last_fits (binary op at a b) (cause_of op w) (on_int (operation_of op) v w) (operator_fits op at a b w)))
made_fits (brackets a) m = made_fits a m

-- where an evaluation stops, its node is one that can
pub stops_fits : (tree : Tree) (memory : Memory) (node : ℕ) (cause : Undefined) → StopsAt tree memory node cause
    → IsSomeAnd (slice_get (nodes tree) node) (CanStop cause)
stops_fits tree memory node cause s =
    rw s.stopped (subst (EndFits (nodes tree) (length (made tree memory).values)) s.undefined (made_fits tree memory))

pub stuck_fits : (text : Source) (statement node : ℕ) (cause : Undefined) → IsStuck text statement node cause
    → IsSomeAnd (node_tree text statement node) (CanStop cause)
stuck_fits text statement node cause s = rw s.evaluates (stops_fits s.tree s.memory node cause s.stops)

some_written : (names : Names) (r : Option Tree) (P : Tree → Type 0) → IsSomeAnd r P → IsSome (option_map (written names) r)
some_written names None P h = absurd h
some_written names (Some t) P h = refl

pub stuck_node : (text : Source) (statement node : ℕ) (cause : Undefined) → IsStuck text statement node cause
    → IsSome (node_of text statement node)
stuck_node text statement node cause s =
    some_written text.names (node_tree text statement node) (CanStop cause) (stuck_fits text statement node cause s)
