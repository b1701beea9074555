-- Counting an evaluation's values gives the length of their list, which no tree has more of than nodes.
use Rattle.std.proofs.Common.{◌≡◌, ℕ, ◌+◌, ◌≤◌, ℤ, pos, List, length, Option, Some, None, refl, arith, length-append}
use Rattle.cx_tree.specs.declared.operators.Op.TheVariants as operation
use Rattle.cx_first.specs.declared.tree.Operator.{Operator}
use Rattle.cx_first.specs.declared.evaluation.Undefined.{Undefined}
use Rattle.cx_first.specs.declared.evaluation.Undefined.TheVariants.{Uninitialized, Overflow}
use Rattle.cx_first.specs.declared.evaluation.End.{End}
use Rattle.cx_first.specs.declared.evaluation.End.TheVariants as at_end
use Rattle.cx_first.specs.declared.evaluation.Tally.{Tally}
use Rattle.cx_base.specs.declared.place.Place.{Place}
use Rattle.cx_first.specs.declared.tree.Expr.{Expr}
use Rattle.cx_first.specs.declared.tree.Expr.TheVariants.{Number, Variable, Negation, Binary, Brackets}
use Rattle.cx_first.proofs.TreeLaws.{tree_negation, tree_binary, tree_brackets}
use Rattle.cx_first.specs.Tree.{Tree, tree_of, number, variable, negation, binary, brackets}
use Rattle.cx_first.specs.Evaluation.{Memory, Made, made, size, last_node, goes_on, then_make, held, on_int, operation_of, cause_of}
use Rattle.cx_first.specs.Counting.{counted, count_of, last_counted, counts_on, then_count}

last_agrees : (cause : Undefined) (value : Option ℤ) → last_counted cause value ≡ count_of (last_node cause value)
last_agrees cause None = refl
last_agrees cause (Some v) = refl

goes_agrees : (values : List ℤ) (end : End) (next : ℤ → Made) (more : ℤ → Tally) → ((v : ℤ) → more v ≡ count_of (next v))
    → counts_on (length values) end more ≡ count_of (goes_on values end next)
goes_agrees values (at_end.Value v) next more h = rw (h v, length-append {A = ℤ}) refl
goes_agrees values (at_end.Undefined cause) next more h = refl

then_agrees : (first : Tally) (whole : Made) (next : ℤ → Made) (more : ℤ → Tally) → first ≡ count_of whole
    → ((v : ℤ) → more v ≡ count_of (next v)) → then_count first more ≡ count_of (then_make whole next)
then_agrees first whole next more e h = rw e (goes_agrees whole.values whole.end next more h)

pub agrees : (tree : Tree) (memory : Memory) → counted tree memory ≡ count_of (made tree memory)
unfolding counted made
agrees (number value at) m = refl
agrees (variable index at) m = last_agrees Uninitialized (held m index)
agrees (negation at a) m = then_agrees (counted a m) (made a m) _ _ (agrees a m) (λ v. last_agrees Overflow (on_int operation.Negate v (pos 0)))
agrees (binary op at a b) m =
    then_agrees (counted a m) (made a m) _ _ (agrees a m) (λ v.
    then_agrees (counted b m) (made b m) _ _ (agrees b m) (λ w.
    last_agrees (cause_of op w) (on_int (operation_of op) v w)))
agrees (brackets a) m = agrees a m

last_within : (cause : Undefined) (value : Option ℤ) → (last_counted cause value).nodes ≤ 1
last_within cause None = omega arith
last_within cause (Some v) = omega arith

counts_within : (n most more : ℕ) (end : End) (next : ℤ → Tally) → n ≤ most → ((v : ℤ) → (next v).nodes ≤ more)
    → (counts_on n end next).nodes ≤ most + more
counts_within n most more (at_end.Value v) next a h = omega (arith, h v)
counts_within n most more (at_end.Undefined cause) next a h = omega arith

pub counted_within : (tree : Tree) (memory : Memory) → (counted tree memory).nodes ≤ size tree
unfolding counted size
counted_within (number value at) m = omega arith
counted_within (variable index at) m = last_within Uninitialized (held m index)
counted_within (negation at a) m =
    counts_within (counted a m).nodes (size a) 1 (counted a m).end
    (λ v. last_counted Overflow (on_int operation.Negate v (pos 0)))
    (counted_within a m) (λ v. last_within Overflow (on_int operation.Negate v (pos 0)))
counted_within (binary op at a b) m =
    let last : ℤ → ℤ → Tally = λ v w. last_counted (cause_of op w) (on_int (operation_of op) v w) in
    let h : (counted (binary op at a b) m).nodes ≤ size a + (size b + 1) =
    counts_within (counted a m).nodes (size a) (size b + 1) (counted a m).end (λ v. then_count (counted b m) (last v))
    (counted_within a m) (λ v.
    counts_within (counted b m).nodes (size b) 1 (counted b m).end (last v) (counted_within b m) (λ w.
    last_within (cause_of op w) (on_int (operation_of op) v w))) in
    omega (arith, h)
counted_within (brackets a) m = omega (arith, counted_within a m)

-- the same of each variant of an expression
pub counted_number : (n : ℕ) (at : Place) (m : Memory) → counted (tree_of (Number n at)) m ≡ last_counted Overflow (Some (pos n))
unfolding tree_of counted
counted_number n at m = refl

pub counted_variable : (x : ℕ) (at : Place) (m : Memory) → counted (tree_of (Variable x at)) m ≡ last_counted Uninitialized (held m x)
unfolding tree_of counted
counted_variable x at m = refl

pub counted_negation : (at : Place) (a : Expr) (m : Memory) → counted (tree_of (Negation at a)) m
    ≡ then_count (counted (tree_of a) m) (λ v. last_counted Overflow (on_int operation.Negate v (pos 0)))
unfolding counted
counted_negation at a m = rw tree_negation refl

pub counted_binary : (op : Operator) (at : Place) (a b : Expr) (m : Memory) → counted (tree_of (Binary op at a b)) m
    ≡ then_count (counted (tree_of a) m) (λ v. then_count (counted (tree_of b) m) (λ w. last_counted (cause_of op w) (on_int (operation_of op) v w)))
unfolding counted
counted_binary op at a b m = rw tree_binary refl

pub counted_brackets : (a : Expr) (m : Memory) → counted (tree_of (Brackets a)) m ≡ counted (tree_of a) m
unfolding counted
counted_brackets a m = rw tree_brackets refl

pub size_number : (n : ℕ) (at : Place) → size (tree_of (Number n at)) ≡ 1
unfolding tree_of size
size_number n at = refl

pub size_variable : (x : ℕ) (at : Place) → size (tree_of (Variable x at)) ≡ 1
unfolding tree_of size
size_variable x at = refl

pub size_negation : (at : Place) (a : Expr) → size (tree_of (Negation at a)) ≡ size (tree_of a) + 1
unfolding size
size_negation at a = rw tree_negation refl

pub size_binary : (op : Operator) (at : Place) (a b : Expr) → size (tree_of (Binary op at a b)) ≡ size (tree_of a) + size (tree_of b) + 1
unfolding size
size_binary op at a b = rw tree_binary refl

pub size_brackets : (a : Expr) → size (tree_of (Brackets a)) ≡ size (tree_of a) + 1
unfolding size
size_brackets a = rw tree_brackets refl

pub ruleset counts = (counted_number, counted_variable, counted_negation, counted_binary, counted_brackets, size_number, size_variable, size_negation, size_binary, size_brackets)
