-- An evaluation with the number of its values in place of their list.
use Rattle.std.specs.Prelude.{ℕ, ◌+◌, ℤ, pos, length, Option, Some, None}
use Rattle.cx_tree.specs.declared.operators.Op.TheVariants as operation
use Rattle.cx_first.specs.declared.evaluation.Undefined.{Undefined}
use Rattle.cx_first.specs.declared.evaluation.Undefined.TheVariants.{Uninitialized, Overflow}
use Rattle.cx_first.specs.declared.evaluation.End.{End}
use Rattle.cx_first.specs.declared.evaluation.End.TheVariants as at_end
use Rattle.cx_first.specs.declared.evaluation.Tally.{Tally}
use Rattle.cx_first.specs.Tree.{Tree, number, variable, negation, binary, brackets}
use Rattle.cx_first.specs.Evaluation.{Memory, Made, held, on_int, operation_of, cause_of}

abbrev pub last_counted : Undefined → Option ℤ → Tally
last_counted cause None = record { nodes = 0; end = at_end.Undefined cause }
last_counted cause (Some v) = record { nodes = 1; end = at_end.Value v }

abbrev pub counts_on : ℕ → End → (ℤ → Tally) → Tally
counts_on nodes (at_end.Value v) next =
    record { nodes = nodes + (next v).nodes; end = (next v).end }
counts_on nodes (at_end.Undefined cause) next =
    record { nodes = nodes; end = at_end.Undefined cause }

abbrev pub then_count : Tally → (ℤ → Tally) → Tally
then_count first next = counts_on first.nodes first.end next

unfoldable pub counted : Tree → Memory → Tally
counted (number value at) memory = last_counted Overflow (Some (pos value))
counted (variable index at) memory = last_counted Uninitialized (held memory index)
counted (negation at operand) memory =
    then_count (counted operand memory)
    (λ v. last_counted Overflow (on_int operation.Negate v (pos 0)))
counted (binary operator at left right) memory =
    then_count (counted left memory) (λ v.
    then_count (counted right memory)
    (λ w. last_counted (cause_of operator w) (on_int (operation_of operator) v w)))
counted (brackets inner) memory = counted inner memory

abbrev pub count_of : Made → Tally
count_of made = record { nodes = length made.values; end = made.end }
