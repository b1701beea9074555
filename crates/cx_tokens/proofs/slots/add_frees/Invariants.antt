use Rattle.std.proofs.Common.{◌≡◌, ◌+◌, vec_capacity, vec_len}
use Rattle.cx_tokens.specs.Shapes.Links.{IsAdded}
use Rattle.cx_tokens.proofs.slots.add_frees.Given as goal

abbrev pub invariant-loop-index : goal.invariant-loop-index
invariant-loop-index l =
    IsAdded l.initial.slots.items l.fn.free l.slots.items l.last l.index × (vec_len l.slots ≡ vec_len l.initial.slots + l.index) × (vec_capacity l.slots ≡ vec_capacity l.initial.slots)
