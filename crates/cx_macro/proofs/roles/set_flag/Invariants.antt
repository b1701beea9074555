use Rattle.std.proofs.Common.{◌≡◌, ◌+◌, ◌-◌, ℕ, false, length, slice_index_or}
use Rattle.cx_macro.proofs.roles.set_flag.Given as goal

abbrev pub invariant-loop-flags : goal.invariant-loop-flags
invariant-loop-flags l = (i : ℕ) → slice_index_or l.flags.items i false ≡ slice_index_or l.initial.flags.items i false

abbrev pub decreases-loop-flags : goal.decreases-loop-flags
decreases-loop-flags l = l.index + 1 - length l.flags.items
