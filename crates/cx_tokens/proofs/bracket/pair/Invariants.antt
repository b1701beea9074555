use Rattle.std.proofs.Common.{◌≡◌, length, vec_capacity}
use Rattle.cx_tokens.specs.Shapes.Links.{walk}
use Rattle.cx_tokens.specs.Shapes.Pairing.{IsChain, IsPairing}
use Rattle.cx_tokens.proofs.bracket.pair.Given as goal

abbrev pub invariant-loop-at : goal.invariant-loop-at
invariant-loop-at l = record {
  so_far : (h : IsChain l.initial.slots.items l.fn.first) → IsPairing l.initial.slots.items l.slots.items l.at l.stack.items h.nodes;
  room : vec_capacity l.stack ≡ vec_capacity l.initial.stack;
}

abbrev pub decreases-loop-at : goal.decreases-loop-at
decreases-loop-at l = length (walk (length l.slots.items) l.at l.slots.items)
