use Rattle.std.proofs.Common.{◌≡◌, length, vec_capacity}
use Rattle.cx_tokens.specs.Shapes.Links.{walk}
use Rattle.cx_tokens.specs.Shapes.Pairing.{IsChain, IsReading}
use Rattle.cx_tokens.proofs.bracket.first_unpaired.Given as goal

abbrev pub invariant-loop-at : goal.invariant-loop-at
invariant-loop-at l = record {
  so_far : (h : IsChain l.slots l.fn.first) → IsReading h.nodes l.at l.stack.items;
  room : vec_capacity l.stack ≡ vec_capacity l.initial.stack;
}

abbrev pub decreases-loop-at : goal.decreases-loop-at
decreases-loop-at l = length (walk (length l.slots) l.at l.slots)
