use Rattle.std.proofs.Common.{MatchOption, length}
use Rattle.cx_tokens.specs.Shapes.Links.{rest_from}
use Rattle.cx_tokens.specs.Shapes.Sweeping.{HasNoString, IsJoined, IsNextString}
use Rattle.cx_tokens.proofs.simplify.joined.Given as goal

abbrev pub invariant-loop-at : goal.invariant-loop-at
invariant-loop-at l = record {
  joined : IsJoined l.list.nodes l.fn.first l.text l.parts l.last;
  next : MatchOption l.at (HasNoString l.list.nodes l.last) (IsNextString l.list.nodes l.last);
}

abbrev pub decreases-loop-at : goal.decreases-loop-at
decreases-loop-at l = length (rest_from l.at l.list.nodes)
