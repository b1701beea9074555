use Rattle.std.proofs.Common.{◌≤◌, ◌+◌, ◌*◌, List, length}
use Rattle.cx_tokens.specs.declared.token.Token.{Token}
use Rattle.cx_first.specs.Tree.{Tree, tree_of}
use Rattle.cx_first.specs.Grammar.{Chains}
use Rattle.cx_first.specs.Descent.{Stops}
use Rattle.cx_first.proofs.expressions.+expression.Given as goal

abbrev pub decreases-bracketed : goal.decreases-bracketed
decreases-bracketed l = 8 * length l.tokens.now + 7

abbrev pub decreases-chain : goal.decreases-chain
decreases-chain l = 8 * length l.tokens.now + 2 + 2 * l.level

abbrev pub decreases-negation : goal.decreases-negation
decreases-negation l = 8 * length l.tokens.now + 2

abbrev pub decreases-operand : goal.decreases-operand
decreases-operand l = 8 * length l.tokens.now + 1

abbrev pub decreases-operators : goal.decreases-operators
decreases-operators l = 8 * length l.tokens.now + 8

abbrev pub invariant-operators-loop-operator : goal.invariant-operators-loop-operator
invariant-operators-loop-operator l = record {
  shorter : length l.rest ≤ length l.tokens;
  found : (t : Tree) (end : List Token) → Chains l.names l.level (tree_of l.left) l.rest t end → Chains l.names l.level (tree_of l.fn.left) l.tokens t end;
  only : (t : Tree) (end : List Token) → Chains l.names l.level (tree_of l.fn.left) l.tokens t end → Stops l.level end → Chains l.names l.level (tree_of l.left) l.rest t end;
}

abbrev pub decreases-operators-loop-operator : goal.decreases-operators-loop-operator
decreases-operators-loop-operator l = length l.rest
