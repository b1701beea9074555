use Rattle.std.proofs.Common.{◌≡◌, length}
use Rattle.cx_tokens.specs.Nodes.{tokens}
use Rattle.cx_macro.specs.Macros.{hashes_stand}
use Rattle.cx_macro.specs.Made.{definition_by}
use Rattle.cx_macro.proofs.DefinableLaws.{stand_after}
use Rattle.cx_macro.proofs.macros.Macro.hashes_stand.Given as goal

abbrev pub invariant-loop-token : goal.invariant-loop-token
invariant-loop-token l = stand_after (definition_by l.self) l.is_after_hash l.walk ≡ hashes_stand (definition_by l.self) (tokens l.self.body.nodes)

abbrev pub decreases-loop-token : goal.decreases-loop-token
decreases-loop-token l = length l.walk
