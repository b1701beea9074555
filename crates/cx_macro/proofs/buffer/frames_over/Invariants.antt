use Rattle.std.proofs.Common.{◌≡◌, List, length, map, ◌++◌}
use Rattle.cx_tokens.specs.declared.token.Token.{Token}
use Rattle.cx_macro.specs.Shapes.Frames.{AreFrames}
use Rattle.cx_macro.proofs.buffer.frames_over.Given as goal

abbrev pub invariant-loop-token : goal.invariant-loop-token
invariant-loop-token l = map (λ x. x.now) l.tokens.items ++ l.walk ≡ l.initial.walk

abbrev pub decreases-loop-token : goal.decreases-loop-token
decreases-loop-token l = length l.walk

abbrev pub invariant-loop-token-2 : goal.invariant-loop-token-2
invariant-loop-token-2 l =
    (rest : List Token) × AreFrames l.frames rest × (map (λ x. x.now) l.tokens.items ++ rest ≡ map (λ x. x.now) l.initial.tokens.items)

abbrev pub decreases-loop-token-2 : goal.decreases-loop-token-2
decreases-loop-token-2 l = length l.tokens.items
