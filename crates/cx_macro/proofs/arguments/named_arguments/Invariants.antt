use Rattle.std.proofs.Common.{◌≡◌, List, Option, Some}
use Rattle.cx_tokens.specs.declared.token.Token.{Token}
use Rattle.cx_macro.specs.Shapes.Counting as counting
use Rattle.cx_macro.specs.Shapes.Calls.{behind_arguments}
use Rattle.cx_macro.specs.Shapes.Frames.{IsAfter, IsInner}
use Rattle.cx_macro.specs.Shapes.Segments.{CutsText}
use Rattle.cx_macro.proofs.arguments.named_arguments.Given as goal

abbrev pub invariant-loop-left : goal.invariant-loop-left
invariant-loop-left l =
    (ts end : List Token) → IsInner l.fn.text ts end → (raw : List (List Token)) × (after : Option (List Token))
    × (behind_arguments raw (counting.named_arguments l.left after) ≡ counting.named_arguments l.count (Some ts))
    × CutsText l.segments.items ts raw after × IsAfter l.after after end

abbrev pub decreases-loop-left : goal.decreases-loop-left
decreases-loop-left l = l.left
