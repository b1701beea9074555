use Rattle.std.proofs.Common.{◌≡◌, ◌++◌, string_bytes, length}
use Rattle.std.specs.List.{join_with_byte}
use Rattle.cx_base.specs.Shapes.SimplePath.{texts_of}
use Rattle.cx_base.proofs.SimplePathLaws.{after_slashes}
use Rattle.cx_base.proofs.simple_path.push_joined.Given as goal

abbrev pub invariant-loop-component : goal.invariant-loop-component
invariant-loop-component l =
    string_bytes l.fn.text ++ join_with_byte 47 (texts_of l.fn.components)
    ≡ string_bytes l.text ++ after_slashes (texts_of l.left)

abbrev pub decreases-loop-component : goal.decreases-loop-component
decreases-loop-component l = length l.left
