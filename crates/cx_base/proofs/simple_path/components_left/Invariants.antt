use Rattle.std.proofs.Common.{length}
use denote.Text.{Utf8}
use denote.Shadow.{shadow}
use Rattle.cx_base.specs.Shapes.SimplePath.{texts_of}
use Rattle.cx_base.proofs.SimplePathLaws.{IsLeft}
use Rattle.cx_base.proofs.simple_path.components_left.Given as goal

abbrev pub invariant-loop-component : goal.invariant-loop-component
invariant-loop-component l =
    shadow (Utf8 l.rest) × IsLeft l.fn.path (texts_of l.left.items) l.rest

abbrev pub decreases-loop-component : goal.decreases-loop-component
decreases-loop-component l = length l.rest
