use denote.Text.{Utf8}
use denote.Shadow.{shadow}
use Rattle.std.proofs.Common.{◌≡◌, length}
use Rattle.std.specs.List.{slice_split}
use Rattle.cx_base.specs.Folders.{is_slash}
use Rattle.cx_base.specs.Shapes.Simple.{are_reduced}
use Rattle.cx_base.proofs.simple_form.are_reduced.Given as goal

abbrev pub invariant-loop-component : goal.invariant-loop-component
invariant-loop-component l = shadow (Utf8 l.rest) × (are_reduced (slice_split is_slash l.path) ≡ are_reduced (slice_split is_slash l.rest))

abbrev pub decreases-loop-component : goal.decreases-loop-component
decreases-loop-component l = length l.rest
