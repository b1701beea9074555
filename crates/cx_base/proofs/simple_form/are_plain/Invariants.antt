use denote.Text.{Utf8}
use denote.Shadow.{shadow}
use Rattle.std.proofs.Common.{◌≡◌, length}
use Rattle.std.specs.List.{list_all, slice_split}
use Rattle.cx_base.specs.Folders.{is_slash}
use Rattle.cx_base.specs.Shapes.Simple.{is_plain}
use Rattle.cx_base.proofs.simple_form.are_plain.Given as goal

abbrev pub invariant-loop-component : goal.invariant-loop-component
invariant-loop-component l = shadow (Utf8 l.rest) × (list_all is_plain (slice_split is_slash l.path) ≡ list_all is_plain (slice_split is_slash l.rest))

abbrev pub decreases-loop-component : goal.decreases-loop-component
decreases-loop-component l = length l.rest
