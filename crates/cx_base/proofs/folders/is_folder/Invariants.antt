use Rattle.std.proofs.Common.{◌≡◌, drop}
use Rattle.cx_base.specs.Folders.{inside}
use Rattle.std.specs.List.{list_any}
use Rattle.std.specs.Prelude.{is_some}
use Rattle.cx_base.proofs.folders.is_folder.Given as goal

abbrev pub invariant-loop-file : goal.invariant-loop-file
invariant-loop-file l = list_any (λ file. is_some (inside l.path file.path)) l.stored ≡ list_any (λ file. is_some (inside l.path file.path)) (drop l.file-index l.stored)
