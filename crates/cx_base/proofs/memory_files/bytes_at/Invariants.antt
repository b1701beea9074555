use Rattle.std.proofs.Common.{◌≡◌, drop}
use Rattle.cx_base.specs.Outside.{bytes_at}
use Rattle.cx_base.proofs.memory_files.bytes_at.Given as goal

abbrev pub invariant-loop-file : goal.invariant-loop-file
invariant-loop-file l = bytes_at l.stored l.path ≡ bytes_at (drop l.file-index l.stored) l.path
