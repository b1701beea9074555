use Rattle.std.proofs.Common.{◌≤◌, vec_len}
use Rattle.cx_base.proofs.disk_files.front_of.Given as goal

abbrev pub invariant-loop : goal.invariant-loop
invariant-loop g l = vec_len l.bytes ≤ l.most
