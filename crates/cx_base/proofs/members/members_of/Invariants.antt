use Rattle.std.proofs.Common.{◌≡◌, [], drop}
use Rattle.cx_base.specs.Shapes.Members.{members_with}
use Rattle.cx_base.proofs.members.members_of.Given as goal

abbrev pub invariant-loop-file : goal.invariant-loop-file
invariant-loop-file l = members_with [] l.stored l.folder ≡ members_with l.entries.items (drop l.file-index l.stored) l.folder
