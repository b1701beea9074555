use Rattle.std.proofs.Common.{rules, subst, sym, ◌∙◌}
use Rattle.cx_base.specs.Folders.{AreMembers}
use Rattle.cx_base.proofs.MemberLaws.{are_members}
use Rattle.cx_base.proofs.memory_files.entries_at.Goals as goal

pub returns-clause-lists : goal.returns-clause-lists
returns-clause-lists c = (
  search rules,
  subst (AreMembers c.args.stored.now c.args.path.now) (sym (c.from_vec.ensures ∙ c.in_ok-entries.ensures))
      (are_members c.args.stored.now c.args.path.now),
)
