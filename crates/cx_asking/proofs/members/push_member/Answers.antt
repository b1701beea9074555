use Rattle.std.proofs.Common.{sym, ◌∙◌}
use Rattle.cx_asking.proofs.members.push_member.Goals as goal
use Rattle.cx_asking.proofs.MemberLaws.{no_entry, no_member, one_member}

pub returns-in_default : goal.returns-in_default
returns-in_default c = no_entry c.args.folder.now c.args.entries.now c.args.number c.args.members.now.items (sym c.in_default.ensures.lookup.0)

pub returns-in_ok-push : goal.returns-in_ok-push
returns-in_ok-push c =
    one_member c.args.folder.now c.args.entries.now c.args.number c.args.members.now.items c.in-Some.entry.now c.in-Some-2.member c.push.new.self.items
    (sym c.in-Some.ensures.lookup.0) c.in-Some.ensures.lookup.1
    (sym c.in_ok-member.ensures ∙ c.in-Some-2.is) c.in_ok-push.ensures.items

pub returns-in_default-2 : goal.returns-in_default-2
returns-in_default-2 c =
    no_member c.args.folder.now c.args.entries.now c.args.number c.args.members.now.items c.in-Some.entry.now
    (sym c.in-Some.ensures.lookup.0) c.in-Some.ensures.lookup.1
    (sym c.in_ok-member.ensures ∙ c.in_default-2.is)
