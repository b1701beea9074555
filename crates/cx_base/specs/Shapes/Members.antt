-- The ordered list of a folder's members, one file after another, joined to Folders.AreMembers and
-- IsOrdered by the laws are_members and members_ordered of proofs/MemberLaws.antt.
use Rattle.std.specs.Prelude.{ℕ, List, [], ◌∷◌, Option, Some, None}
use Rattle.std.specs.declared.cmp.Ordering.{Ordering}
use Rattle.std.specs.declared.cmp.Ordering.TheVariants.{Less, Equal, Greater}
use Rattle.cx_base.specs.declared.answers.Entry.{Entry}
use Rattle.cx_base.specs.declared.answers.Stored.{Stored}
use Rattle.cx_base.specs.Folders.{entry_at, entry_cmp}

-- what an entry gives with another in front of a list, by how the two compare
abbrev pub placed : Ordering → Entry → Entry → List Entry → List Entry → List Entry
placed Less entry other others inserted = entry ∷ other ∷ others
placed Equal entry other others inserted = other ∷ others
placed Greater entry other others inserted = other ∷ inserted

-- an entry put at its place in an ordered list, where it does not stand there
unfoldable pub added : Entry → List Entry → List Entry
added entry [] = entry ∷ []
added entry (other ∷ others) =
    placed (entry_cmp entry other) entry other others (added entry others)

abbrev pub with_entry : Option Entry → List Entry → List Entry
with_entry None entries = entries
with_entry (Some entry) entries = added entry entries

-- the members of a folder that these files give, put to those that stand there
abbrev pub members_with : List Entry → List Stored → List ℕ → List Entry
members_with entries [] folder = entries
members_with entries (file ∷ files) folder =
    members_with (with_entry (entry_at folder file.path) entries) files folder
