-- What the code looks at on its way: joined to Wishes and Includes by MemberLaws,
-- UnitLaws, WalkLaws, SourceLaws and IncludeLaws of proofs/.
use Rattle.std.specs.Prelude.{ℕ, zero, suc, ◌+◌, List, [], ◌∷◌, ◌&&◌, nat_le, nat_lt, Option, Some, None, if◌then◌else◌, length, map, filter, bytes_eq}
use Rattle.std.specs.Global.{Vec}
use Rattle.std.specs.List.{filter_map}
use Rattle.indexmap.specs.IndexSet.{insert_all}
use Rattle.cx_base.specs.declared.answers.Answer.{Answer}
use Rattle.cx_base.specs.declared.answers.Answer.TheVariants.{Present, TooLarge}
use Rattle.cx_base.specs.declared.answers.Entry.{Entry}
use Rattle.cx_base.specs.declared.answers.SeenEntry.{SeenEntry}
use Rattle.cx_asking.specs.declared.limits.Limits.{Limits}
use Rattle.cx_asking.specs.declared.members.Member.{Member}
use Rattle.cx_asking.specs.declared.purpose.Purpose.TheVariants as purpose
use Rattle.cx_asking.specs.Members.{in_order, is_source, member_path}
use Rattle.cx_asking.specs.Wishes.{Wish, answer_for, below, entries_among, makes_unit, wish}

-- a file of these first bytes, beside so many that are kept of others
abbrev pub kept_or_large : Limits → ℕ → List ℕ → Answer
kept_or_large limits others bytes =
    if nat_lt (length bytes) limits.read && nat_le (others + length bytes) limits.kept
    then Present bytes else TooLarge

-- a member of a folder that is gone through or asked: a subfolder, or a source
abbrev pub member_of : List ℕ → Entry → Option Member
member_of folder e =
    if e.folder then Some (record { path = member_path folder e.name; folder = e.folder })
    else if is_source e.name
    then Some (record { path = member_path folder e.name; folder = e.folder })
    else None

unfoldable pub members_of : List ℕ → List Entry → List Member
members_of folder entries = filter_map (member_of folder) (in_order entries)

-- what is wanted of a subfolder, and of what is below it, down to so many one within another
unfoldable pub subfolder_wishes : ℕ → ℕ → List SeenEntry → List ℕ → List Wish
subfolder_wishes zero most seen path = []
subfolder_wishes (suc depth) most seen path =
    wish purpose.Folder path ∷ below depth most seen path (entries_among most seen path)

-- what is wanted of a member of a folder
unfoldable pub member_wishes : ℕ → ℕ → List SeenEntry → Member → List Wish
member_wishes depth most seen m =
    if m.folder then subfolder_wishes depth most seen m.path
    else wish purpose.File m.path ∷ []

-- units with those of more wishes
unfoldable pub with_units : ℕ → List SeenEntry → List (List ℕ) → List Wish → List (List ℕ)
with_units most seen units wishes =
    insert_all bytes_eq units
    (map (λ w. w.path)
    (filter (λ w. makes_unit w.purpose w.path (answer_for most seen w.purpose w.path)) wishes))

abbrev pub lists_of : List (Vec (List ℕ)) → List (List (List ℕ))
lists_of vs = map (λ v. v.items) vs
