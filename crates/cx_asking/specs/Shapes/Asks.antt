-- What a part of the asking did, by what it wants: joined to `IsWholeAsking` of Asking by the law
-- `whole_asking` of proofs/WholeLaws.antt.
use Rattle.std.specs.Prelude.{◌≡◌, ℕ, ◌⊎◌, List, [], ◌∷◌, ◌++◌, Bool, Option, Some, None, All, IfSome, IsTrue, is_some, length}
use Rattle.std.specs.List.{find}
use Rattle.cx_base.specs.declared.answers.Answer.{Answer}
use Rattle.cx_base.specs.declared.answers.SeenEntry.{SeenEntry}
use Rattle.cx_base.specs.declared.file_calls.FileCall.{FileCall}
use Rattle.cx_base.specs.Outside.{FilesState}
use Rattle.cx_shelf.specs.declared.shelf.Shelved.{Shelved}
use Rattle.cx_asking.specs.declared.limits.Limits.{Limits}
use Rattle.cx_asking.specs.declared.purpose.Purpose.{Purpose}
use Rattle.cx_asking.specs.Answers.{AllBelow, AllHold, Holds, IsBelow}
use Rattle.cx_asking.specs.Asked.{AreCallsOfNext}
use Rattle.cx_asking.specs.Asking.{AreShelved, is_open, text_of}
use Rattle.cx_asking.specs.Calls.{Answered, AreCalls, AreCallsOfAll, before_read}
use Rattle.cx_asking.specs.Includes.{Texts}
use Rattle.cx_asking.specs.Wishes.{Wish, look_up, wish}

-- what was seen, and the shelf of the files that have pieces
pub record Gathered : Type 0 where
  pub seen : List SeenEntry
  pub shelf : List Shelved

-- what is wanted by the pieces of the files and by what was seen
abbrev pub Wants : Type 0
Wants = Texts → List SeenEntry → List Wish

-- a path was asked
abbrev pub is_known : List SeenEntry → List ℕ → Bool
is_known seen path = is_some (look_up seen path)

-- an entry of a path that was not asked
abbrev pub IsNew : List SeenEntry → SeenEntry → Type 0
IsNew seen e = look_up seen e.path ≡ None

-- more paths were seen, and the files of those came to the shelf
pub record Extends (before after : Gathered) : Type 0 where
  pub more : List SeenEntry
  pub new : List Shelved
  pub seen : after.seen ≡ before.seen ++ more
  pub fresh : All (IsNew before.seen) more
  pub shelf : after.shelf ≡ before.shelf ++ new
  pub shelved : AreShelved (length before.seen) more new

-- the pieces of the paths that were asked are those of the shelf
abbrev pub Agree : Texts → Gathered → Type 0
Agree texts g = (path : List ℕ) → IsTrue (is_known g.seen path) → texts path ≡ text_of g.shelf path

-- the first wish that is open
abbrev pub first_open : Limits → List SeenEntry → List Wish → Option Wish
first_open limits seen wishes = find (is_open limits seen) wishes

-- each entry was the first that is wanted and open after those before it
unfoldable pub AreFirst
    : Limits → (List SeenEntry → List Wish) → List SeenEntry → List SeenEntry → List Purpose
    → Type 0
AreFirst limits wants before [] [] = Unit {0}
AreFirst limits wants before [] (p ∷ ps) = ⊥
AreFirst limits wants before (e ∷ seen) [] = ⊥
AreFirst limits wants before (e ∷ seen) (p ∷ ps) =
    (first_open limits before (wants before) ≡ Some (wish p e.path))
    × AreFirst limits wants (before ++ e ∷ []) seen ps

-- nothing that is wanted is open, whatever else is asked from now on
abbrev pub IsDone : Limits → Wants → Gathered → Type 0
IsDone limits wants g =
    (later : Gathered) (texts : Texts) → Extends g later → Agree texts later
    → first_open limits later.seen (wants texts later.seen) ≡ None

abbrev pub IsLostIn : Limits → Wants → Gathered → List FileCall → Type 0
IsLostIn limits wants g lost =
    (texts : Texts) → Agree texts g
    → AreCallsOfNext limits.read (first_open limits g.seen (wants texts g.seen)) lost

-- A part of the asking went from what was gathered before to what was gathered after. The calls
-- that are lost gave no entry.
pub record Went (limits : Limits) (wants : Wants) (before after : Gathered)
    (files files_after : FilesState) (lost : List FileCall) : Type 0 where
  pub more : List SeenEntry
  pub new : List Shelved
  pub purposes : List Purpose
  pub seen : after.seen ≡ before.seen ++ more
  pub fresh : All (IsNew before.seen) more
  pub shelf : after.shelf ≡ before.shelf ++ new
  pub shelved : AreShelved (length before.seen) more new
  pub first : (texts : Texts) → Agree texts after
      → AreFirst limits (wants texts) before.seen more purposes
  pub held : IfSome files.told (λ told. AllHold limits told.stored before.seen more purposes)
  pub below : AllBelow limits before.seen more
  pub calls : List FileCall
  pub own : AreCallsOfAll limits.read more purposes calls
  pub answered : Answered files files_after (calls ++ lost)

-- All that is wanted was asked.
pub record Asks (limits : Limits) (wants : Wants) (before after : Gathered)
    (files files_after : FilesState) : Type 0 where
  pub went : Went limits wants before after files files_after []
  pub done : IsDone limits wants after

-- Memory ran out before all that is wanted was asked.
pub record IsCut (limits : Limits) (wants : Wants) (before : Gathered)
    (files files_after : FilesState) : Type 0 where
  pub after : Gathered
  pub lost : List FileCall
  pub went : Went limits wants before after files files_after lost
  pub within : IsLostIn limits wants after lost

-- An answer that was got for a purpose, where so many bytes are kept of others.
pub record IsAnswer (limits : Limits) (others : ℕ) (purpose : Purpose) (path : List ℕ)
    (answer : Answer) (files files_after : FilesState) : Type 0 where
  pub held : IfSome files.told (λ told. Holds limits told.stored others purpose path answer)
  pub below : IsBelow limits others answer
  pub calls : List FileCall
  pub own : AreCalls limits.read purpose path answer calls
  pub answered : Answered files files_after calls

-- Memory ran out in the calls for a path.
pub record IsCutAt (purpose : Purpose) (path : List ℕ) (files files_after : FilesState)
    : Type 0 where
  pub calls : List FileCall
  pub begun : (calls ≡ []) ⊎ (calls ≡ before_read purpose path)
  pub answered : Answered files files_after calls
