-- What the files were asked, and what they answered.
use Rattle.std.specs.Prelude.{◌≡◌, ◌⊎◌, ℕ, List, [], ◌++◌, Option, Some, None, IfSome}
use Rattle.cx_base.specs.declared.answers.Answer.{Answer}
use Rattle.cx_base.specs.declared.answers.SeenEntry.{SeenEntry}
use Rattle.cx_base.specs.declared.file_calls.FileCall.{FileCall}
use Rattle.cx_base.specs.Outside.{FilesState}
use Rattle.cx_shelf.specs.declared.shelf.Shelved.{Shelved}
use Rattle.cx_options.specs.declared.answer.Options.{Options}
use Rattle.cx_asking.specs.declared.limits.Limits.{Limits}
use Rattle.cx_asking.specs.declared.purpose.Purpose.{Purpose}
use Rattle.cx_asking.specs.Answers.{AllBelow, AllHold}
use Rattle.cx_asking.specs.Asking.{AreShelved, IsAskedAfter, next, text_of}
use Rattle.cx_asking.specs.Calls.{Answered, AreCalls, AreCallsOfAll, before_read}
use Rattle.cx_asking.specs.Wishes.{Wish}

-- The answers that the files gave to the calls of these entries, and to no others.
pub record AreAnswers (limits : Limits) (options : Options) (seen : List SeenEntry)
    (shelf : List Shelved) (before after : FilesState) : Type 0 where
  pub purposes : List Purpose
  pub asked : IsAskedAfter limits (text_of shelf) options [] seen purposes
  -- each is what the files hold, where they tell that
  pub held : IfSome before.told (λ told. AllHold limits told.stored [] seen purposes)
  pub below : AllBelow limits [] seen
  pub calls : List FileCall
  pub own : AreCallsOfAll limits.read seen purposes calls
  pub answered : Answered before after calls

-- The calls at the next wish, where memory ran out: some of those that give an answer.
abbrev pub AreCallsOfNext : ℕ → Option Wish → List FileCall → Type 0
AreCallsOfNext most None calls = calls ≡ []
AreCallsOfNext most (Some w) calls =
    (calls ≡ []) ⊎ ((calls ≡ before_read w.purpose w.path)
    ⊎ ((answer : Answer) × AreCalls most w.purpose w.path answer calls))

-- The files were asked for a front of what the options want, and for nothing else.
pub record IsAskedOnly (limits : Limits) (options : Options) (before after : FilesState)
    : Type 0 where
  pub seen : List SeenEntry
  pub shelf : List Shelved
  pub shelved : AreShelved 0 seen shelf
  pub purposes : List Purpose
  pub asked : IsAskedAfter limits (text_of shelf) options [] seen purposes
  pub held : IfSome before.told (λ told. AllHold limits told.stored [] seen purposes)
  pub whole : List FileCall
  pub own : AreCallsOfAll limits.read seen purposes whole
  pub begun : List FileCall
  pub next : AreCallsOfNext limits.read (next limits (text_of shelf) options seen) begun
  pub answered : Answered before after (whole ++ begun)
