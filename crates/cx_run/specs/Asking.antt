-- What the words ask of the files, and what these answered.
use Rattle.std.specs.Prelude.{◌≡◌, List, [], Result, Ok, Err}
use Rattle.cx_base.specs.declared.answers.SeenEntry.{SeenEntry}
use Rattle.cx_base.specs.Outside.{FilesState}
use Rattle.cx_shelf.specs.declared.shelf.Shelved.{Shelved}
use Rattle.cx_options.specs.declared.answer.Options.{Options}
use Rattle.cx_options.specs.Command.{Refused}
use Rattle.cx_asking.specs.declared.limits.Limits.{Limits}
use Rattle.cx_asking.specs.Asked.{AreAnswers, IsAskedOnly}
use Rattle.cx_asking.specs.Asking.{IsWholeAsking}
use Rattle.cx_asking.specs.Calls.{Answered}

-- All that the words ask: where one is refused nothing, else all that the options want.
abbrev pub IsAllAsked : Limits → Result Options Refused → List SeenEntry → Type 0
IsAllAsked limits (Err refused) seen = seen ≡ []
IsAllAsked limits (Ok options) seen =
    (shelf : List Shelved) × IsWholeAsking limits options seen shelf

-- the answers that the files gave to the calls for what was seen, and to no others
abbrev pub AreItsAnswers
    : Limits → Result Options Refused → List SeenEntry → FilesState → FilesState → Type 0
AreItsAnswers limits (Err refused) seen before after = Answered before after []
AreItsAnswers limits (Ok options) seen before after =
    (shelf : List Shelved) × AreAnswers limits options seen shelf before after

-- the files were asked for a front of what the words ask, and for nothing else
abbrev pub IsAskedAlone : Limits → Result Options Refused → FilesState → FilesState → Type 0
IsAskedAlone limits (Err refused) before after = Answered before after []
IsAskedAlone limits (Ok options) before after = IsAskedOnly limits options before after
