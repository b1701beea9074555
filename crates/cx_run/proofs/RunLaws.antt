-- What holds of every run, and of one that did nothing.
use Rattle.std.proofs.Common.{◌≡◌, ℕ, List, [], ◌++◌, Option, Some, None, Result, Ok, Err, inl, refl, sym, ap, subst, append-nil, arith}
use Rattle.std.specs.Prelude.{IfSome}
use Rattle.cx_base.specs.Outside.{FilesState, FilesTold}
use Rattle.cx_base.specs.declared.answers.SeenEntry.{SeenEntry}
use Rattle.cx_first.proofs.RunLaws.{never_passed}
use Rattle.cx_options.specs.declared.answer.Options.{Options}
use Rattle.cx_options.specs.Command.{Refused}
use Rattle.cx_shelf.specs.declared.shelf.Shelved.{Shelved}
use Rattle.cx_asking.specs.declared.limits.Limits.{Limits}
use Rattle.cx_asking.specs.Answers.{AllHold}
use Rattle.cx_asking.specs.Asked.{AreAnswers, AreCallsOfNext, IsAskedOnly}
use Rattle.cx_asking.specs.Asking.{IsAskedAfter, IsWholeAsking, next, none, text_of}
use Rattle.cx_asking.specs.Calls.{Answered, AreCallsOfAll}
use Rattle.cx_asking.specs.Wishes.{Wish}
use Rattle.cx_run.specs.declared.limits.RunLimits.{RunLimits}
use Rattle.cx_run.specs.Asking.{IsAskedAlone}
use Rattle.cx_run.specs.Run.{IsSound}
use Rattle.cx_run.specs.Written.{Sinks, Took}

pub all_sound : (limits : RunLimits) (words : List (List ℕ)) (seen : List SeenEntry) → IsSound limits words seen
all_sound limits words seen source statement node found examined at = never_passed source statement node at.cause at.stuck

-- a whole asking asked for what the options want
pub whole_reads : (limits : Limits) (options : Options) (seen : List SeenEntry) (shelf : List Shelved) (before after : FilesState)
    → IsWholeAsking limits options seen shelf → AreAnswers limits options seen shelf before after → IsAskedOnly limits options before after
whole_reads limits options seen shelf before after whole answers = record {
  seen = seen;
  shelf = shelf;
  shelved = whole.shelved;
  purposes = answers.purposes;
  asked = answers.asked;
  held = answers.held;
  whole = answers.calls;
  own = answers.own;
  begun = [];
  next = subst (λ o. AreCallsOfNext limits.read o []) (sym whole.done) refl;
  answered = subst (Answered before after) (sym (append-nil answers.calls)) answers.answered;
}

-- no call was made
none_told : (told : Option FilesTold) → IfSome told (λ t. told ≡ Some (record t { calls = t.calls ++ [] }))
none_told None = tt
none_told (Some t) = ap (λ calls. Some (record { stored = t.stored; calls = calls })) (sym (append-nil t.calls))

pub answered_none : (files : FilesState) → Answered files files []
answered_none files = record { told = none_told files.told; unfailed = λ e. refl; failed = omega arith }

begun_none : (most : ℕ) (o : Option Wish) → AreCallsOfNext most o []
begun_none most None = refl
begun_none most (Some w) = inl refl

held_none : (limits : Limits) (told : Option FilesTold) → IfSome told (λ t. AllHold limits t.stored [] [] [])
unfolding AllHold
held_none limits None = tt
held_none limits (Some t) = tt

unasked : (limits : Limits) (options : Options) (files : FilesState) → IsAskedOnly limits options files files
unfolding IsAskedAfter AreCallsOfAll
unasked limits options files = record {
  seen = [];
  shelf = [];
  shelved = none 0;
  purposes = [];
  asked = tt;
  held = held_none limits files.told;
  whole = [];
  own = refl;
  begun = [];
  next = begun_none limits.read (next limits (text_of []) options []);
  answered = answered_none files;
}

-- nothing was asked, whatever the words are
pub nothing_asked : (limits : Limits) (c : Result Options Refused) (files : FilesState) → IsAskedAlone limits c files files
nothing_asked limits (Err refused) files = answered_none files
nothing_asked limits (Ok options) files = unasked limits options files

-- nothing was written
held_as_before : (holds : Option (List ℕ)) → IfSome holds (λ held. holds ≡ Some (held ++ []))
held_as_before None = tt
held_as_before (Some held) = ap Some (sym (append-nil held))

pub took_none : (s : Sinks) → Took s s []
took_none s = record { out = held_as_before s.out.holds; err = held_as_before s.err.holds }
