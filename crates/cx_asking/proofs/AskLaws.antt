-- The asking of one path.
use Rattle.std.proofs.Common.{◌≡◌, inl, inr, ℕ, ◌+◌, Bool, true, false, not, ◌&&◌, List, [], ◌∷◌, ◌++◌, Option, Some, None, is_some, Result, Ok, Err, IfOk, IfSome, ⊎_elim, refl, sym, ap, ◌∙◌, subst, append-nil, arith, length, length-append}
use Rattle.std.specs.Prelude.{OnErr}
use Rattle.std.proofs.lemmas.Bool.{le-ltb, ltb-false}
use Rattle.std.proofs.lemmas.List.Elements.{All-cons, All-nil, filter-append}
use Rattle.std.proofs.lemmas.Slice.Eq.{bytes_eq-Decides}
use Rattle.cx_base.specs.declared.answers.Answer.{Answer}
use Rattle.cx_base.specs.declared.answers.SeenEntry.{SeenEntry}
use Rattle.cx_base.specs.declared.file_calls.FileCall.{FileCall}
use Rattle.cx_base.specs.Outside.{FilesState, FilesTold}
use Rattle.cx_asking.specs.declared.limits.Limits.{Limits}
use Rattle.cx_asking.specs.declared.purpose.Purpose.{Purpose}
use Rattle.cx_asking.specs.declared.purpose.Purpose.TheVariants as purpose
use Rattle.cx_asking.specs.Answers.{AllBelow, AllHold, Holds, kept}
use Rattle.cx_asking.specs.Asked.{AreCallsOfNext}
use Rattle.cx_asking.specs.Asking.{is_open, may_be_asked, none as nothing_shelved}
use Rattle.cx_asking.specs.Calls.{Answered, AreCallsOfAll, before_read}
use Rattle.cx_asking.specs.Includes.{Texts}
use Rattle.cx_asking.specs.Shapes.Asks.{AreFirst, Asks, Gathered, IsAnswer, IsCut, IsCutAt, IsDone, IsNew, Wants, first_open, is_known}
use Rattle.cx_asking.specs.Shapes.Indexed.{Adds}
use Rattle.cx_asking.specs.Wishes.{folders_in, is_folder, look_up, wish}
use Rattle.cx_asking.proofs.AsksLaws.{done_already}
use Rattle.cx_asking.proofs.CallLaws.{some_then}
use Rattle.cx_asking.proofs.SeenLaws.{known_more, look_up_past}

-- one path is wanted
abbrev pub one : Purpose → List ℕ → Wants
one purpose path texts seen = wish purpose path ∷ []

module _ (limits : Limits) (p : Purpose) (path : List ℕ) where
  open_first : (seen : List SeenEntry) → is_open limits seen (wish p path) ≡ true → first_open limits seen (wish p path ∷ []) ≡ Some (wish p path)
  open_first seen e = rw e refl

  closed_none : (seen : List SeenEntry) → is_open limits seen (wish p path) ≡ false → first_open limits seen (wish p path ∷ []) ≡ None
  closed_none seen e = rw e refl

  known_closed : (seen : List SeenEntry) → is_known seen path ≡ true → is_open limits seen (wish p path) ≡ false
  unfolding is_open
  known_closed seen e = rw e refl

  full_closed : (seen : List SeenEntry) → may_be_asked limits seen p ≡ false → is_open limits seen (wish p path) ≡ false
  unfolding is_open
  full_closed seen e = by (is_known seen path)
    where
      by : (b : Bool) → (not b && may_be_asked limits seen p) ≡ false
      by true = refl
      by false = e

  new_open : (seen : List SeenEntry) → is_known seen path ≡ false → may_be_asked limits seen p ≡ true → is_open limits seen (wish p path) ≡ true
  unfolding is_open
  new_open seen e m = rw e m

  full_stays : (seen more : List SeenEntry) → may_be_asked limits seen p ≡ false → may_be_asked limits (seen ++ more) p ≡ false
  unfolding folders_in
  full_stays seen more e = by p e
    where
      by : (q : Purpose) → may_be_asked limits seen q ≡ false → may_be_asked limits (seen ++ more) q ≡ false
      by purpose.Given e = absurd cc
      by purpose.File e = absurd cc
      by purpose.Folder e = le-ltb (length (folders_in (seen ++ more))) limits.folders (omega (arith, ltb-false _ _ e, longer))
        where
          longer : length (folders_in (seen ++ more)) ≡ length (folders_in seen) + length (folders_in more)
          longer = ap length (filter-append (λ x. is_folder x.answer) seen more) ∙ length-append (folders_in seen) (folders_in more)

  known_done : (g : Gathered) → is_known g.seen path ≡ true → IsDone limits (one p path) g
  known_done g e later texts l agree =
      closed_none later.seen (known_closed later.seen (ap (λ s. is_known s path) l.seen ∙ known_more g.seen l.more path e))

  full_done : (g : Gathered) → may_be_asked limits g.seen p ≡ false → IsDone limits (one p path) g
  full_done g e later texts l agree =
      closed_none later.seen (full_closed later.seen (ap (λ s. may_be_asked limits s p) l.seen ∙ full_stays g.seen l.more e))

  pub known_asked : (g : Gathered) (files : FilesState) → is_known g.seen path ≡ true → Asks limits (one p path) g g files files
  known_asked g files e = done_already limits (one p path) g files (known_done g e)

  pub full_asked : (g : Gathered) (files : FilesState) → may_be_asked limits g.seen p ≡ false → Asks limits (one p path) g g files files
  full_asked g files e = done_already limits (one p path) g files (full_done g e)

  not_known : (seen : List SeenEntry) → is_known seen path ≡ false → look_up seen path ≡ None
  not_known seen e = by (look_up seen path) refl e
    where
      by : (o : Option Answer) → look_up seen path ≡ o → is_some o ≡ false → look_up seen path ≡ None
      by None t e = t
      by (Some a) t e = absurd cc

  now_known : (seen : List SeenEntry) (answer : Answer) → look_up seen path ≡ None → is_known (seen ++ record { path = path; answer = answer } ∷ []) path ≡ true
  unfolding look_up
  now_known seen answer e =
      ap is_some (look_up_past seen (record { path = path; answer = answer } ∷ []) path e) ∙ rw ((bytes_eq-Decides path path).1 refl) refl

  -- a path that was not asked, and may be, was asked
  pub asked_new : (before after : Gathered) (answer : Answer) (files files_after : FilesState) → is_known before.seen path ≡ false → may_be_asked limits before.seen p ≡ true
      → IsAnswer limits (kept before.seen) p path answer files files_after → Adds before path answer after → Asks limits (one p path) before after files files_after
  unfolding AreFirst AllHold AllBelow AreCallsOfAll
  asked_new before after answer files files_after e m a adds =
      let entry : SeenEntry = record { path = path; answer = answer } in
      let none : look_up before.seen path ≡ None = not_known before.seen e in
      record {
        went = record {
          more = entry ∷ [];
          new = adds.new;
          purposes = p ∷ [];
          seen = adds.seen;
          fresh = All-cons (IsNew before.seen) entry [] none (All-nil (IsNew before.seen));
          shelf = adds.shelf;
          shelved = adds.is;
          first = λ texts agree. (open_first before.seen (new_open before.seen e m), tt);
          held = some_then files.told (λ told. Holds limits told.stored (kept before.seen) p path answer)
              (λ told. AllHold limits told.stored before.seen (entry ∷ []) (p ∷ [])) (λ told h. (h, tt)) a.held;
          below = (a.below, tt);
          calls = a.calls;
          own = (a.calls, [], a.own, refl, sym (append-nil a.calls));
          answered = subst (Answered files files_after) (sym (append-nil a.calls)) a.answered;
        };
        done = known_done after (ap (λ s. is_known s path) adds.seen ∙ now_known before.seen answer none);
      }

  cut_within : (before : Gathered) (files files_after : FilesState) (lost : List FileCall) → Answered files files_after lost
      → ((texts : Texts) → AreCallsOfNext limits.read (first_open limits before.seen (wish p path ∷ [])) lost) → IsCut limits (one p path) before files files_after
  unfolding AreFirst AllHold AllBelow AreCallsOfAll
  cut_within before files files_after lost answered within = record {
    after = before;
    lost = lost;
    went = record {
      more = [];
      new = [];
      purposes = [];
      seen = sym (append-nil before.seen);
      fresh = All-nil (IsNew before.seen);
      shelf = sym (append-nil before.shelf);
      shelved = nothing_shelved (length before.seen);
      first = λ texts agree. tt;
      held = none files.told;
      below = tt;
      calls = [];
      own = refl;
      answered = answered;
    };
    within = λ texts agree. within texts;
  }
    where
      none : (told : Option FilesTold) → IfSome told (λ t. AllHold limits t.stored before.seen [] [])
      none None = tt
      none (Some t) = tt

  -- memory ran out while a path was asked, and after it was answered

  pub cut_asking : (before : Gathered) (files files_after : FilesState) → is_known before.seen path ≡ false → may_be_asked limits before.seen p ≡ true
      → IsCutAt p path files files_after → IsCut limits (one p path) before files files_after
  cut_asking before files files_after e m cut =
      cut_within before files files_after cut.calls cut.answered
      (λ texts. subst (λ o. AreCallsOfNext limits.read o cut.calls) (sym (open_first before.seen (new_open before.seen e m)))
      (⊎_elim (λ (none : cut.calls ≡ []). inl none) (λ (some : cut.calls ≡ before_read p path). inr (inl some)) cut.begun))

  pub cut_answered : (before : Gathered) (answer : Answer) (files files_after : FilesState) → is_known before.seen path ≡ false → may_be_asked limits before.seen p ≡ true
      → IsAnswer limits (kept before.seen) p path answer files files_after → IsCut limits (one p path) before files files_after
  cut_answered before answer files files_after e m a =
      cut_within before files files_after a.calls a.answered
      (λ texts. subst (λ o. AreCallsOfNext limits.read o a.calls) (sym (open_first before.seen (new_open before.seen e m)))
      (inr (inr (answer, a.own))))

  -- the same, of what a call gave, where the answers are those of these values

  pub asked_by : {E : Type 0} (result : Result Gathered E) (before : Gathered) (answer : Answer) (others : ℕ) (same : List ℕ) (files files_after : FilesState)
      → is_known before.seen path ≡ false → may_be_asked limits before.seen p ≡ true → others ≡ kept before.seen → same ≡ path
      → IsAnswer limits others p path answer files files_after → IfOk result (Adds before same answer)
      → IfOk result (λ after. Asks limits (one p path) before after files files_after)
  asked_by (Ok after) before answer others same files files_after e m o s a adds =
      asked_new before after answer files files_after e m (subst (λ n. IsAnswer limits n p path answer files files_after) o a)
      (subst (λ q. Adds before q answer after) s adds)
  asked_by (Err error) before answer others same files files_after e m o s a adds = tt

  pub cut_behind : {T E : Type 0} (result : Result T E) (before : Gathered) (answer : Answer) (others : ℕ) (files files_after : FilesState)
      → is_known before.seen path ≡ false → may_be_asked limits before.seen p ≡ true → others ≡ kept before.seen
      → IsAnswer limits others p path answer files files_after → OnErr result (IsCut limits (one p path) before files files_after)
  cut_behind (Ok x) before answer others files files_after e m o a = tt
  cut_behind (Err error) before answer others files files_after e m o a =
      cut_answered before answer files files_after e m (subst (λ n. IsAnswer limits n p path answer files files_after) o a)

-- what holds anyway holds where there is an error
pub on_error : {T E : Type 0} (result : Result T E) (P : Type 0) → P → OnErr result P
on_error (Ok x) P h = tt
on_error (Err error) P h = h
