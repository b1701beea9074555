-- The asking of the whole, from its parts.
use Rattle.std.proofs.Common.{◌≡◌, Bool, true, false, cond, not, ◌&&◌, List, [], ◌∷◌, ◌++◌, Option, Some, None, IfSome, is_some, refl, sym, ap, ◌∙◌, subst, append-nil, unwrap_or}
use Rattle.std.specs.Prelude.{if◌then◌else◌}
use Rattle.cx_base.specs.declared.answers.Answer.TheVariants.{Absent}
use Rattle.cx_base.specs.declared.answers.SeenEntry.{SeenEntry}
use Rattle.cx_base.specs.Outside.{FilesState}
use Rattle.cx_base.specs.Simple.{simple_path}
use Rattle.cx_shelf.specs.declared.shelf.Shelved.{Shelved}
use Rattle.cx_options.specs.declared.answer.ListWord.{ListWord}
use Rattle.cx_options.specs.declared.answer.Options.{Options}
use Rattle.cx_asking.specs.declared.limits.Limits.{Limits}
use Rattle.cx_asking.specs.declared.list_fault.FileFault.{FileFault}
use Rattle.cx_asking.specs.declared.list_fault.ListFault.{ListFault}
use Rattle.cx_asking.specs.declared.purpose.Purpose.{Purpose}
use Rattle.cx_asking.specs.declared.purpose.Purpose.TheVariants as purpose
use Rattle.cx_asking.specs.Answers.{AllBelow, AllHold}
use Rattle.cx_asking.specs.Asked.{AreAnswers, IsAskedOnly}
use Rattle.cx_asking.specs.Asking.{AreShelved, IsAskedAfter, IsWholeAsking, is_open, next, text_of, wanted}
use Rattle.cx_asking.specs.Calls.{Answered, AreCallsOfAll}
use Rattle.cx_asking.specs.Includes.{Texts}
use Rattle.cx_asking.specs.Lists.{fault_of, is_refused}
use Rattle.cx_asking.specs.Shapes.Asks.{AreFirst, Asks, Extends, Gathered, IsCut, Wants, first_open, is_known}
use Rattle.cx_asking.specs.Shapes.Whole.{all_wanted, nothing, sources_wanted}
use Rattle.cx_asking.specs.Wishes.{answer_in, has_refused, list_fault, list_wishes, wish}
use Rattle.cx_asking.proofs.AsksLaws.{asks_alike, cut_alike, cut_first, done_already, then_asks, then_cut}
use Rattle.cx_asking.proofs.ListLaws.{fault_in, front_passed, front_refused}
use Rattle.cx_asking.proofs.RestLaws.{cut_here, no_calls, unless}
use Rattle.cx_asking.proofs.SeenLaws.{extends_itself, known_same}

-- entries that are first are asked in order
asked_first : (limits : Limits) (options : Options) (texts : Texts) (before more : List SeenEntry) (ps : List Purpose)
    → AreFirst limits (all_wanted limits options texts) before more ps → IsAskedAfter limits texts options before more ps
unfolding AreFirst IsAskedAfter next
asked_first limits options texts before [] [] h = tt
asked_first limits options texts before [] (p ∷ ps) h = absurd h
asked_first limits options texts before (e ∷ more) [] h = absurd h
asked_first limits options texts before (e ∷ more) (p ∷ ps) h = (h.0, asked_first limits options texts (before ++ e ∷ []) more ps h.1)

module _ (limits : Limits) (options : Options) (a : Gathered) (files after : FilesState) (p : Asks limits (all_wanted limits options) nothing a files after) where
  asked : IsAskedAfter limits (text_of a.shelf) options [] a.seen p.went.purposes
  asked =
      subst (λ s. IsAskedAfter limits (text_of a.shelf) options [] s p.went.purposes) (sym p.went.seen)
      (asked_first limits options (text_of a.shelf) [] p.went.more p.went.purposes (p.went.first (text_of a.shelf) (λ q k. refl)))

  whole : AreShelved 0 a.seen a.shelf → IsWholeAsking limits options a.seen a.shelf
  unfolding next
  whole shelf_is = record {
    shelved = shelf_is;
    purposes = p.went.purposes;
    asked = asked;
    done = p.done a (text_of a.shelf) (extends_itself a) (λ q k. refl);
  }

  answers : AreAnswers limits options a.seen a.shelf files after
  answers = record {
    purposes = p.went.purposes;
    asked = asked;
    held = subst (λ s. IfSome files.told (λ told. AllHold limits told.stored [] s p.went.purposes)) (sym p.went.seen) p.went.held;
    below = subst (AllBelow limits []) (sym p.went.seen) p.went.below;
    calls = p.went.calls;
    own = subst (λ s. AreCallsOfAll limits.read s p.went.purposes p.went.calls) (sym p.went.seen) p.went.own;
    answered = subst (Answered files after) (append-nil p.went.calls) p.went.answered;
  }

  -- memory ran out later
  pub only_whole : AreShelved 0 a.seen a.shelf → IsAskedOnly limits options files after
  only_whole shelf_is = record {
    seen = a.seen;
    shelf = a.shelf;
    shelved = shelf_is;
    purposes = p.went.purposes;
    asked = asked;
    held = subst (λ s. IfSome files.told (λ told. AllHold limits told.stored [] s p.went.purposes)) (sym p.went.seen) p.went.held;
    whole = p.went.calls;
    own = subst (λ s. AreCallsOfAll limits.read s p.went.purposes p.went.calls) (sym p.went.seen) p.went.own;
    begun = [];
    next = no_calls limits.read (next limits (text_of a.shelf) options a.seen);
    answered = p.went.answered;
  }

  -- and as they are given out
  module _ (seen : List SeenEntry) (shelf : List Shelved) (s : seen ≡ a.seen) (t : shelf ≡ a.shelf) where
    pub whole_asking : AreShelved 0 seen shelf → IsWholeAsking limits options seen shelf
    whole_asking shelf_is =
        subst (λ l. IsWholeAsking limits options l shelf) (sym s)
        (subst (IsWholeAsking limits options a.seen) (sym t)
        (whole (subst (AreShelved 0 a.seen) t (subst (λ l. AreShelved 0 l shelf) s shelf_is))))

    pub whole_answers : AreAnswers limits options seen shelf files after
    whole_answers =
        subst (λ l. AreAnswers limits options l shelf files after) (sym s)
        (subst (λ l. AreAnswers limits options a.seen l files after) (sym t) answers)

-- where memory ran out
pub asked_only : (limits : Limits) (options : Options) (files after : FilesState) → IsCut limits (all_wanted limits options) nothing files after
    → IsAskedOnly limits options files after
unfolding next
asked_only limits options files after q = record {
  seen = q.after.seen;
  shelf = q.after.shelf;
  shelved = subst (λ l. AreShelved 0 l q.after.shelf) (sym q.went.seen) (subst (AreShelved 0 q.went.more) (sym q.went.shelf) q.went.shelved);
  purposes = q.went.purposes;
  asked = subst (λ s. IsAskedAfter limits (text_of q.after.shelf) options [] s q.went.purposes) (sym q.went.seen)
      (asked_first limits options (text_of q.after.shelf) [] q.went.more q.went.purposes (q.went.first (text_of q.after.shelf) (λ r k. refl)));
  held = subst (λ s. IfSome files.told (λ told. AllHold limits told.stored [] s q.went.purposes)) (sym q.went.seen) q.went.held;
  whole = q.went.calls;
  own = subst (λ s. AreCallsOfAll limits.read s q.went.purposes q.went.calls) (sym q.went.seen) q.went.own;
  begun = q.lost;
  next = q.within (text_of q.after.shelf) (λ r k. refl);
  answered = q.went.answered;
}

-- lists that were asked stay refused, or not

lists_stay : (limits : Limits) (seen more : List SeenEntry) (lists : List ListWord) → first_open limits seen (list_wishes seen lists) ≡ None
    → list_fault (seen ++ more) lists ≡ list_fault seen lists
unfolding list_wishes list_fault is_open
lists_stay limits seen more [] e = refl
lists_stay limits seen more (list ∷ lists) e = by (is_known seen (simple_path list.path)) refl e (lists_stay limits seen more lists)
  where
    tail : (o : Option FileFault) → fault_in seen list ≡ o → fault_in (seen ++ more) list ≡ fault_in seen list
        → first_open limits seen (if is_some o then [] else list_wishes seen lists) ≡ None
        → (first_open limits seen (list_wishes seen lists) ≡ None → list_fault (seen ++ more) lists ≡ list_fault seen lists)
        → list_fault (seen ++ more) (list ∷ lists) ≡ list_fault seen (list ∷ lists)
    tail None t same e rest = front_passed (seen ++ more) list lists (same ∙ t) ∙ rest e ∙ sym (front_passed seen list lists t)
    tail (Some f) t same e rest = front_refused (seen ++ more) list lists f (same ∙ t) ∙ sym (front_refused seen list lists f t)

    by : (k : Bool) → is_known seen (simple_path list.path) ≡ k
        → cond (not k && true) (Some (wish purpose.File (simple_path list.path)))
        (first_open limits seen (if is_refused (answer_in seen (simple_path list.path)) then [] else list_wishes seen lists)) ≡ None
        → (first_open limits seen (list_wishes seen lists) ≡ None → list_fault (seen ++ more) lists ≡ list_fault seen lists)
        → list_fault (seen ++ more) (list ∷ lists) ≡ list_fault seen (list ∷ lists)
    by false t e rest = absurd cc
    by true t e rest =
        tail (fault_in seen list) refl (ap (λ o. fault_of (unwrap_or o Absent)) (known_same seen more (simple_path list.path) t)) e rest

-- the lists, and then the rest

abbrev pub lists_wanted : Options → Wants
lists_wanted options texts seen = list_wishes seen options.lists

abbrev pub refused : Options → List SeenEntry → Bool
refused options seen = has_refused seen options.lists

pub lists_cut_first : (limits : Limits) (options : Options) (files after : FilesState) → IsCut limits (lists_wanted options) nothing files after
    → IsCut limits (all_wanted limits options) nothing files after
unfolding wanted
lists_cut_first limits options files after q =
    cut_first limits (lists_wanted options) (unless (refused options) (sources_wanted limits options)) nothing files after q

module _ (limits : Limits) (options : Options) (start : Gathered) (lists : List ListWord) (begins : start ≡ nothing) (those : lists ≡ options.lists) where
  pub from_start : (b : Gathered) (files between : FilesState) → Asks limits (λ texts seen. list_wishes seen lists) start b files between
      → Asks limits (lists_wanted options) nothing b files between
  from_start b files between p =
      subst (λ l. Asks limits (λ texts seen. list_wishes seen l) nothing b files between) those
      (subst (λ g. Asks limits (λ texts seen. list_wishes seen lists) g b files between) begins p)

  pub cut_from_start : (files after : FilesState) → IsCut limits (λ texts seen. list_wishes seen lists) start files after
      → IsCut limits (all_wanted limits options) nothing files after
  cut_from_start files after q =
      lists_cut_first limits options files after
      (subst (λ l. IsCut limits (λ texts seen. list_wishes seen l) nothing files after) those
      (subst (λ g. IsCut limits (λ texts seen. list_wishes seen lists) g files after) begins q))

pub refused_told : (options : Options) (r : Option ListFault) (seen answers : List SeenEntry) (lists : List ListWord) (t u : Bool)
    → r ≡ list_fault answers lists → answers ≡ seen → lists ≡ options.lists → u ≡ is_some r → u ≡ t → refused options seen ≡ t
refused_told options r seen answers lists t u is same those tells known =
    ap (λ s. is_some (list_fault s options.lists)) (sym same) ∙ ap (λ l. is_some (list_fault answers l)) (sym those)
    ∙ ap is_some (sym is) ∙ sym tells ∙ known

module _ (limits : Limits) (options : Options) (b : Gathered) (files between : FilesState) (p : Asks limits (lists_wanted options) nothing b files between) where
  stays : (later : Gathered) → Extends b later → refused options later.seen ≡ refused options b.seen
  stays later e =
      ap is_some (ap (λ s. list_fault s options.lists) e.seen
      ∙ lists_stay limits b.seen e.more options.lists (p.done b (text_of b.shelf) (extends_itself b) (λ q k. refl)))

  pub cut_behind_lists : IsCut limits (all_wanted limits options) nothing files between
  unfolding wanted
  cut_behind_lists =
      then_cut limits (lists_wanted options) (unless (refused options) (sources_wanted limits options)) nothing b files between between p
      (cut_here limits (unless (refused options) (sources_wanted limits options)) b between)

  pub lists_alone : refused options b.seen ≡ true → Asks limits (all_wanted limits options) nothing b files between
  unfolding wanted
  lists_alone is =
      then_asks limits (lists_wanted options) (unless (refused options) (sources_wanted limits options)) nothing b b files between between p
      (done_already limits (unless (refused options) (sources_wanted limits options)) b between
      (λ later texts e agree. ap (λ t. first_open limits later.seen (if t then [] else sources_wanted limits options texts later.seen)) (stays later e ∙ is)))

  module _ (is : refused options b.seen ≡ false) (after : FilesState) where
    pub then_sources : (c : Gathered) → Asks limits (sources_wanted limits options) b c between after → Asks limits (all_wanted limits options) nothing c files after
    unfolding wanted
    then_sources c q =
        then_asks limits (lists_wanted options) (unless (refused options) (sources_wanted limits options)) nothing b c files between after p
        (asks_alike limits (sources_wanted limits options) (unless (refused options) (sources_wanted limits options)) b c between after
        (λ later texts e agree. sym (ap (λ t. if t then [] else sources_wanted limits options texts later.seen) (stays later e ∙ is))) q)

    pub then_sources_cut : IsCut limits (sources_wanted limits options) b between after → IsCut limits (all_wanted limits options) nothing files after
    unfolding wanted
    then_sources_cut q =
        then_cut limits (lists_wanted options) (unless (refused options) (sources_wanted limits options)) nothing b files between after p
        (cut_alike limits (sources_wanted limits options) (unless (refused options) (sources_wanted limits options)) b between after
        (λ later texts e agree. sym (ap (λ t. if t then [] else sources_wanted limits options texts later.seen) (stays later e ∙ is))) q)
