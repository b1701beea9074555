-- Parts of the asking, one after another.
use Rattle.std.proofs.Common.{◌≡◌, inl, ℕ, ◌+◌, Bool, true, false, cond, not, ◌&&◌, is_some, length, length-append, arith, List, [], ◌∷◌, ◌++◌, Option, Some, None, IfSome, All, refl, sym, ap, ◌∙◌, subst, append_assoc, append-nil}
use Rattle.std.specs.List.{find}
use Rattle.std.specs.Option.{option_or}
use Rattle.std.proofs.lemmas.List.Folds.{find-append}
use Rattle.std.proofs.lemmas.List.Elements.{All-cons, All-head, All-nil, All-push}
use Rattle.cx_base.specs.declared.answers.Answer.{Answer}
use Rattle.cx_base.specs.declared.answers.SeenEntry.{SeenEntry}
use Rattle.cx_base.specs.declared.answers.Stored.{Stored}
use Rattle.cx_base.specs.declared.file_calls.FileCall.{FileCall}
use Rattle.cx_base.specs.Outside.{FilesState, FilesTold}
use Rattle.cx_shelf.specs.declared.shelf.Shelved.{Shelved}
use Rattle.cx_asking.specs.declared.limits.Limits.{Limits}
use Rattle.cx_asking.specs.declared.purpose.Purpose.{Purpose}
use Rattle.cx_asking.specs.Answers.{AllBelow, AllHold}
use Rattle.cx_asking.specs.Asked.{AreCallsOfNext}
use Rattle.cx_asking.specs.Asking.{AreShelved, is_open, may_be_asked, none as nothing_shelved, text_of}
use Rattle.cx_asking.specs.Calls.{Answered, AreCallsOfAll}
use Rattle.cx_asking.specs.Includes.{Texts}
use Rattle.cx_asking.specs.Shapes.Asks.{Agree, AreFirst, Asks, Extends, Gathered, IsCut, IsDone, IsNew, Wants, Went, first_open, is_known}
use Rattle.cx_asking.specs.Wishes.{Wish, look_up, wish}
use Rattle.cx_asking.proofs.CallLaws.{answered_both, answered_none, some_along, some_then}
use Rattle.cx_asking.proofs.SeenLaws.{agree_before, extends_through, known_more, new_before, new_both, text_same, unknown_before}
use Rattle.cx_asking.proofs.ShelfLaws.{Parts, apart_of, one_off, shelved_both}

-- what follows the first part
pub extends_of : (limits : Limits) (wants : Wants) (before after : Gathered) (files files_after : FilesState) (lost : List FileCall)
    → Went limits wants before after files files_after lost → Extends before after
extends_of limits wants before after files files_after lost w =
    record { more = w.more; new = w.new; seen = w.seen; fresh = w.fresh; shelf = w.shelf; shelved = w.shelved }

-- the first open wish of lists one behind another

module _ (limits : Limits) (seen : List SeenEntry) where
  pub past_closed : (front back : List Wish) → first_open limits seen front ≡ None → first_open limits seen (front ++ back) ≡ first_open limits seen back
  past_closed front back e = find-append (is_open limits seen) front back ∙ ap (λ o. option_or o (find (is_open limits seen) back)) e

  pub in_front : (front back : List Wish) (w : Wish) → first_open limits seen front ≡ Some w → first_open limits seen (front ++ back) ≡ Some w
  in_front front back w e = find-append (is_open limits seen) front back ∙ ap (λ o. option_or o (find (is_open limits seen) back)) e

  pub closed_both : (front back : List Wish) → first_open limits seen (front ++ back) ≡ None
      → (first_open limits seen front ≡ None) × (first_open limits seen back ≡ None)
  closed_both front back e = by (first_open limits seen front) refl (sym (find-append (is_open limits seen) front back) ∙ e)
    where
      by : (o : Option Wish) → first_open limits seen front ≡ o → option_or o (first_open limits seen back) ≡ None
          → (first_open limits seen front ≡ None) × (first_open limits seen back ≡ None)
      by None t e = (t, e)
      by (Some w) t e = absurd cc

  open_found : (ws : List Wish) (w : Wish) → first_open limits seen ws ≡ Some w → is_open limits seen w ≡ true
  open_found [] w e = absurd cc
  open_found (v ∷ ws) w e = by (is_open limits seen v) refl e (open_found ws w)
    where
      by : (b : Bool) → is_open limits seen v ≡ b → cond b (Some v) (first_open limits seen ws) ≡ Some w
          → (first_open limits seen ws ≡ Some w → is_open limits seen w ≡ true) → is_open limits seen w ≡ true
      by true t e rest = let same : v ≡ w = cc in ap (is_open limits seen) (sym same) ∙ t
      by false t e rest = rest e

  new_found : (w : Wish) → is_open limits seen w ≡ true → look_up seen w.path ≡ None
  unfolding is_open
  new_found w e = by (look_up seen w.path) refl e
    where
      by : (o : Option Answer) → look_up seen w.path ≡ o → (not (is_some o) && may_be_asked limits seen w.purpose) ≡ true → look_up seen w.path ≡ None
      by None t e = t
      by (Some a) t e = absurd cc

-- entries that are first were not asked before
firsts_new : (limits : Limits) (wants : List SeenEntry → List Wish) (seen rest : List SeenEntry) (ps : List Purpose) → AreFirst limits wants seen rest ps
    → All (IsNew seen) rest
unfolding AreFirst
firsts_new limits wants seen [] ps h = All-nil (IsNew seen)
firsts_new limits wants seen (e ∷ rest) [] h = absurd h
firsts_new limits wants seen (e ∷ rest) (p ∷ ps) h =
    All-cons (IsNew seen) e rest (new_found limits seen (wish p e.path) (open_found limits seen (wants seen) (wish p e.path) h.0))
    (new_before seen (e ∷ []) rest (firsts_new limits wants (seen ++ e ∷ []) rest ps h.1))

-- all that was wanted before, then this, and then the rest
pub record Stands (limits : Limits) (whole part : Wants) (g : Gathered) (texts : Texts) : Type 0 where
  pub front : List Wish
  pub back : List Wish
  pub splits : whole texts g.seen ≡ front ++ (part texts g.seen ++ back)
  pub closed : first_open limits g.seen front ≡ None

-- from a place on, a part is what is wanted next of a whole
abbrev pub StandsFrom : Limits → Wants → Wants → Gathered → Type 0
StandsFrom limits whole part g =
    (later : Gathered) (texts : Texts) → Extends g later → Agree texts later → Stands limits whole part later texts

module _ (limits : Limits) (whole part : Wants) where
  stands_first : (g : Gathered) (texts : Texts) (w : Wish) → Stands limits whole part g texts
      → first_open limits g.seen (part texts g.seen) ≡ Some w → first_open limits g.seen (whole texts g.seen) ≡ Some w
  stands_first g texts w s e =
      ap (first_open limits g.seen) s.splits
      ∙ past_closed limits g.seen s.front (part texts g.seen ++ s.back) s.closed
      ∙ in_front limits g.seen (part texts g.seen) s.back w e

  -- entries that are first in the part are first in the whole
  firsts : (before : Gathered) (front back : List Shelved) (texts : Texts) (done rest : List SeenEntry) (ps : List Purpose)
      → StandsFrom limits whole part before
      → AreShelved (length before.seen) done front → AreShelved (length before.seen + length done) rest back → All (IsNew before.seen) done
      → ((path : List ℕ) → is_known ((before.seen ++ done) ++ rest) path ≡ true → texts path ≡ text_of ((before.shelf ++ front) ++ back) path)
      → AreFirst limits (part texts) (before.seen ++ done) rest ps
      → AreFirst limits (whole texts) (before.seen ++ done) rest ps
  unfolding AreFirst
  firsts before front back texts done [] [] stands s t fresh agree h = tt
  firsts before front back texts done [] (p ∷ ps) stands s t fresh agree h = absurd h
  firsts before front back texts done (e ∷ rest) [] stands s t fresh agree h = absurd h
  firsts before front back texts done (e ∷ rest) (p ∷ ps) stands s t fresh agree h =
      let here : Gathered = record { seen = before.seen ++ done; shelf = before.shelf ++ front } in
      let later : Extends before here = record { more = done; new = front; seen = refl; fresh = fresh; shelf = refl; shelved = s } in
      let new : All (IsNew (before.seen ++ done)) (e ∷ rest) = firsts_new limits (part texts) (before.seen ++ done) (e ∷ rest) (p ∷ ps) h in
      let agrees : Agree texts here =
      λ path known. agree path (known_more (before.seen ++ done) (e ∷ rest) path known)
      ∙ text_same (before.seen ++ done) (before.shelf ++ front) back path known
      (apart_of (before.seen ++ done) (length before.seen + length done) (e ∷ rest) back t new) in
      let parts : Parts (length before.seen + length done) e rest back = one_off (length before.seen + length done) e rest back t in
      let files : (before.shelf ++ front) ++ back ≡ (before.shelf ++ (front ++ parts.some)) ++ parts.others =
      ap (λ l. (before.shelf ++ front) ++ l) parts.splits
      ∙ sym (append_assoc (before.shelf ++ front) parts.some parts.others)
      ∙ ap (λ l. l ++ parts.others) (append_assoc before.shelf front parts.some) in
      let count : (length before.seen + length done) + 1 ≡ length before.seen + length (done ++ e ∷ []) =
      omega (arith, length-append done (e ∷ [])) in
      let moved : (before.seen ++ done) ++ e ∷ [] ≡ before.seen ++ (done ++ e ∷ []) = append_assoc before.seen done (e ∷ []) in
      let same : ((before.seen ++ done) ++ e ∷ []) ++ rest ≡ (before.seen ++ done) ++ e ∷ rest = append_assoc (before.seen ++ done) (e ∷ []) rest in (
        stands_first here texts (wish p e.path) (stands here texts later agrees) h.0,
        subst (λ l. AreFirst limits (whole texts) l rest ps) (sym moved)
            (firsts before (front ++ parts.some) parts.others texts (done ++ e ∷ []) rest ps stands
            (shelved_both (length before.seen) done front s (length before.seen + length done) (e ∷ []) parts.some refl parts.first)
            (subst (λ n. AreShelved n rest parts.others) count parts.rest)
            (All-push (IsNew before.seen) done e fresh
            (unknown_before before.seen done e.path (All-head (IsNew (before.seen ++ done)) e rest new)))
            (λ path known. agree path (ap (λ l. is_known l path) (sym (ap (λ l. l ++ rest) (sym moved) ∙ same)) ∙ known) ∙ ap (λ l. text_of l path) files)
            (subst (λ l. AreFirst limits (part texts) l rest ps) moved h.1)),
      )

  -- what went by the part went by the whole
  pub lifted : (before after : Gathered) (files files_after : FilesState) (lost : List FileCall) → StandsFrom limits whole part before
      → Went limits part before after files files_after lost → Went limits whole before after files files_after lost
  lifted before after files files_after lost stands w = record {
    more = w.more;
    new = w.new;
    purposes = w.purposes;
    seen = w.seen;
    fresh = w.fresh;
    shelf = w.shelf;
    shelved = w.shelved;
    first = λ texts agree.
        let nothing : before.seen ++ [] ≡ before.seen = append-nil before.seen in
        let count : length before.seen ≡ length before.seen + 0 = omega arith in
        subst (λ l. AreFirst limits (whole texts) l w.more w.purposes) nothing
        (firsts before [] w.new texts [] w.more w.purposes stands (nothing_shelved (length before.seen))
        (subst (λ n. AreShelved n w.more w.new) count w.shelved) (All-nil (IsNew before.seen))
        (λ path known. agree path (ap (λ l. is_known l path) (w.seen ∙ ap (λ l. l ++ w.more) (sym nothing)) ∙ known)
        ∙ ap (λ l. text_of l path) (w.shelf ∙ ap (λ l. l ++ w.new) (sym (append-nil before.shelf))))
        (subst (λ l. AreFirst limits (part texts) l w.more w.purposes) (sym nothing) (w.first texts agree)));
    held = w.held;
    below = w.below;
    calls = w.calls;
    own = w.own;
    answered = w.answered;
  }

-- one part behind another

first_both : (limits : Limits) (wants : List SeenEntry → List Wish) (before some others : List SeenEntry) (ps qs : List Purpose)
    → AreFirst limits wants before some ps → AreFirst limits wants (before ++ some) others qs → AreFirst limits wants before (some ++ others) (ps ++ qs)
unfolding AreFirst
first_both limits wants before [] others [] qs p q = subst (λ l. AreFirst limits wants l others qs) (append-nil before) q
first_both limits wants before [] others (x ∷ ps) qs p q = absurd p
first_both limits wants before (e ∷ some) others [] qs p q = absurd p
first_both limits wants before (e ∷ some) others (x ∷ ps) qs p q = (
  p.0,
  first_both limits wants (before ++ e ∷ []) some others ps qs p.1
      (subst (λ l. AreFirst limits wants l others qs) (sym (append_assoc before (e ∷ []) some)) q),
)

hold_both : (limits : Limits) (stored : List Stored) (before some others : List SeenEntry) (ps qs : List Purpose)
    → AllHold limits stored before some ps → AllHold limits stored (before ++ some) others qs → AllHold limits stored before (some ++ others) (ps ++ qs)
unfolding AllHold
hold_both limits stored before [] others [] qs p q = subst (λ l. AllHold limits stored l others qs) (append-nil before) q
hold_both limits stored before [] others (x ∷ ps) qs p q = absurd p
hold_both limits stored before (e ∷ some) others [] qs p q = absurd p
hold_both limits stored before (e ∷ some) others (x ∷ ps) qs p q = (
  p.0,
  hold_both limits stored (before ++ e ∷ []) some others ps qs p.1
      (subst (λ l. AllHold limits stored l others qs) (sym (append_assoc before (e ∷ []) some)) q),
)

below_both : (limits : Limits) (before some others : List SeenEntry)
    → AllBelow limits before some → AllBelow limits (before ++ some) others → AllBelow limits before (some ++ others)
unfolding AllBelow
below_both limits before [] others p q = subst (λ l. AllBelow limits l others) (append-nil before) q
below_both limits before (e ∷ some) others p q =
    (p.0, below_both limits (before ++ e ∷ []) some others p.1 (subst (λ l. AllBelow limits l others) (sym (append_assoc before (e ∷ []) some)) q))

own_both : (most : ℕ) (some others : List SeenEntry) (ps qs : List Purpose) (front back : List FileCall)
    → AreCallsOfAll most some ps front → AreCallsOfAll most others qs back → AreCallsOfAll most (some ++ others) (ps ++ qs) (front ++ back)
unfolding AreCallsOfAll
own_both most [] others [] qs front back p q = subst (AreCallsOfAll most others qs) (ap (λ l. l ++ back) (sym p)) q
own_both most [] others (x ∷ ps) qs front back p q = absurd p
own_both most (e ∷ some) others [] qs front back p q = absurd p
own_both most (e ∷ some) others (x ∷ ps) qs front back p q = (
  p.0,
  p.1 ++ back,
  p.2,
  own_both most some others ps qs p.1 back p.3 q,
  ap (λ l. l ++ back) p.4 ∙ append_assoc p.0 p.1 back,
)

held_both : (limits : Limits) (told middle : Option FilesTold) (calls : List FileCall) (before some others : List SeenEntry) (ps qs : List Purpose)
    → IfSome told (λ t. middle ≡ Some (record t { calls = t.calls ++ calls }))
    → IfSome told (λ t. AllHold limits t.stored before some ps) → IfSome middle (λ t. AllHold limits t.stored (before ++ some) others qs)
    → IfSome told (λ t. AllHold limits t.stored before (some ++ others) (ps ++ qs))
held_both limits None middle calls before some others ps qs e p q = tt
held_both limits (Some t) middle calls before some others ps qs e p q =
    hold_both limits t.stored before some others ps qs p
    (some_along (Some t) middle (λ t. record t { calls = t.calls ++ calls }) (λ t. AllHold limits t.stored (before ++ some) others qs) e q)

-- one part of a whole behind another
pub chained : (limits : Limits) (wants : Wants) (a b c : Gathered) (files between after : FilesState) (lost : List FileCall)
    → Went limits wants a b files between [] → Went limits wants b c between after lost → Went limits wants a c files after lost
chained limits wants a b c files between after lost p q =
    let e : Extends b c = extends_of limits wants b c between after lost q in
    let all : Answered files between p.calls = subst (Answered files between) (append-nil p.calls) p.answered in
    record {
      more = p.more ++ q.more;
      new = p.new ++ q.new;
      purposes = p.purposes ++ q.purposes;
      seen = q.seen ∙ ap (λ s. s ++ q.more) p.seen ∙ append_assoc a.seen p.more q.more;
      fresh = new_both a.seen b.seen p.more q.more p.seen p.fresh q.fresh;
      shelf = q.shelf ∙ ap (λ s. s ++ q.new) p.shelf ∙ append_assoc a.shelf p.new q.new;
      shelved = shelved_both (length a.seen) p.more p.new p.shelved (length b.seen) q.more q.new
          (ap length p.seen ∙ length-append a.seen p.more) q.shelved;
      first = λ texts agree.
          first_both limits (wants texts) a.seen p.more q.more p.purposes q.purposes (p.first texts (agree_before texts b c e agree))
          (subst (λ l. AreFirst limits (wants texts) l q.more q.purposes) p.seen (q.first texts agree));
      held = held_both limits files.told between.told p.calls a.seen p.more q.more p.purposes q.purposes all.told p.held
          (some_then between.told (λ t. AllHold limits t.stored b.seen q.more q.purposes) (λ t. AllHold limits t.stored (a.seen ++ p.more) q.more q.purposes)
          (λ t h. subst (λ l. AllHold limits t.stored l q.more q.purposes) p.seen h) q.held);
      below = below_both limits a.seen p.more q.more p.below (subst (λ l. AllBelow limits l q.more) p.seen q.below);
      calls = p.calls ++ q.calls;
      own = own_both limits.read p.more q.more p.purposes q.purposes p.calls q.calls p.own q.own;
      answered = subst (Answered files after) (sym (append_assoc p.calls q.calls lost))
          (answered_both files between after p.calls (q.calls ++ lost) all q.answered);
    }

-- nothing was asked
pub went_nowhere : (limits : Limits) (wants : Wants) (a : Gathered) (files : FilesState) → Went limits wants a a files files []
unfolding AreFirst AllHold AllBelow AreCallsOfAll
went_nowhere limits wants a files = record {
  more = [];
  new = [];
  purposes = [];
  seen = sym (append-nil a.seen);
  fresh = All-nil (IsNew a.seen);
  shelf = sym (append-nil a.shelf);
  shelved = nothing_shelved (length a.seen);
  first = λ texts agree. tt;
  held = none files.told;
  below = tt;
  calls = [];
  own = refl;
  answered = answered_none files;
}
  where
    none : (told : Option FilesTold) → IfSome told (λ t. AllHold limits t.stored a.seen [] [])
    none None = tt
    none (Some t) = tt

pub done_already : (limits : Limits) (wants : Wants) (a : Gathered) (files : FilesState) → IsDone limits wants a → Asks limits wants a a files files
done_already limits wants a files d = record { went = went_nowhere limits wants a files; done = d }

-- two wants, one behind the other
abbrev pub both : Wants → Wants → Wants
both some others texts seen = some texts seen ++ others texts seen

module _ (limits : Limits) (some others : Wants) where
  front_stands : (g : Gathered) → StandsFrom limits (both some others) some g
  front_stands g later texts e agree = record { front = []; back = others texts later.seen; splits = refl; closed = refl }

  back_stands : (g : Gathered) → IsDone limits some g → StandsFrom limits (both some others) others g
  back_stands g d later texts e agree = record {
    front = some texts later.seen;
    back = [];
    splits = ap (λ l. some texts later.seen ++ l) (sym (append-nil (others texts later.seen)));
    closed = d later texts e agree;
  }

  both_done : (b c : Gathered) → Extends b c → IsDone limits some b → IsDone limits others c → IsDone limits (both some others) c
  both_done b c e d f later texts l agree =
      past_closed limits later.seen (some texts later.seen) (others texts later.seen) (d later texts (extends_through b c later e l) agree)
      ∙ f later texts l agree

  pub then_asks : (a b c : Gathered) (files between after : FilesState) → Asks limits some a b files between → Asks limits others b c between after
      → Asks limits (both some others) a c files after
  then_asks a b c files between after p q = record {
    went = chained limits (both some others) a b c files between after []
        (lifted limits (both some others) some a b files between [] (front_stands a) p.went)
        (lifted limits (both some others) others b c between after [] (back_stands b p.done) q.went);
    done = both_done b c (extends_of limits others b c between after [] q.went) p.done q.done;
  }

  pub then_cut : (a b : Gathered) (files between after : FilesState) → Asks limits some a b files between → IsCut limits others b between after
      → IsCut limits (both some others) a files after
  then_cut a b files between after p q = record {
    after = q.after;
    lost = q.lost;
    went = chained limits (both some others) a b q.after files between after q.lost
        (lifted limits (both some others) some a b files between [] (front_stands a) p.went)
        (lifted limits (both some others) others b q.after between after q.lost (back_stands b p.done) q.went);
    within = λ texts agree.
        subst (λ o. AreCallsOfNext limits.read o q.lost)
        (sym (past_closed limits q.after.seen (some texts q.after.seen) (others texts q.after.seen)
        (p.done q.after texts (extends_of limits others b q.after between after q.lost q.went) agree)))
        (q.within texts agree);
  }

  no_calls : (o : Option Wish) → AreCallsOfNext limits.read o []
  no_calls None = refl
  no_calls (Some w) = inl refl

  lost_in_front : (seen : List SeenEntry) (front back : List Wish) (lost : List FileCall) → AreCallsOfNext limits.read (first_open limits seen front) lost
      → AreCallsOfNext limits.read (first_open limits seen (front ++ back)) lost
  lost_in_front seen front back lost h = by (first_open limits seen front) refl h
    where
      by : (o : Option Wish) → first_open limits seen front ≡ o → AreCallsOfNext limits.read o lost
          → AreCallsOfNext limits.read (first_open limits seen (front ++ back)) lost
      by (Some w) t h = subst (λ o. AreCallsOfNext limits.read o lost) (sym (in_front limits seen front back w t)) h
      by None t h = subst (AreCallsOfNext limits.read (first_open limits seen (front ++ back))) (sym h) (no_calls (first_open limits seen (front ++ back)))

  pub cut_first : (a : Gathered) (files after : FilesState) → IsCut limits some a files after → IsCut limits (both some others) a files after
  cut_first a files after p = record {
    after = p.after;
    lost = p.lost;
    went = lifted limits (both some others) some a p.after files after p.lost (front_stands a) p.went;
    within = λ texts agree. lost_in_front p.after.seen (some texts p.after.seen) (others texts p.after.seen) p.lost (p.within texts agree);
  }

-- what is wanted by other words

-- from a place on, two wants are the same
abbrev pub AreAlike : Wants → Wants → Gathered → Type 0
AreAlike some others g = (later : Gathered) (texts : Texts) → Extends g later → Agree texts later → some texts later.seen ≡ others texts later.seen

module _ (limits : Limits) (some others : Wants) where
  alike_stands : (g : Gathered) → AreAlike some others g → StandsFrom limits others some g
  alike_stands g same later texts e agree = record {
    front = [];
    back = [];
    splits = sym (same later texts e agree) ∙ sym (append-nil (some texts later.seen));
    closed = refl;
  }

  pub asks_alike : (a b : Gathered) (files after : FilesState) → AreAlike some others a → Asks limits some a b files after → Asks limits others a b files after
  asks_alike a b files after same p =
      let e : Extends a b = extends_of limits some a b files after [] p.went in
      record {
        went = lifted limits others some a b files after [] (alike_stands a same) p.went;
        done = λ later texts l agree.
            ap (first_open limits later.seen) (sym (same later texts (extends_through a b later e l) agree)) ∙ p.done later texts l agree;
      }

  pub cut_alike : (a : Gathered) (files after : FilesState) → AreAlike some others a → IsCut limits some a files after → IsCut limits others a files after
  cut_alike a files after same p =
      let e : Extends a p.after = extends_of limits some a p.after files after p.lost p.went in
      record {
        after = p.after;
        lost = p.lost;
        went = lifted limits others some a p.after files after p.lost (alike_stands a same) p.went;
        within = λ texts agree.
            subst (λ l. AreCallsOfNext limits.read (first_open limits p.after.seen l) p.lost) (same p.after texts e agree) (p.within texts agree);
      }

-- memory may run out at any place
pub cut_here : (limits : Limits) (wants : Wants) (a : Gathered) (files : FilesState) → IsCut limits wants a files files
cut_here limits wants a files = record {
  after = a;
  lost = [];
  went = went_nowhere limits wants a files;
  within = λ texts agree. no_calls limits wants wants (first_open limits a.seen (wants texts a.seen));
}
