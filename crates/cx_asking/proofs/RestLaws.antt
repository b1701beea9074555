-- What is left of a part of the asking, where it is gone through step by step.
use Rattle.std.proofs.Common.{◌≡◌, ℕ, suc, ◌+◌, ◌<◌, ◌≤◌, Bool, true, false, cond, not, ◌&&◌, List, [], ◌∷◌, Option, Some, None, Result, Ok, Err, inl, flat_map, get_or, drop, length, refl, sym, ap, ◌∙◌, subst, add-one, drop-cons, unwrap_or}
use Rattle.std.specs.Prelude.{if◌then◌else◌, OnErr}
use Rattle.std.proofs.lemmas.List.{drop_all}
use Rattle.cx_base.specs.declared.answers.Answer.TheVariants.{Absent}
use Rattle.cx_base.specs.declared.answers.SeenEntry.{SeenEntry}
use Rattle.cx_base.specs.Outside.{FilesState}
use Rattle.cx_asking.specs.declared.limits.Limits.{Limits}
use Rattle.cx_asking.specs.declared.purpose.Purpose.TheVariants as purpose
use Rattle.cx_asking.specs.Asked.{AreCallsOfNext}
use Rattle.cx_asking.specs.Asking.{is_open, text_of}
use Rattle.cx_asking.specs.Shapes.Asks.{Asks, Extends, Gathered, IsCut, IsDone, Wants, first_open, is_known}
use Rattle.cx_asking.specs.Wishes.{Wish, answer_in, wish}
use Rattle.cx_asking.proofs.AsksLaws.{AreAlike, asks_alike, both, cut_alike, cut_first, done_already, then_asks, then_cut, went_nowhere}
use Rattle.cx_asking.proofs.SeenLaws.{extends_itself, known_same}

-- From b on, what asks the rest asks the whole from a on.
pub record Rests (limits : Limits) (whole rest : Wants) (a b : Gathered) (files between : FilesState) : Type 0 where
  pub asks : (c : Gathered) (after : FilesState) → Asks limits rest b c between after → Asks limits whole a c files after
  pub cut : (after : FilesState) → IsCut limits rest b between after → IsCut limits whole a files after

-- what holds where a call failed
pub on_err : {T E P : Type 0} (r : Result T E) → P → OnErr r P
on_err (Ok x) p = tt
on_err (Err e) p = p

pub no_calls : (most : ℕ) (o : Option Wish) → AreCallsOfNext most o []
no_calls most None = refl
no_calls most (Some w) = inl refl

-- memory may run out at any place
pub cut_here : (limits : Limits) (wants : Wants) (a : Gathered) (files : FilesState) → IsCut limits wants a files files
cut_here limits wants a files = record {
  after = a;
  lost = [];
  went = went_nowhere limits wants a files;
  within = λ texts agree. no_calls limits.read (first_open limits a.seen (wants texts a.seen));
}

pub rests_itself : (limits : Limits) (wants : Wants) (a : Gathered) (files : FilesState) → Rests limits wants wants a a files files
rests_itself limits wants a files = record { asks = λ c after p. p; cut = λ after p. p }

module _ (limits : Limits) (whole : Wants) (a b : Gathered) (files between : FilesState) where
  pub rests_alike : (rest other : Wants) → AreAlike other rest b → Rests limits whole rest a b files between → Rests limits whole other a b files between
  rests_alike rest other same r = record {
    asks = λ c after p. r.asks c after (asks_alike limits other rest b c between after same p);
    cut = λ after p. r.cut after (cut_alike limits other rest b between after same p);
  }

  pub rests_then : (some others : Wants) (c : Gathered) (after : FilesState) → Rests limits whole (both some others) a b files between
      → Asks limits some b c between after → Rests limits whole others a c files after
  rests_then some others c after r p = record {
    asks = λ d last q. r.asks d last (then_asks limits some others b c d between after last p q);
    cut = λ last q. r.cut last (then_cut limits some others b c between after last p q);
  }

  pub rests_cut : (some others : Wants) (after : FilesState) → Rests limits whole (both some others) a b files between
      → IsCut limits some b between after → IsCut limits whole a files after
  rests_cut some others after r p = r.cut after (cut_first limits some others b between after p)

  pub rests_end : (rest : Wants) → IsDone limits rest b → Rests limits whole rest a b files between → Asks limits whole a b files between
  rests_end rest d r = r.asks b between (done_already limits rest b between d)

  pub rests_cut_here : (rest : Wants) → Rests limits whole rest a b files between → IsCut limits whole a files between
  rests_cut_here rest r = r.cut between (cut_here limits rest b between)

-- a list gone through by its indices

pub at_front : {X : Type 0} (xs : List X) (i : ℕ) (x : X) → i < length xs → x ≡ get_or xs i x → drop i xs ≡ x ∷ drop (i + 1) xs
at_front xs i x below at =
    drop-cons xs i x below ∙ ap (λ y. y ∷ drop (suc i) xs) (sym at) ∙ ap (λ k. x ∷ drop k xs) (sym (add-one i))

pub drop_none : {X : Type 0} (xs : List X) → drop 0 xs ≡ xs
drop_none [] = refl
drop_none (x ∷ xs) = refl

-- what each element of a list wants

module _ {X : Type 0} (limits : Limits) (wants : List SeenEntry → X → List Wish) (xs : List X) where
  abbrev pub left : ℕ → Wants
  left i texts seen = flat_map (wants seen) (drop i xs)

  abbrev pub all_of : Wants
  all_of texts seen = flat_map (wants seen) xs

  pub each_begins : (a : Gathered) (files : FilesState) → Rests limits all_of (left 0) a a files files
  each_begins a files =
      rests_alike limits all_of a a files files all_of (left 0)
      (λ later texts e agree. ap (flat_map (wants later.seen)) (drop_none xs)) (rests_itself limits all_of a files)

  module _ (whole : Wants) (a b : Gathered) (files between : FilesState) (i : ℕ) where
    pub each_splits : (x : X) → i < length xs → x ≡ get_or xs i x → Rests limits whole (left i) a b files between
        → Rests limits whole (both (λ texts seen. wants seen x) (left (i + 1))) a b files between
    each_splits x below at r =
        subst (λ l. Rests limits whole (λ texts seen. flat_map (wants seen) l) a b files between) (at_front xs i x below at) r

    pub each_next : (x : X) (c : Gathered) (after : FilesState) → i < length xs → x ≡ get_or xs i x → Rests limits whole (left i) a b files between
        → Asks limits (λ texts seen. wants seen x) b c between after → Rests limits whole (left (i + 1)) a c files after
    each_next x c after below at r p =
        rests_then limits whole a b files between (λ texts seen. wants seen x) (left (i + 1)) c after (each_splits x below at r) p

    pub each_cut : (x : X) (after : FilesState) → i < length xs → x ≡ get_or xs i x → Rests limits whole (left i) a b files between
        → IsCut limits (λ texts seen. wants seen x) b between after → IsCut limits whole a files after
    each_cut x after below at r p =
        rests_cut limits whole a b files between (λ texts seen. wants seen x) (left (i + 1)) after (each_splits x below at r) p

    pub each_ends : length xs ≤ i → Rests limits whole (left i) a b files between → Asks limits whole a b files between
    each_ends past r =
        rests_end limits whole a b files between (left i)
        (λ later texts e agree. ap (λ l. first_open limits later.seen (flat_map (wants later.seen) l)) (drop_all i xs past)) r

-- a file that is wanted, and unless something holds, what is wanted then

abbrev pub file_wish : List ℕ → Wants
file_wish path texts seen = wish purpose.File path ∷ []

abbrev pub unless : (List SeenEntry → Bool) → Wants → Wants
unless stop others texts seen = if stop seen then [] else others texts seen

-- from a place on, a test stays
abbrev pub Stays : (List SeenEntry → Bool) → Gathered → Bool → Type 0
Stays stop g b = (later : Gathered) → Extends g later → stop later.seen ≡ b

-- a file that was wanted was asked
pub known_once_asked : (limits : Limits) (path : List ℕ) (b : Gathered) → IsDone limits (file_wish path) b → is_known b.seen path ≡ true
unfolding is_open
known_once_asked limits path b d = by (is_known b.seen path) refl (d b (text_of b.shelf) (extends_itself b) (λ p k. refl))
  where
    by : (k : Bool) → is_known b.seen path ≡ k → cond (not k && true) (Some (wish purpose.File path)) None ≡ None → is_known b.seen path ≡ true
    by true t e = t
    by false t e = absurd cc

-- an answer stays
pub answer_stays : (b later : Gathered) (path : List ℕ) → is_known b.seen path ≡ true → Extends b later → answer_in later.seen path ≡ answer_in b.seen path
answer_stays b later path k e = ap (λ s. answer_in s path) e.seen ∙ ap (λ o. unwrap_or o Absent) (known_same b.seen e.more path k)

module _ (limits : Limits) (whole : Wants) (a b c : Gathered) (files between after : FilesState) (path : List ℕ) (stop : List SeenEntry → Bool) (others : Wants) where
  pub goes_on : Rests limits whole (both (file_wish path) (unless stop others)) a b files between → Asks limits (file_wish path) b c between after
      → Stays stop c false → Rests limits whole others a c files after
  goes_on r p s =
      rests_alike limits whole a c files after (unless stop others) others
      (λ later texts e agree. sym (ap (λ t. if t then [] else others texts later.seen) (s later e)))
      (rests_then limits whole a b files between (file_wish path) (unless stop others) c after r p)

  pub stops : Rests limits whole (both (file_wish path) (unless stop others)) a b files between → Asks limits (file_wish path) b c between after
      → Stays stop c true → Asks limits whole a c files after
  stops r p s =
      rests_end limits whole a c files after (unless stop others)
      (λ later texts e agree. ap (first_open limits later.seen) (ap (λ t. if t then [] else others texts later.seen) (s later e)))
      (rests_then limits whole a b files between (file_wish path) (unless stop others) c after r p)
