-- What was seen stays, and what is on the shelf.
use Rattle.std.proofs.Common.{◌≡◌, ℕ, Bool, true, false, cond, List, [], ◌∷◌, ◌++◌, Option, Some, None, is_some, option_map, All, refl, sym, ap, ◌∙◌, subst, append_assoc, append-nil, bytes_eq, length, length-append}
use Rattle.std.specs.List.{find}
use Rattle.std.specs.Option.{option_or}
use Rattle.std.proofs.lemmas.List.Folds.{find-append}
use Rattle.std.proofs.lemmas.Slice.Eq.{bytes_eq-Decides}
use Rattle.std.proofs.lemmas.List.Elements.{All-append, All-cons, All-head, All-nil, All-tail}
use Rattle.cx_base.specs.declared.answers.Answer.{Answer}
use Rattle.cx_base.specs.declared.answers.SeenEntry.{SeenEntry}
use Rattle.cx_shelf.specs.declared.shelf.Shelved.{Shelved}
use Rattle.cx_shelf.specs.Shelves.{pieces_in}
use Rattle.cx_asking.specs.Asking.{none, text_of}
use Rattle.cx_asking.specs.Includes.{Texts}
use Rattle.cx_asking.specs.Shapes.Asks.{Agree, Extends, Gathered, IsNew, is_known}
use Rattle.cx_asking.specs.Wishes.{look_up}
use Rattle.cx_asking.proofs.ShelfLaws.{IsApart, apart_of, shelved_both}

abbrev pub has_path : List ℕ → SeenEntry → Bool
has_path path e = bytes_eq e.path path

-- the answer of a path stays
pub look_up_more : (seen more : List SeenEntry) (path : List ℕ) (a : Answer) → look_up seen path ≡ Some a → look_up (seen ++ more) path ≡ Some a
unfolding look_up
look_up_more seen more path a e =
    ap (option_map (λ e. e.answer)) (find-append (has_path path) seen more) ∙ by (find (has_path path) seen) e
  where
    by : (o : Option SeenEntry) → option_map (λ e. e.answer) o ≡ Some a
        → option_map (λ e. e.answer) (option_or o (find (has_path path) more)) ≡ Some a
    by (Some x) e = e
    by None e = absurd cc

-- a path that was not asked is looked up in what was asked from then on
pub look_up_past : (seen more : List SeenEntry) (path : List ℕ) → look_up seen path ≡ None → look_up (seen ++ more) path ≡ look_up more path
unfolding look_up
look_up_past seen more path e =
    ap (option_map (λ e. e.answer)) (find-append (has_path path) seen more) ∙ by (find (has_path path) seen) e
  where
    by : (o : Option SeenEntry) → option_map (λ e. e.answer) o ≡ None
        → option_map (λ e. e.answer) (option_or o (find (has_path path) more)) ≡ option_map (λ e. e.answer) (find (has_path path) more)
    by (Some x) e = absurd cc
    by None e = refl

pub known_answer : (seen : List SeenEntry) (path : List ℕ) → is_known seen path ≡ true → (a : Answer) × (look_up seen path ≡ Some a)
known_answer seen path e = by (look_up seen path) refl e
  where
    by : (o : Option Answer) → look_up seen path ≡ o → is_some o ≡ true → (a : Answer) × (look_up seen path ≡ Some a)
    by (Some a) t e = (a, t)
    by None t e = absurd cc

pub known_same : (seen more : List SeenEntry) (path : List ℕ) → is_known seen path ≡ true → look_up (seen ++ more) path ≡ look_up seen path
known_same seen more path e =
    let a = known_answer seen path e in look_up_more seen more path a.0 a.1 ∙ sym a.1

pub known_more : (seen more : List SeenEntry) (path : List ℕ) → is_known seen path ≡ true → is_known (seen ++ more) path ≡ true
known_more seen more path e = ap is_some (known_same seen more path e) ∙ e

pub unknown_before : (seen more : List SeenEntry) (path : List ℕ) → look_up (seen ++ more) path ≡ None → look_up seen path ≡ None
unknown_before seen more path e = by (look_up seen path) refl
  where
    by : (o : Option Answer) → look_up seen path ≡ o → look_up seen path ≡ None
    by None t = t
    by (Some a) t = absurd (no (sym (look_up_more seen more path a t) ∙ e))
      where
        no : Some a ≡ None → ⊥
        no h = cc

-- the pieces of a path that was asked stay

abbrev pub has_shelf_path : List ℕ → Shelved → Bool
has_shelf_path path f = bytes_eq f.path path

pub not_among : (seen : List SeenEntry) (path : List ℕ) (new : List Shelved) → is_known seen path ≡ true → All (IsApart seen) new → find (has_shelf_path path) new ≡ None
not_among seen path [] known apart = refl
not_among seen path (f ∷ new) known apart =
    by (bytes_eq f.path path) refl (not_among seen path new known (All-tail (IsApart seen) f new apart))
  where
    by : (b : Bool) → bytes_eq f.path path ≡ b → find (has_shelf_path path) new ≡ None → cond b (Some f) (find (has_shelf_path path) new) ≡ None
    by false t e = e
    by true t e =
        let same : f.path ≡ path = (bytes_eq-Decides f.path path).0 t in
        let none : look_up seen f.path ≡ None = All-head (IsApart seen) f new apart in
        absurd (no (sym known ∙ ap (λ p. is_known seen p) (sym same) ∙ ap is_some none))
      where
        no : true ≡ false → ⊥
        no h = cc

pub text_same : (seen : List SeenEntry) (shelf new : List Shelved) (path : List ℕ) → is_known seen path ≡ true → All (IsApart seen) new
    → text_of (shelf ++ new) path ≡ text_of shelf path
text_same seen shelf new path known apart =
    ap pieces_in (find-append (has_shelf_path path) shelf new ∙ by (find (has_shelf_path path) shelf) (not_among seen path new known apart))
  where
    by : (o : Option Shelved) → find (has_shelf_path path) new ≡ None → option_or o (find (has_shelf_path path) new) ≡ o
    by None e = e
    by (Some f) e = refl

-- what agrees with what is gathered later agrees with what was gathered before
pub agree_before : (texts : Texts) (before after : Gathered) → Extends before after → Agree texts after → Agree texts before
agree_before texts before after e agree path known =
    let k : is_known after.seen path ≡ true = ap (λ s. is_known s path) e.seen ∙ known_more before.seen e.more path known in
    agree path k ∙ ap (λ s. text_of s path) e.shelf ∙ text_same before.seen before.shelf e.new path known
    (apart_of before.seen (length before.seen) e.more e.new e.shelved e.fresh)

-- entries that are new behind others are new
pub new_before : (seen more : List SeenEntry) (new : List SeenEntry) → All (IsNew (seen ++ more)) new → All (IsNew seen) new
new_before seen more [] h = All-nil (IsNew seen)
new_before seen more (e ∷ new) h =
    All-cons (IsNew seen) e new (unknown_before seen more e.path (All-head (IsNew (seen ++ more)) e new h))
    (new_before seen more new (All-tail (IsNew (seen ++ more)) e new h))

-- more entries are new, and those after them
pub new_both : (seen middle more others : List SeenEntry) → middle ≡ seen ++ more → All (IsNew seen) more → All (IsNew middle) others → All (IsNew seen) (more ++ others)
new_both seen middle more others e p q =
    All-append (IsNew seen) more others p (new_before seen more others (subst (λ s. All (IsNew s) others) e q))

pub extends_through : (a b c : Gathered) → Extends a b → Extends b c → Extends a c
extends_through a b c p q = record {
  more = p.more ++ q.more;
  new = p.new ++ q.new;
  seen = q.seen ∙ ap (λ s. s ++ q.more) p.seen ∙ append_assoc a.seen p.more q.more;
  fresh = new_both a.seen b.seen p.more q.more p.seen p.fresh q.fresh;
  shelf = q.shelf ∙ ap (λ s. s ++ q.new) p.shelf ∙ append_assoc a.shelf p.new q.new;
  shelved = shelved_both (length a.seen) p.more p.new p.shelved (length b.seen) q.more q.new
      (ap length p.seen ∙ length-append a.seen p.more) q.shelved;
}

pub extends_itself : (a : Gathered) → Extends a a
extends_itself a = record {
  more = [];
  new = [];
  seen = sym (append-nil a.seen);
  fresh = All-nil (IsNew a.seen);
  shelf = sym (append-nil a.shelf);
  shelved = none (length a.seen);
}
