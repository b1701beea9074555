-- On the shelf of a whole asking are the files that were answered.
use Rattle.std.proofs.Common.{◌≡◌, ℕ, suc, ◌+◌, List, [], ◌∷◌, ◌++◌, Bool, true, false, cond, ◌&&◌, ◌||◌, not, Option, Some, None, get_or, is_some, option_map, refl, sym, ap, ap₂, subst, ◌∙◌, arith}
use Rattle.std.specs.Prelude.{IsFalse}
use Rattle.std.specs.List.{AllByRecursion, find, list_any}
use Rattle.std.specs.Str.{bytes_eq}
use Rattle.std.proofs.lemmas.Slice.Eq.{bytes_eq-Decides}
use Rattle.cx_base.specs.declared.answers.Answer.{Answer}
use Rattle.cx_base.specs.declared.answers.Answer.TheVariants.{Present, Absent, Folder, Unreadable, TooLarge}
use Rattle.cx_base.specs.declared.answers.SeenEntry.{SeenEntry}
use Rattle.cx_lex.specs.Lexing.{Lexes, Outcome, lexed, piece_limit}
use Rattle.cx_lex.proofs.Outcomes.{one_outcome_of}
use Rattle.cx_options.specs.declared.answer.Options.{Options}
use Rattle.cx_shelf.specs.declared.shelf.Shelved.{Shelved}
use Rattle.cx_asking.specs.declared.limits.Limits.{Limits}
use Rattle.cx_asking.specs.declared.purpose.Purpose.{Purpose}
use Rattle.cx_asking.specs.declared.text_fault.TextFault.{TextFault}
use Rattle.cx_asking.specs.Asking.{AreFaults, AreShelved, IsAskedAfter, IsFault, IsTextFault, IsWholeAsking, faulty, is_open, is_present, next, no_file, none, nothing, other, shelved, sound, text_of, unsound, wanted}
use Rattle.cx_asking.specs.Includes.{Texts}
use Rattle.cx_asking.specs.Wishes.{Wish, answer_in, look_up, wish}
use Rattle.cx_unit.specs.Closures.{number_in}
use Rattle.cx_unit.specs.Units.{Ground}
use Rattle.cx_input.specs.Inputs.{IsShelfOfAnswers}

-- ---- each path is asked once

-- whether a path was asked
abbrev asked : List SeenEntry → List ℕ → Bool
asked seen path = list_any (λ e. bytes_eq e.path path) seen

known_is_asked : (seen : List SeenEntry) (path : List ℕ) → is_some (look_up seen path) ≡ asked seen path
unfolding look_up
known_is_asked [] path = refl
known_is_asked (e ∷ seen) path = by (bytes_eq e.path path) (known_is_asked seen path)
  where
    by : (b : Bool) → is_some (look_up seen path) ≡ asked seen path
        → is_some (option_map (λ e. e.answer) (cond b (Some e) (find (λ e. bytes_eq e.path path) seen)))
        ≡ (b || asked seen path)
    by true rest = refl
    by false rest = rest

asked_more : (before : List SeenEntry) (e : SeenEntry) (path : List ℕ)
    → asked (before ++ e ∷ []) path ≡ (asked before path || bytes_eq e.path path)
asked_more [] e path = by (bytes_eq e.path path)
  where
    by : (b : Bool) → (b || false) ≡ b
    by true = refl
    by false = refl
asked_more (f ∷ before) e path = by (bytes_eq f.path path) (asked_more before e path)
  where
    by : (b : Bool) → asked (before ++ e ∷ []) path ≡ (asked before path || bytes_eq e.path path)
        → (b || asked (before ++ e ∷ []) path) ≡ ((b || asked before path) || bytes_eq e.path path)
    by true rest = refl
    by false rest = rest

neither : (b c : Bool) → (b || c) ≡ false → (b ≡ false) × (c ≡ false)
neither true c e = absurd cc
neither false c e = (refl, e)

left_of : (b c : Bool) → (b && c) ≡ true → b ≡ true
left_of true c e = refl
left_of false c e = absurd cc

-- what passes a test is found by it alone
found_open : (test : Wish → Bool) (wishes : List Wish) (w : Wish) → find test wishes ≡ Some w → test w ≡ true
found_open test [] w e = absurd cc
found_open test (v ∷ wishes) w e = by (test v) refl e (found_open test wishes w)
  where
    by : (b : Bool) → test v ≡ b → cond b (Some v) (find test wishes) ≡ Some w
        → (find test wishes ≡ Some w → test w ≡ true) → test w ≡ true
    by true t e rest = let same : v ≡ w = cc in ap test (sym same) ∙ t
    by false t e rest = rest e

-- entries of which no two have one path
unfoldable AreApart : List SeenEntry → Type 0
AreApart [] = Unit {0}
AreApart (e ∷ seen) =
    AllByRecursion (λ f. bytes_eq e.path f.path ≡ false) seen × AreApart seen

module _ (limits : Limits) (texts : Texts) (options : Options) where
  -- what is asked next was not asked before
  next_is_new : (before : List SeenEntry) (w : Wish) → next limits texts options before ≡ Some w
      → asked before w.path ≡ false
  unfolding next is_open
  next_is_new before w e =
      let t = found_open (is_open limits before) (wanted limits texts options before) w e in
      sym (known_is_asked before w.path)
      ∙ new (is_some (look_up before w.path)) (left_of (not (is_some (look_up before w.path))) _ t)
    where
      new : (b : Bool) → not b ≡ true → b ≡ false
      new true e = absurd cc
      new false e = refl

  abbrev IsNew : List SeenEntry → SeenEntry → Type 0
  IsNew before e = asked before e.path ≡ false

  all_new : (before : List SeenEntry) (e : SeenEntry) (seen : List SeenEntry)
      → AllByRecursion (IsNew (before ++ e ∷ [])) seen
      → AllByRecursion (IsNew before) seen × AllByRecursion (λ f. bytes_eq e.path f.path ≡ false) seen
  all_new before e [] all = (tt, tt)
  all_new before e (f ∷ seen) all =
      let both = neither (asked before f.path) (bytes_eq e.path f.path)
      (sym (asked_more before e f.path) ∙ all.0) in
      let rest = all_new before e seen all.1 in ((both.0, rest.0), (both.1, rest.1))

  asked_once : (before seen : List SeenEntry) (purposes : List Purpose)
      → IsAskedAfter limits texts options before seen purposes
      → AllByRecursion (IsNew before) seen × AreApart seen
  unfolding IsAskedAfter AreApart
  asked_once before [] purposes a = (tt, tt)
  asked_once before (e ∷ seen) [] a = absurd a
  asked_once before (e ∷ seen) (p ∷ purposes) a =
      let rest = asked_once (before ++ e ∷ []) seen purposes a.1 in
      let later = all_new before e seen rest.0 in
      ((next_is_new before (wish p e.path) a.0, later.0), (later.1, rest.1))

-- ---- the files that have pieces

-- whether the file at a path has pieces, by answers and faults
abbrev pieces_there : List SeenEntry → List (Option TextFault) → List ℕ → Bool
pieces_there seen faults path =
    is_present (answer_in seen path) && not (is_some (get_or faults (number_in seen path) None))

abbrev on_shelf : List Shelved → List ℕ → Bool
on_shelf files path = list_any (λ f. bytes_eq f.path path) files

-- a path that no entry has is on no shelf
not_there : {n : ℕ} {seen : List SeenEntry} {files : List Shelved} → AreShelved n seen files
    → (path : List ℕ) → AllByRecursion (λ e. bytes_eq path e.path ≡ false) seen
    → on_shelf files path ≡ false
not_there (none n) path all = refl
not_there (shelved n p bytes f seen files e x more) path all =
    ap₂ (λ b c. b || c) (ap (λ q. bytes_eq q path) e ∙ turned p path all.0) (not_there more path all.1)
  where
    turned : (p path : List ℕ) → bytes_eq path p ≡ false → bytes_eq p path ≡ false
    turned p path h = by (bytes_eq p path) refl
      where
        by : (b : Bool) → bytes_eq p path ≡ b → b ≡ false
        by true t =
            let same : path ≡ p = sym ((bytes_eq-Decides p path).0 t) in
            let u = (bytes_eq-Decides path p).1 same in absurd cc
        by false t = refl
not_there (faulty n p bytes outcome seen files f x more) path all = not_there more path all.1
not_there (other n e seen files f more) path all = not_there more path all.1

-- the first entry, where it has the path or not
here_pieces : (e : SeenEntry) (seen : List SeenEntry) (o : Option TextFault)
    (faults : List (Option TextFault)) (path : List ℕ) → bytes_eq e.path path ≡ true
    → pieces_there (e ∷ seen) (o ∷ faults) path ≡ (is_present e.answer && not (is_some o))
unfolding look_up
here_pieces e seen o faults path t = rw t refl

later_pieces : (e : SeenEntry) (seen : List SeenEntry) (o : Option TextFault)
    (faults : List (Option TextFault)) (path : List ℕ) → bytes_eq e.path path ≡ false
    → pieces_there (e ∷ seen) (o ∷ faults) path ≡ pieces_there seen faults path
unfolding look_up
later_pieces e seen o faults path t =
    let behind : 1 + number_in seen path ≡ suc (number_in seen path) = omega arith in
    rw t (ap (λ k. is_present (answer_in seen path) && not (is_some (get_or (o ∷ faults) k None))) behind)

-- a text that has pieces has no fault
no_fault_too : (n : ℕ) (bytes : List ℕ) (outcome : Outcome) (pieces : _) (comments : _)
    → Lexes n piece_limit bytes outcome → Lexes n piece_limit bytes (lexed pieces comments)
    → (fault : TextFault) → IsTextFault outcome fault → ⊥
no_fault_too n bytes outcome pieces comments x y fault f =
    subst (λ o. IsTextFault o fault) (one_outcome_of n piece_limit bytes outcome (lexed pieces comments) x y) f

no_fault_either : (n : ℕ) (bytes : List ℕ) (outcome : Outcome) (pieces : _) (comments : _)
    → Lexes n piece_limit bytes outcome → Lexes n piece_limit bytes (lexed pieces comments)
    → IsFault outcome → ⊥
no_fault_either n bytes outcome pieces comments x y f =
    subst IsFault (one_outcome_of n piece_limit bytes outcome (lexed pieces comments) x y) f

-- an answer that is no file
no_present : (answer : Answer) (whole : Bool) → IsFalse (is_present answer) → (is_present answer && whole) ≡ false
no_present (Present bytes) whole h = absurd cc
no_present Absent whole h = refl
no_present (Folder entries) whole h = refl
no_present Unreadable whole h = refl
no_present TooLarge whole h = refl

-- on the shelf is a path, as its first entry tells
Tells : List SeenEntry → List Shelved → List (Option TextFault) → List ℕ → Type 0
Tells seen files faults path = on_shelf files path ≡ pieces_there seen faults path

module _ (e : SeenEntry) (seen : List SeenEntry) (o : Option TextFault) (faults : List (Option TextFault))
    (path : List ℕ) where
  -- an entry of which nothing is on the shelf
  without : (files : List Shelved)
      → (bytes_eq e.path path ≡ true → on_shelf files path ≡ false)
      → (is_present e.answer && not (is_some o)) ≡ false → Tells seen files faults path
      → Tells (e ∷ seen) files (o ∷ faults) path
  unfolding Tells
  without files lacks nothing_told rest = by (bytes_eq e.path path) refl
    where
      by : (b : Bool) → bytes_eq e.path path ≡ b
          → on_shelf files path ≡ pieces_there (e ∷ seen) (o ∷ faults) path
      by true t = lacks t ∙ sym nothing_told ∙ sym (here_pieces e seen o faults path t)
      by false t = rest ∙ sym (later_pieces e seen o faults path t)

  -- an entry of which the file is on the shelf
  with_file_on : (f : Shelved) (files : List Shelved) → f.path ≡ e.path
      → (is_present e.answer && not (is_some o)) ≡ true → Tells seen files faults path
      → Tells (e ∷ seen) (f ∷ files) (o ∷ faults) path
  unfolding Tells
  with_file_on f files same told rest = by (bytes_eq e.path path) refl
    where
      by : (b : Bool) → bytes_eq e.path path ≡ b
          → (bytes_eq f.path path || on_shelf files path) ≡ pieces_there (e ∷ seen) (o ∷ faults) path
      by true t =
          ap (λ q. bytes_eq q path || on_shelf files path) same ∙ ap (λ b. b || on_shelf files path) t
          ∙ sym told ∙ sym (here_pieces e seen o faults path t)
      by false t =
          ap (λ q. bytes_eq q path || on_shelf files path) same ∙ ap (λ b. b || on_shelf files path) t
          ∙ rest ∙ sym (later_pieces e seen o faults path t)

-- where a path is that of an entry, no later entry has it
no_later : (p path : List ℕ) (seen : List SeenEntry) → bytes_eq p path ≡ true
    → AllByRecursion (λ f. bytes_eq p f.path ≡ false) seen
    → AllByRecursion (λ f. bytes_eq path f.path ≡ false) seen
no_later p path seen t all =
    subst (λ q. AllByRecursion (λ f. bytes_eq q f.path ≡ false) seen) ((bytes_eq-Decides p path).0 t) all

-- an answer with a file has one
present_is_file : true ≡ false → ⊥
present_is_file h = absurd cc

all_tell : {n : ℕ} {seen : List SeenEntry} {files : List Shelved} {faults : List (Option TextFault)}
    → AreShelved n seen files → AreFaults n seen faults → AreApart seen → (path : List ℕ)
    → Tells seen files faults path
unfolding Tells AreApart look_up
all_tell (none n) (nothing m) apart path = refl
all_tell (shelved n p bytes f seen files e x more) (sound m q b pieces comments us faults y others) apart path =
    with_file_on (record { path = p; answer = Present bytes }) seen None faults path f files e refl
    (all_tell more others apart.1 path)
all_tell (shelved n p bytes f seen files e x more) (unsound m q b outcome fault us faults z y others) apart path =
    absurd (no_fault_too n bytes outcome f.lexed.pieces f.lexed.comments y x fault z)
all_tell (shelved n p bytes f seen files e x more) (no_file m d us faults z others) apart path = absurd (present_is_file z)
all_tell (faulty n p bytes outcome seen files f x more) (sound m q b pieces comments us faults y others) apart path =
    absurd (no_fault_either n bytes outcome pieces comments x y f)
all_tell (faulty n p bytes outcome seen files f x more) (unsound m q b o fault us faults z y others) apart path =
    without (record { path = p; answer = Present bytes }) seen (Some fault) faults path files
    (λ t. not_there more path (no_later p path seen t apart.0)) refl (all_tell more others apart.1 path)
all_tell (faulty n p bytes outcome seen files f x more) (no_file m d us faults z others) apart path = absurd (present_is_file z)
all_tell (other n e seen files z more) (sound m q b pieces comments us faults y others) apart path =
    absurd (present_is_file z)
all_tell (other n e seen files z more) (unsound m q b o fault us faults w y others) apart path =
    absurd (present_is_file z)
all_tell (other n e seen files z more) (no_file m d us faults w others) apart path =
    without e seen None faults path files
    (λ t. not_there more path (no_later e.path path seen t apart.0)) (no_present e.answer true z)
    (all_tell more others apart.1 path)

pub shelf_of_answers : (limits : Limits) (options : Options) (g : Ground)
    → IsWholeAsking limits options g.seen g.shelf.files → AreFaults 0 g.seen g.faults
    → IsShelfOfAnswers g
unfolding Tells
shelf_of_answers limits options g whole faults path =
    all_tell whole.shelved faults
    (asked_once limits (text_of g.shelf.files) options [] g.seen whole.purposes whole.asked).1 path
