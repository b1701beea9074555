-- What is found by the index of its path.
use Rattle.std.proofs.Common.{◌≡◌, ◌≢◌, ℕ, zero, suc, ◌+◌, ◌-◌, ◌<◌, ◌≤◌, Bool, true, false, cond, not, ◌||◌, nat_lt, List, [], ◌∷◌, ◌++◌, Option, Some, None, Result, Ok, Err, option_map, map, length, take, position, bytes_eq, get_or, slice_get, unwrap_or, refl, sym, ap, ◌∙◌, subst, arith, append-nil}
use Rattle.std.specs.List.{find, list_any, position_or_len}
use Rattle.std.proofs.lemmas.Bool.{ltb-false, ltb-true}
use Rattle.std.proofs.lemmas.List.{length-map, map-append}
use Rattle.std.proofs.lemmas.List.Folds.{find_at}
use Rattle.std.proofs.lemmas.List.Elements.{All-nil, All-push}
use Rattle.std.proofs.lemmas.Option.{slice_get-get_or, slice_get_past}
use Rattle.cx_base.specs.declared.answers.Answer.{Answer}
use Rattle.cx_base.specs.declared.answers.Answer.TheVariants.{Present, Absent, Folder, Unreadable, TooLarge}
use Rattle.cx_base.specs.declared.answers.SeenEntry.{SeenEntry}
use Rattle.cx_lex.specs.Lines.{place_limit}
use Rattle.cx_shelf.specs.declared.shelf.Shelf.{Shelf}
use Rattle.cx_shelf.specs.declared.shelf.Shelved.{Shelved}
use Rattle.cx_shelf.specs.Shelves.{number_of, pieces_in}
use Rattle.cx_table.specs.NameTable.{Entries, index_of, names_of, with_entry}
use Rattle.cx_table.proofs.EntryLaws.{bytes_eq-sym}
use Rattle.cx_asking.specs.declared.limits.Limits.{Limits}
use Rattle.cx_asking.specs.Answers.{AreShort, IsBelow, IsShort, bytes_kept, kept}
use Rattle.cx_asking.specs.declared.text_fault.TextFault.{TextFault}
use Rattle.cx_asking.specs.Asking.{AreFaults, AreShelved, IsFault, IsTextFault, faulty, is_present, no_file, none, nothing, other, shelved, sound, text_of, unsound}
use Rattle.cx_lex.specs.Lexing.{Outcome, lexed, too_long, unclosed_comment}
use Rattle.cx_asking.specs.Shapes.Indexed.{Adds, IsGathered, IsIndexed, IsShelved, Puts, Shelves, folder_ends, paths_seen}
use Rattle.cx_asking.specs.Wishes.{folders_in, is_folder, look_up, up_to_folder}
use Rattle.cx_asking.proofs.ShelfLaws.{shelved_both}

-- what is found at a position

module _ {X : Type 0} (p : X → Bool) where
  found_there : (xs : List X) (i : ℕ) → Some i ≡ position p xs → find p xs ≡ slice_get xs i
  found_there xs i h = by (nat_lt (position_or_len p xs) (length xs)) h
    where
      by : (b : Bool) → Some i ≡ cond b (Some (position_or_len p xs)) None → find p xs ≡ slice_get xs i
      by true h = let at : i ≡ position_or_len p xs = cc in find_at p xs ∙ ap (slice_get xs) (sym at)
      by false h = absurd cc

  place_of : (xs : List X) (i : ℕ) → Some i ≡ position p xs → (i ≡ position_or_len p xs) × (i < length xs)
  place_of xs i h = by (nat_lt (position_or_len p xs) (length xs)) refl h
    where
      by : (b : Bool) → nat_lt (position_or_len p xs) (length xs) ≡ b → Some i ≡ cond b (Some (position_or_len p xs)) None
          → (i ≡ position_or_len p xs) × (i < length xs)
      by true t h =
          let at : i ≡ position_or_len p xs = cc in
          let below : position_or_len p xs < length xs = ltb-true _ _ t in
          (at, omega arith)
      by false t h = absurd cc

  found_nowhere : (xs : List X) → None ≡ position p xs → find p xs ≡ None
  found_nowhere xs h = by (nat_lt (position_or_len p xs) (length xs)) refl h
    where
      by : (b : Bool) → nat_lt (position_or_len p xs) (length xs) ≡ b → None ≡ cond b (Some (position_or_len p xs)) None → find p xs ≡ None
      by true t h = absurd cc
      by false t h =
          let past : length xs ≤ position_or_len p xs = ltb-false _ _ t in
          find_at p xs ∙ slice_get_past xs (position_or_len p xs) past

  -- the first that has it is among the first so many, or none of those has it
  found_among : (most : ℕ) (xs : List X) → position_or_len p xs < most → find p (take most xs) ≡ find p xs
  found_among zero xs h = absurd (omega arith)
  found_among (suc most) [] h = refl
  found_among (suc most) (x ∷ xs) h = by (p x) refl h (found_among most xs)
    where
      by : (b : Bool) → p x ≡ b → cond (not b) (1 + position_or_len p xs) 0 < suc most
          → (position_or_len p xs < most → find p (take most xs) ≡ find p xs)
          → cond b (Some x) (find p (take most xs)) ≡ cond b (Some x) (find p xs)
      by true t h rest = refl
      by false t h rest = rest (omega arith)

  not_among : (most : ℕ) (xs : List X) → most ≤ position_or_len p xs → find p (take most xs) ≡ None
  not_among zero xs h = refl
  not_among (suc most) [] h = refl
  not_among (suc most) (x ∷ xs) h = by (p x) refl h (not_among most xs)
    where
      by : (b : Bool) → p x ≡ b → suc most ≤ cond (not b) (1 + position_or_len p xs) 0
          → (most ≤ position_or_len p xs → find p (take most xs) ≡ None)
          → cond b (Some x) (find p (take most xs)) ≡ None
      by true t h rest = absurd (omega arith)
      by false t h rest = rest (omega arith)

  pub none_among : (most : ℕ) (xs : List X) → find p xs ≡ None → find p (take most xs) ≡ None
  none_among zero xs h = refl
  none_among (suc most) [] h = refl
  none_among (suc most) (x ∷ xs) h = by (p x) h (none_among most xs)
    where
      by : (b : Bool) → cond b (Some x) (find p xs) ≡ None → (find p xs ≡ None → find p (take most xs) ≡ None)
          → cond b (Some x) (find p (take most xs)) ≡ None
      by true h rest = absurd cc
      by false h rest = rest h

-- positions by the paths of a list

module _ {X : Type 0} (f : X → List ℕ) where
  place : (path : List ℕ) (xs : List X) → position_or_len (bytes_eq path) (map f xs) ≡ position_or_len (λ x. bytes_eq (f x) path) xs
  place path [] = refl
  place path (x ∷ xs) = rw (bytes_eq-sym path (f x), place path xs) refl

  by_path : (path : List ℕ) (xs : List X) → position (bytes_eq path) (map f xs) ≡ position (λ x. bytes_eq (f x) path) xs
  by_path path xs = rw (place path xs, length-map xs f) refl

abbrev has_path : List ℕ → SeenEntry → Bool
has_path path e = bytes_eq e.path path

-- the number of the entry of a path, by the index of its paths
pub number_is : (all : Entries (Unit {0})) (seen : List SeenEntry) (path : List ℕ) (r : Option ℕ)
    → names_of all ≡ paths_seen seen → r ≡ index_of all path → r ≡ position (λ e. bytes_eq e.path path) seen
unfolding index_of
number_is all seen path r e h = h ∙ ap (position (bytes_eq path)) e ∙ by_path (λ e. e.path) path seen

-- the answer of a path, by its index

pub answer_at : (all : Entries (Unit {0})) (seen : List SeenEntry) (path : List ℕ) (i : ℕ) → names_of all ≡ paths_seen seen → Some i ≡ index_of all path
    → look_up seen path ≡ option_map (λ e. e.answer) (slice_get seen i)
unfolding look_up
answer_at all seen path i e h =
    ap (option_map (λ e. e.answer)) (found_there (has_path path) seen i (number_is all seen path (Some i) e h))

pub answer_is : (all : Entries (Unit {0})) (seen : List SeenEntry) (path : List ℕ) (i : ℕ) (e : SeenEntry) → names_of all ≡ paths_seen seen → Some i ≡ index_of all path
    → i < length seen → e ≡ get_or seen i e → Some e.answer ≡ look_up seen path
answer_is all seen path i e names at below is =
    ap (λ x. Some x.answer) is ∙ ap (option_map (λ e. e.answer)) (sym (slice_get-get_or seen i e below)) ∙ sym (answer_at all seen path i names at)

pub no_answer : (all : Entries (Unit {0})) (seen : List SeenEntry) (path : List ℕ) → names_of all ≡ paths_seen seen → None ≡ index_of all path → None ≡ look_up seen path
unfolding look_up
no_answer all seen path e h =
    sym (ap (option_map (λ e. e.answer)) (found_nowhere (has_path path) seen (number_is all seen path None e h)))

-- the pieces of a path, by the number of its file

pub text_at : (shelf : Shelf) (path : List ℕ) (i : ℕ) → Some i ≡ number_of shelf path → text_of shelf.files path ≡ pieces_in (slice_get shelf.files i)
unfolding number_of
text_at shelf path i h = ap pieces_in (found_there (λ f. bytes_eq f.path path) shelf.files i h)

pub text_is : (shelf : Shelf) (path : List ℕ) (i : ℕ) (f : Shelved) → Some i ≡ number_of shelf path
    → i < length shelf.files → f ≡ get_or shelf.files i f → text_of shelf.files path ≡ f.lexed.pieces
text_is shelf path i f h below is =
    text_at shelf path i h ∙ ap pieces_in (slice_get-get_or shelf.files i f below) ∙ ap (λ x. x.lexed.pieces) (sym is)

pub no_text : (shelf : Shelf) (path : List ℕ) → None ≡ number_of shelf path → text_of shelf.files path ≡ []
unfolding number_of
no_text shelf path h = ap pieces_in (found_nowhere (λ f. bytes_eq f.path path) shelf.files h)

pub number_within : (shelf : Shelf) (path : List ℕ) (i : ℕ) → Some i ≡ number_of shelf path → i < length shelf.files
unfolding number_of
number_within shelf path i h = (place_of (λ f. bytes_eq f.path path) shelf.files i h).1

-- what was seen up to a folder

-- it is a front of what was seen
pub up_to_part : (most : ℕ) (seen : List SeenEntry) → up_to_folder most seen ≡ take (length (up_to_folder most seen)) seen
unfolding up_to_folder
up_to_part zero [] = refl
up_to_part zero (e ∷ seen) = refl
up_to_part (suc most) [] = refl
up_to_part (suc most) (e ∷ seen) = ap (λ l. e ∷ l) (up_to_part (cond (is_folder e.answer) most (suc most)) seen)

-- the answer of a path, by the number of its entry
pub early_is : (most : ℕ) (seen : List SeenEntry) (path : List ℕ) (number count : ℕ) → Some number ≡ position (λ e. bytes_eq e.path path) seen
    → count ≡ length (up_to_folder most seen) → number < count → look_up seen path ≡ look_up (up_to_folder most seen) path
unfolding look_up
early_is most seen path number count at counts below =
    let here = place_of (has_path path) seen number at in
    let less : position_or_len (has_path path) seen < length (up_to_folder most seen) = omega (arith, here.0, counts) in
    ap (option_map (λ e. e.answer))
    (sym (found_among (has_path path) (length (up_to_folder most seen)) seen less) ∙ ap (find (has_path path)) (sym (up_to_part most seen)))

pub late_is : (most : ℕ) (seen : List SeenEntry) (path : List ℕ) (number count : ℕ) → Some number ≡ position (λ e. bytes_eq e.path path) seen
    → count ≡ length (up_to_folder most seen) → count ≤ number → None ≡ look_up (up_to_folder most seen) path
unfolding look_up
late_is most seen path number count at counts past =
    let here = place_of (has_path path) seen number at in
    let more : length (up_to_folder most seen) ≤ position_or_len (has_path path) seen = omega (arith, here.0, counts) in
    sym (ap (option_map (λ e. e.answer))
    (ap (find (has_path path)) (up_to_part most seen) ∙ not_among (has_path path) (length (up_to_folder most seen)) seen more))

pub never_is : (most : ℕ) (seen : List SeenEntry) (path : List ℕ) → None ≡ position (λ e. bytes_eq e.path path) seen
    → None ≡ look_up (up_to_folder most seen) path
unfolding look_up
never_is most seen path at =
    sym (ap (option_map (λ e. e.answer))
    (ap (find (has_path path)) (up_to_part most seen)
    ∙ none_among (has_path path) (length (up_to_folder most seen)) seen (found_nowhere (has_path path) seen at)))

-- how much was seen up to a folder
end_at : (n most : ℕ) (seen : List SeenEntry)
    → unwrap_or (slice_get (folder_ends n seen) most) (n + length seen) ≡ n + length (up_to_folder (suc most) seen)
unfolding up_to_folder folder_ends
end_at n most [] = nothing most
  where
    nothing : (k : ℕ) → unwrap_or (slice_get [] k) (n + 0) ≡ n + 0
    nothing zero = refl
    nothing (suc k) = refl
end_at n most (e ∷ seen) = by (is_folder e.answer) most (λ k. end_at (n + 1) k seen)
  where
    by : (b : Bool) (k : ℕ)
        → ((k : ℕ) → unwrap_or (slice_get (folder_ends (n + 1) seen) k) ((n + 1) + length seen) ≡ (n + 1) + length (up_to_folder (suc k) seen))
        → unwrap_or (slice_get (cond b ((n + 1) ∷ folder_ends (n + 1) seen) (folder_ends (n + 1) seen)) k) (n + length (e ∷ seen))
        ≡ n + length (e ∷ up_to_folder (cond b k (suc k)) seen)
    by true zero rest = omega arith
    by true (suc k) rest =
        ap (unwrap_or (slice_get (folder_ends (n + 1) seen) k)) (omega arith) ∙ rest k ∙ omega arith
    by false k rest =
        ap (unwrap_or (slice_get (folder_ends (n + 1) seen) k)) (omega arith) ∙ rest k ∙ omega arith

ends_at : (most i : ℕ) (seen : List SeenEntry) → most ≢ 0 → i ≡ most - 1
    → unwrap_or (slice_get (folder_ends 0 seen) i) (length seen) ≡ length (up_to_folder most seen)
ends_at zero i seen never at = absurd (never refl)
ends_at (suc most) i seen never at =
    let e : i ≡ most = omega arith in
    ap (λ k. unwrap_or (slice_get (folder_ends 0 seen) k) (length seen)) e
    ∙ ap (unwrap_or (slice_get (folder_ends 0 seen) most)) (omega arith) ∙ end_at 0 most seen ∙ omega arith

pub count_none : (most : ℕ) (seen : List SeenEntry) → most ≡ 0 → 0 ≡ length (up_to_folder most seen)
unfolding up_to_folder
count_none most seen e = ap (λ k. length (up_to_folder k seen)) (sym e)

pub count_there : (ends : List ℕ) (most i count : ℕ) (seen : List SeenEntry) → ends ≡ folder_ends 0 seen → most ≢ 0 → i ≡ most - 1
    → i < length ends → count ≡ get_or ends i count → count ≡ length (up_to_folder most seen)
count_there ends most i count seen e never at below is =
    ap (λ o. unwrap_or o (length seen)) (ap Some is ∙ sym (slice_get-get_or ends i count below))
    ∙ ap (λ l. unwrap_or (slice_get l i) (length seen)) e ∙ ends_at most i seen never at

pub count_all : (ends : List ℕ) (most i : ℕ) (seen : List SeenEntry) → ends ≡ folder_ends 0 seen → most ≢ 0 → i ≡ most - 1
    → length ends ≤ i → length seen ≡ length (up_to_folder most seen)
count_all ends most i seen e never at past =
    ap (λ o. unwrap_or o (length seen)) (sym (slice_get_past ends i past))
    ∙ ap (λ l. unwrap_or (slice_get l i) (length seen)) e ∙ ends_at most i seen never at

-- how many folders there are
pub folders_counted : (n : ℕ) (seen : List SeenEntry) → length (folder_ends n seen) ≡ length (folders_in seen)
unfolding folders_in folder_ends
folders_counted n [] = refl
folders_counted n (e ∷ seen) = by (is_folder e.answer) (folders_counted (n + 1) seen)
  where
    by : (b : Bool) → length (folder_ends (n + 1) seen) ≡ length (folders_in seen)
        → length (cond b ((n + 1) ∷ folder_ends (n + 1) seen) (folder_ends (n + 1) seen)) ≡ length (cond b (e ∷ folders_in seen) (folders_in seen))
    by true rest = ap suc rest
    by false rest = rest

-- nothing is indexed
pub nothing_indexed : (seen : List SeenEntry) (all : Entries (Unit {0})) (ends : List ℕ) → seen ≡ [] → all ≡ [] → ends ≡ [] → IsIndexed seen all ends
unfolding folder_ends
nothing_indexed seen all ends s a f = record {
  paths = ap names_of a ∙ ap paths_seen (sym s);
  folders = f ∙ ap (folder_ends 0) (sym s);
}

-- a path more

has_no_path : (seen : List SeenEntry) (path : List ℕ) → look_up seen path ≡ None → list_any (λ n. bytes_eq n path) (paths_seen seen) ≡ false
unfolding look_up
has_no_path [] path h = refl
has_no_path (e ∷ seen) path h = by (bytes_eq e.path path) refl h (has_no_path seen path)
  where
    by : (b : Bool) → bytes_eq e.path path ≡ b → option_map (λ e. e.answer) (cond b (Some e) (find (has_path path) seen)) ≡ None
        → (option_map (λ e. e.answer) (find (has_path path) seen) ≡ None → list_any (λ n. bytes_eq n path) (paths_seen seen) ≡ false)
        → (bytes_eq e.path path || list_any (λ n. bytes_eq n path) (paths_seen seen)) ≡ false
    by true t h rest = absurd cc
    by false t h rest = rw t (rest h)

entry_more : (all : Entries (Unit {0})) (path : List ℕ) → list_any (λ n. bytes_eq n path) (names_of all) ≡ false → with_entry path tt all ≡ all ++ (path, tt) ∷ []
unfolding with_entry
entry_more [] path h = refl
entry_more (entry ∷ all) path h = by (bytes_eq entry.0 path) refl h (entry_more all path)
  where
    by : (b : Bool) → bytes_eq entry.0 path ≡ b → (b || list_any (λ n. bytes_eq n path) (names_of all)) ≡ false
        → (list_any (λ n. bytes_eq n path) (names_of all) ≡ false → with_entry path tt all ≡ all ++ (path, tt) ∷ [])
        → cond (bytes_eq entry.0 path) ((path, tt) ∷ all) (entry ∷ with_entry path tt all) ≡ entry ∷ (all ++ (path, tt) ∷ [])
    by true t h rest = absurd cc
    by false t h rest = rw t (ap (λ l. entry ∷ l) (rest h))

names_more : (all : Entries (Unit {0})) (path : List ℕ) → list_any (λ n. bytes_eq n path) (names_of all) ≡ false
    → names_of (with_entry path tt all) ≡ names_of all ++ path ∷ []
names_more all path h = ap names_of (entry_more all path h) ∙ map-append (λ e. e.0) all ((path, tt) ∷ [])

ends_more : (n : ℕ) (seen : List SeenEntry) (e : SeenEntry)
    → folder_ends n (seen ++ e ∷ []) ≡ folder_ends n seen ++ cond (is_folder e.answer) ((n + length (seen ++ e ∷ [])) ∷ []) []
unfolding folder_ends
ends_more n [] e = refl
ends_more n (x ∷ seen) e = by (is_folder x.answer) (ends_more (n + 1) seen e)
  where
    later : (n + 1) + length (seen ++ e ∷ []) ≡ n + length (x ∷ (seen ++ e ∷ []))
    later = omega arith

    by : (b : Bool) → folder_ends (n + 1) (seen ++ e ∷ []) ≡ folder_ends (n + 1) seen ++ cond (is_folder e.answer) (((n + 1) + length (seen ++ e ∷ [])) ∷ []) []
        → cond b ((n + 1) ∷ folder_ends (n + 1) (seen ++ e ∷ [])) (folder_ends (n + 1) (seen ++ e ∷ []))
        ≡ cond b ((n + 1) ∷ folder_ends (n + 1) seen) (folder_ends (n + 1) seen) ++ cond (is_folder e.answer) ((n + length (x ∷ (seen ++ e ∷ []))) ∷ []) []
    by true rest = ap (λ l. (n + 1) ∷ l) (rest ∙ ap (λ k. folder_ends (n + 1) seen ++ cond (is_folder e.answer) (k ∷ []) []) later)
    by false rest = rest ∙ ap (λ k. folder_ends (n + 1) seen ++ cond (is_folder e.answer) (k ∷ []) []) later

paths_more : (all : Entries (Unit {0})) (seen : List SeenEntry) (e : SeenEntry) → names_of all ≡ paths_seen seen
    → list_any (λ n. bytes_eq n e.path) (paths_seen seen) ≡ false → names_of (with_entry e.path tt all) ≡ paths_seen (seen ++ e ∷ [])
paths_more all seen e names h =
    names_more all e.path (subst (λ l. list_any (λ n. bytes_eq n e.path) l ≡ false) (sym names) h)
    ∙ ap (λ l. l ++ e.path ∷ []) names ∙ sym (map-append (λ e. e.path) seen (e ∷ []))

pub indexed_as : (seen new : List SeenEntry) (all more : Entries (Unit {0})) (ends others : List ℕ) → new ≡ seen → more ≡ all → others ≡ ends
    → IsIndexed seen all ends → IsIndexed new more others
indexed_as seen new all more ends others e f g i = record {
  paths = ap names_of f ∙ i.paths ∙ ap paths_seen (sym e);
  folders = g ∙ i.folders ∙ ap (folder_ends 0) (sym e);
}

pub folder_more : (seen : List SeenEntry) (all : Entries (Unit {0})) (ends : List ℕ) (path : List ℕ) (answer : Answer) (count : ℕ) → IsIndexed seen all ends
    → look_up seen path ≡ None → is_folder answer ≡ true → count ≡ length (seen ++ record { path = path; answer = answer } ∷ [])
    → IsIndexed (seen ++ record { path = path; answer = answer } ∷ []) (with_entry path tt all) (ends ++ count ∷ [])
folder_more seen all ends path answer count i new t counts =
    let e : SeenEntry = record { path = path; answer = answer } in
    record {
      paths = paths_more all seen e i.paths (has_no_path seen path new);
      folders = ap (λ l. l ++ count ∷ []) i.folders ∙ ap (λ k. folder_ends 0 seen ++ k ∷ []) (counts ∙ omega arith)
          ∙ ap (λ b. folder_ends 0 seen ++ cond b ((0 + length (seen ++ e ∷ [])) ∷ []) []) (sym t) ∙ sym (ends_more 0 seen e);
    }

pub other_more : (seen : List SeenEntry) (all : Entries (Unit {0})) (ends : List ℕ) (path : List ℕ) (answer : Answer) → IsIndexed seen all ends
    → look_up seen path ≡ None → is_folder answer ≡ false
    → IsIndexed (seen ++ record { path = path; answer = answer } ∷ []) (with_entry path tt all) ends
other_more seen all ends path answer i new t =
    let e : SeenEntry = record { path = path; answer = answer } in
    record {
      paths = paths_more all seen e i.paths (has_no_path seen path new);
      folders = i.folders ∙ sym (append-nil (folder_ends 0 seen))
          ∙ ap (λ b. folder_ends 0 seen ++ cond b ((0 + length (seen ++ e ∷ [])) ∷ []) []) (sym t) ∙ sym (ends_more 0 seen e);
    }

-- what an entry puts on the shelf

pub no_file_put : (n : ℕ) (shelf : Shelf) (path : List ℕ) (answer : Answer) → is_present answer ≡ false
    → Puts n shelf.files (record { path = path; answer = answer }) shelf None
no_file_put n shelf path answer h = (
  record {
    new = [];
    shelf = sym (append-nil shelf.files);
    is = other n (record { path = path; answer = answer }) [] [] h (none (n + 1));
  },
  no_file n (record { path = path; answer = answer }) [] [] h (nothing (n + 1)),
)

pub other_answer : (answer : Answer) → ((bytes : List ℕ) → answer ≡ Present bytes → ⊥) → is_present answer ≡ false
other_answer (Present bytes) h = absurd (h bytes refl)
other_answer Absent h = refl
other_answer (Folder entries) h = refl
other_answer Unreadable h = refl
other_answer TooLarge h = refl

is_fault : (outcome : Outcome) (fault : TextFault) → IsTextFault outcome fault → IsFault outcome
is_fault (lexed pieces comments) fault h = h
is_fault (unclosed_comment at) fault h = tt
is_fault (too_long at) fault h = tt

fault_put : (n : ℕ) (shelf : Shelf) (path bytes : List ℕ) (fault : TextFault) → IsShelved n path bytes (Err fault)
    → Puts n shelf.files (record { path = path; answer = Present bytes }) shelf (Some fault)
fault_put n shelf path bytes fault h = (
  record {
    new = [];
    shelf = sym (append-nil shelf.files);
    is = faulty n path bytes h.0 [] [] (is_fault h.0 fault h.1) h.2 (none (n + 1));
  },
  unsound n path bytes h.0 fault [] [] h.1 h.2 (nothing (n + 1)),
)

file_put : (n : ℕ) (shelf after : Shelf) (path bytes : List ℕ) (f : Shelved) → IsShelved n path bytes (Ok f)
    → after.files ≡ shelf.files ++ f ∷ [] → Puts n shelf.files (record { path = path; answer = Present bytes }) after None
file_put n shelf after path bytes f h e = (
  record {
    new = f ∷ [];
    shelf = e;
    is = shelved n path bytes f [] [] h.0 h.1 (none (n + 1));
  },
  sound n path bytes f.lexed.pieces f.lexed.comments [] [] h.1 (nothing (n + 1)),
)

-- the same, where an answer is that of a file

pub fault_stands : (n : ℕ) (shelf : Shelf) (path bytes : List ℕ) (answer : Answer) (found : Result Shelved TextFault) (fault : TextFault)
    → answer ≡ Present bytes → IsShelved n path bytes found → found ≡ Err fault
    → Puts n shelf.files (record { path = path; answer = answer }) shelf (Some fault)
fault_stands n shelf path bytes answer found fault e h is =
    subst (λ a. Puts n shelf.files (record { path = path; answer = a }) shelf (Some fault)) (sym e)
    (fault_put n shelf path bytes fault (subst (IsShelved n path bytes) is h))

pub file_stands : (n : ℕ) (shelf after : Shelf) (path bytes : List ℕ) (answer : Answer) (found : Result Shelved TextFault) (f : Shelved)
    → answer ≡ Present bytes → IsShelved n path bytes found → found ≡ Ok f
    → after ≡ record { folders = shelf.folders; files = shelf.files ++ f ∷ [] }
    → Puts n shelf.files (record { path = path; answer = answer }) after None
file_stands n shelf after path bytes answer found f e h is new =
    subst (λ a. Puts n shelf.files (record { path = path; answer = a }) after None) (sym e)
    (file_put n shelf after path bytes f (subst (IsShelved n path bytes) is h) (ap (λ s. s.files) new))

-- what was gathered

pub nothing_gathered : (seen : List SeenEntry) (shelf : List Shelved) (faults : List (Option TextFault)) (bytes : ℕ)
    → seen ≡ [] → shelf ≡ [] → faults ≡ [] → bytes ≡ 0 → IsGathered seen shelf faults bytes
unfolding kept
nothing_gathered seen shelf faults bytes s h f b = record {
  faulty = subst (λ l. AreFaults 0 l faults) (sym s) (subst (AreFaults 0 []) (sym f) (nothing 0));
  kept = b ∙ ap kept (sym s);
  files = subst (λ l. AreShelved 0 l shelf) (sym s) (subst (AreShelved 0 []) (sym h) (none 0));
  short = subst AreShort (sym s) (All-nil (λ e. IsShort e.answer));
}

kept_more : (seen : List SeenEntry) (e : SeenEntry) → kept (seen ++ e ∷ []) ≡ kept seen + bytes_kept e.answer
unfolding kept
kept_more [] e = omega arith
kept_more (x ∷ seen) e = omega (arith, kept_more seen e)

faults_both : (n : ℕ) (seen : List SeenEntry) (faults : List (Option TextFault)) → AreFaults n seen faults → (m : ℕ) (others : List SeenEntry)
    (more : List (Option TextFault)) → m ≡ n + length seen → AreFaults m others more → AreFaults n (seen ++ others) (faults ++ more)
faults_both _ [] [] (nothing n) m others more e h = subst (λ k. AreFaults k others more) (e ∙ omega arith) h
faults_both _ [] (_ ∷ _) x m others more e h = elim x [ ]
faults_both _ (_ ∷ _) [] x m others more e h = elim x [ ]
faults_both _ (_ ∷ _) (_ ∷ _) (sound n path bytes ps cs seen faults l rest) m others more e h =
    sound n path bytes ps cs (seen ++ others) (faults ++ more) l (faults_both (n + 1) seen faults rest m others more (e ∙ omega arith) h)
faults_both _ (_ ∷ _) (_ ∷ _) (unsound n path bytes outcome fault seen faults p l rest) m others more e h =
    unsound n path bytes outcome fault (seen ++ others) (faults ++ more) p l (faults_both (n + 1) seen faults rest m others more (e ∙ omega arith) h)
faults_both _ (_ ∷ _) (_ ∷ _) (no_file n x seen faults p rest) m others more e h =
    no_file n x (seen ++ others) (faults ++ more) p (faults_both (n + 1) seen faults rest m others more (e ∙ omega arith) h)

is_short : (limits : Limits) (others : ℕ) (answer : Answer) → limits.read ≤ place_limit → IsBelow limits others answer → IsShort answer
is_short limits others (Present bytes) l h = let s = h.short in omega arith
is_short limits others Absent l h = tt
is_short limits others (Folder entries) l h = tt
is_short limits others Unreadable l h = tt
is_short limits others TooLarge l h = tt

one_gathered : (limits : Limits) (seen : List SeenEntry) (shelf : List Shelved) (after : Shelf) (faults : List (Option TextFault)) (fault : Option TextFault)
    (bytes : ℕ) (e : SeenEntry) → IsGathered seen shelf faults bytes
    → Puts (length seen) shelf e after fault → IsBelow limits (kept seen) e.answer → limits.read ≤ place_limit
    → IsGathered (seen ++ e ∷ []) after.files (faults ++ fault ∷ []) (bytes + bytes_kept e.answer)
one_gathered limits seen shelf after faults fault bytes e g s below l = record {
  faulty = faults_both 0 seen faults g.faulty (length seen) (e ∷ []) (fault ∷ []) (omega arith) s.1;
  kept = ap (λ n. n + bytes_kept e.answer) g.kept ∙ sym (kept_more seen e);
  files = subst (AreShelved 0 (seen ++ e ∷ [])) (sym s.0.shelf)
      (shelved_both 0 seen shelf g.files (length seen) (e ∷ []) s.0.new (omega arith) s.0.is);
  short = All-push (λ e. IsShort e.answer) seen e g.short (is_short limits (kept seen) e.answer l below);
}

pub more_gathered : (limits : Limits) (seen new : List SeenEntry) (shelf : List Shelved) (after : Shelf) (faults all : List (Option TextFault))
    (fault : Option TextFault) (bytes more n : ℕ) (e : SeenEntry) → IsGathered seen shelf faults bytes
    → n ≡ length seen → Puts n shelf e after fault → IsBelow limits (kept seen) e.answer → limits.read ≤ place_limit
    → new ≡ seen ++ e ∷ [] → all ≡ faults ++ fault ∷ [] → more ≡ bytes_kept e.answer → IsGathered new after.files all (bytes + more)
more_gathered limits seen new shelf after faults all fault bytes more n e g len s below l is told count =
    subst (λ k. IsGathered new after.files all (bytes + k)) (sym count)
    (subst (λ fs. IsGathered new after.files fs (bytes + bytes_kept e.answer)) (sym told)
    (subst (λ l. IsGathered l after.files (faults ++ fault ∷ []) (bytes + bytes_kept e.answer)) (sym is)
    (one_gathered limits seen shelf after faults fault bytes e g (subst (λ k. Puts k shelf e after fault) len s) below l)))

pub adds_answer : (seen : List SeenEntry) (shelf after : List Shelved) (n : ℕ) (path : List ℕ) (answer : Answer)
    → n ≡ length seen → Shelves n shelf after (record { path = path; answer = answer })
    → Adds (record { seen = seen; shelf = shelf }) path answer (record { seen = seen ++ record { path = path; answer = answer } ∷ []; shelf = after })
adds_answer seen shelf after n path answer e s =
    record { new = s.new; seen = refl; shelf = s.shelf; is = subst (λ k. AreShelved k (record { path = path; answer = answer } ∷ []) s.new) e s.is }
