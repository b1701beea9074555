-- Where the file of an include is looked for.
use Rattle.std.proofs.Common.{◌⊎◌, inl, inr, ⊎_elim, ◌≡◌, ◌≢◌, ℕ, zero, suc, ◌+◌, ◌-◌, ◌<◌, ◌≤◌, List, [], ◌∷◌, ◌++◌, Bool, true, false, cond, not, ◌||◌, ◌==◌, nat_lt, Option, Some, None, is_some, refl, sym, ap, ◌∙◌, subst, arith, length, take, drop, get_or, bytes_eq, position, ne_eqb, eq-eqb, map, add-one, drop-cons}
use Rattle.std.specs.List.{list_any, position_or_len, slice_range}
use Rattle.std.specs.Str.{IsUtf8}
use Rattle.std.proofs.lemmas.Bool.{cases_Bool, false_from_ne_true}
use Rattle.std.proofs.lemmas.Bool.Decides.{nat_tests}
use Rattle.std.proofs.lemmas.List.{drop_all, length-append, length-take, take_more, take_all}
use Rattle.std.proofs.lemmas.List.Sums.{prefix_len-le-length}
use Rattle.std.proofs.lemmas.List.Folds.{list_any_at, position_or_len_push}
use Rattle.std.proofs.lemmas.Slice.Eq.{bytes_eq-Decides}
use Rattle.std.proofs.lemmas.Str.{IsUtf8-from_is_utf8, is_utf8-from_IsUtf8}
use Rattle.cx_base.specs.Folders.{is_slash}
use Rattle.cx_base.specs.Simple.{is_rooted, simple_path}
use Rattle.cx_directive.specs.declared.include.IncludeName.{IncludeName}
use Rattle.cx_directive.specs.declared.include.Target.{Target}
use Rattle.cx_table.specs.NameTable.{Entries, value_of, with_entry}
use Rattle.cx_table.proofs.TableLaws.{value_of-with_entry, value_of-with_entry_other}
use Rattle.cx_shelf.specs.declared.shelf.Shelf.{Shelf}
use Rattle.cx_shelf.specs.declared.shelf.Shelved.{Shelved}
use Rattle.cx_shelf.specs.Searches.{candidates, first_number, folder_part, found, in_folder, own_candidates}
use Rattle.cx_shelf.specs.Shelves.{number_of}
use Rattle.cx_shelf.specs.Shapes.Searching.{AreNumbers, first_among, with_first}

-- the folder part of a path

pub no_slash : (path : List ℕ) → ((i : ℕ) → i < length path → get_or path i 0 ≢ 47) → folder_part path ≡ []
unfolding folder_part
no_slash [] lacks = refl
no_slash (b ∷ bs) lacks = rw (none_any (b ∷ bs) lacks) refl
  where
    none_any : (path : List ℕ) → ((i : ℕ) → i < length path → get_or path i 0 ≢ 47) → list_any is_slash path ≡ false
    none_any [] lacks = refl
    none_any (b ∷ bs) lacks =
        let no : (b == 47) ≡ false = ne_eqb b 47 (lacks 0 (omega arith)) in
        rw (no, none_any bs (λ i below. lacks (suc i) (omega arith))) refl

last_slash : (path : List ℕ) (at : ℕ) → at < length path → get_or path at 0 ≡ 47
    → ((i : ℕ) → at < i → i < length path → get_or path i 0 ≢ 47) → take (suc at) path ≡ folder_part path
unfolding folder_part
last_slash [] at below here after = absurd (omega arith)
last_slash (b ∷ bs) zero below here after =
    let any : list_any is_slash (b ∷ bs) ≡ true = list_any_at is_slash (b ∷ bs) 0 0 below (eq-eqb _ 47 here) in
    rw any (ap (λ l. b ∷ l) (sym (no_slash bs (λ i less. after (suc i) (omega arith) (omega arith)))))
last_slash (b ∷ bs) (suc at) below here after =
    let any : list_any is_slash (b ∷ bs) ≡ true = list_any_at is_slash (b ∷ bs) (suc at) 0 below (eq-eqb _ 47 here) in
    rw any (ap (λ l. b ∷ l) (last_slash bs at (omega arith) here (λ i more less. after (suc i) (omega arith) (omega arith))))

-- what a path has up to there
pub up_to_last : (path : List ℕ) (at : ℕ) → at < length path → get_or path at 0 ≡ 47
    → ((i : ℕ) → at < i → i < length path → get_or path i 0 ≢ 47) → slice_range path 0 (at + 1) ≡ folder_part path
up_to_last path at below here after =
    let e : (at + 1) - 0 ≡ suc at = omega arith in ap (λ k. take k path) e ∙ last_slash path at below here after

-- entries with one path more

pub first_there : (path : List ℕ) (number : ℕ) (entries : Entries ℕ) → is_some (value_of entries path) ≡ true → with_first path number entries ≡ entries
unfolding with_first
first_there path number entries e = rw e refl

pub first_new : (path : List ℕ) (number : ℕ) (entries : Entries ℕ) → is_some (value_of entries path) ≡ false → with_first path number entries ≡ with_entry path number entries
unfolding with_first
first_new path number entries e = rw e refl

-- the number found, or else another where the test holds
abbrev or_number : Option ℕ → Bool → ℕ → Option ℕ
or_number (Some n) b k = Some n
or_number None true k = Some k
or_number None false k = None

number_step : (at count : ℕ) (b : Bool) → at ≤ count
    → cond (nat_lt (cond (at == count) (count + cond b 0 1) at) (count + 1)) (Some (cond (at == count) (count + cond b 0 1) at)) None
    ≡ or_number (cond (nat_lt at count) (Some at) None) b count
number_step at count true l = grind (arith, nat_tests)
number_step at count false l = grind (arith, nat_tests)

number_more : (test : Shelved → Bool) (files : List Shelved) (f : Shelved) → position test (files ++ f ∷ []) ≡ or_number (position test files) (test f) (length files)
number_more test files f =
    let p = position_or_len_push test files f in
    let n : length (files ++ f ∷ []) ≡ length files + 1 = length-append files (f ∷ []) in
    rw (p, n) (number_step (position_or_len test files) (length files) (test f) (prefix_len-le-length (λ x. not (test x)) files))

or_there : (o : Option ℕ) (b : Bool) (k : ℕ) → is_some o ≡ true → or_number o b k ≡ o
or_there (Some n) b k e = refl
or_there None b k e = absurd cc

or_new : (o : Option ℕ) (k : ℕ) → is_some o ≡ false → or_number o true k ≡ Some k
or_new None k e = refl
or_new (Some n) k e = absurd cc

or_other : (o : Option ℕ) (k : ℕ) → or_number o false k ≡ o
or_other None k = refl
or_other (Some n) k = refl

-- the number of the file with a path, among these
abbrev number_in : List Shelved → List ℕ → Option ℕ
number_in files path = position (λ g. bytes_eq g.path path) files

-- the entries tell the numbers among these files
abbrev AreAmong : Entries ℕ → List Shelved → Type 0
AreAmong entries files = (path : List ℕ) → value_of entries path ≡ position (λ f. bytes_eq f.path path) files

one_more_file : (entries : Entries ℕ) (files : List Shelved) (f : Shelved) → AreAmong entries files
    → AreAmong (with_first f.path (length files) entries) (files ++ f ∷ [])
one_more_file entries files f h = λ path.
    ⊎_elim (λ (t : is_some (value_of entries f.path) ≡ true). there path t (cases_Bool (bytes_eq f.path path)))
    (λ (t : is_some (value_of entries f.path) ≡ false). new path t (cases_Bool (bytes_eq f.path path)))
    (cases_Bool (is_some (value_of entries f.path)))
  where
    more : (path : List ℕ) (b : Bool) → bytes_eq f.path path ≡ b
        → position (λ g. bytes_eq g.path path) (files ++ f ∷ []) ≡ or_number (number_in files path) b (length files)
    more path b e = number_more (λ g. bytes_eq g.path path) files f ∙ ap (λ t. or_number (number_in files path) t (length files)) e

    same : (path : List ℕ) (b : Bool) → is_some (value_of entries f.path) ≡ b → bytes_eq f.path path ≡ true → is_some (number_in files path) ≡ b
    same path b t e = subst (λ p. is_some (number_in files p) ≡ b) ((bytes_eq-Decides f.path path).0 e) (subst (λ o. is_some o ≡ b) (h f.path) t)

    there : (path : List ℕ) → is_some (value_of entries f.path) ≡ true → (bytes_eq f.path path ≡ true) ⊎ (bytes_eq f.path path ≡ false)
        → value_of (with_first f.path (length files) entries) path ≡ position (λ g. bytes_eq g.path path) (files ++ f ∷ [])
    there path t (inl e) =
        ap (λ es. value_of es path) (first_there f.path (length files) entries t) ∙ h path
        ∙ sym (more path true e ∙ or_there (number_in files path) true (length files) (same path true t e))
    there path t (inr e) =
        ap (λ es. value_of es path) (first_there f.path (length files) entries t) ∙ h path
        ∙ sym (more path false e ∙ or_other (number_in files path) (length files))

    new : (path : List ℕ) → is_some (value_of entries f.path) ≡ false → (bytes_eq f.path path ≡ true) ⊎ (bytes_eq f.path path ≡ false)
        → value_of (with_first f.path (length files) entries) path ≡ position (λ g. bytes_eq g.path path) (files ++ f ∷ [])
    new path t (inl e) =
        ap (λ es. value_of es path) (first_new f.path (length files) entries t)
        ∙ subst (λ p. value_of (with_entry f.path (length files) entries) p ≡ Some (length files)) ((bytes_eq-Decides f.path path).0 e)
        (value_of-with_entry f.path (length files) entries)
        ∙ sym (more path true e ∙ or_new (number_in files path) (length files) (same path false t e))
    new path t (inr e) =
        ap (λ es. value_of es path) (first_new f.path (length files) entries t)
        ∙ value_of-with_entry_other f.path path (length files) entries e ∙ h path
        ∙ sym (more path false e ∙ or_other (number_in files path) (length files))

none_among : AreAmong [] []
unfolding value_of
none_among path = refl

-- the numbers of a shelf without files, and of one with a file more

pub no_numbers : (folders : List (List ℕ)) → AreNumbers [] (record { folders = folders; files = [] })
unfolding number_of
no_numbers folders = none_among

pub other_folders : (entries : Entries ℕ) (shelf : Shelf) (folders : List (List ℕ)) → AreNumbers entries shelf
    → AreNumbers entries (record { folders = folders; files = shelf.files })
unfolding number_of
other_folders entries shelf folders h = h

pub one_number_more : (entries : Entries ℕ) (shelf : Shelf) (f : Shelved) → AreNumbers entries shelf
    → AreNumbers (with_first f.path (length shelf.files) entries) (record { folders = shelf.folders; files = shelf.files ++ f ∷ [] })
unfolding number_of
one_number_more entries shelf f h = one_more_file entries shelf.files f h

-- the first of some paths

pub among_nothing : (entries : Entries ℕ) → first_among entries [] ≡ None
unfolding first_among
among_nothing entries = refl

pub among_here : (entries : Entries ℕ) (path : List ℕ) (paths : List (List ℕ)) → is_some (value_of entries path) ≡ true
    → first_among entries (path ∷ paths) ≡ value_of entries path
unfolding first_among
among_here entries path paths h = by (value_of entries path) refl h
  where
    by : (o : Option ℕ) → value_of entries path ≡ o → is_some o ≡ true → first_among entries (path ∷ paths) ≡ o
    by None e h = absurd cc
    by (Some n) e h = rw e refl

pub among_later : (entries : Entries ℕ) (path : List ℕ) (paths : List (List ℕ)) → is_some (value_of entries path) ≡ false
    → first_among entries (path ∷ paths) ≡ first_among entries paths
unfolding first_among
among_later entries path paths h = by (value_of entries path) refl h
  where
    by : (o : Option ℕ) → value_of entries path ≡ o → is_some o ≡ false → first_among entries (path ∷ paths) ≡ first_among entries paths
    by None e h = rw e refl
    by (Some n) e h = absurd cc

pub among_one : (entries : Entries ℕ) (path : List ℕ) → first_among entries (path ∷ []) ≡ value_of entries path
unfolding first_among
among_one entries path = by (value_of entries path) refl
  where
    by : (o : Option ℕ) → value_of entries path ≡ o → first_among entries (path ∷ []) ≡ o
    by None e = rw e refl
    by (Some n) e = rw e refl

-- those in front come first
pub among_front : (entries : Entries ℕ) (front back : List (List ℕ)) → is_some (first_among entries front) ≡ true
    → first_among entries (front ++ back) ≡ first_among entries front
unfolding first_among
among_front entries [] back h = absurd cc
among_front entries (path ∷ front) back h = by (value_of entries path) refl h (among_front entries front back)
  where
    by : (o : Option ℕ) → value_of entries path ≡ o → is_some (first_among entries (path ∷ front)) ≡ true
        → (is_some (first_among entries front) ≡ true → first_among entries (front ++ back) ≡ first_among entries front)
        → first_among entries (path ∷ (front ++ back)) ≡ first_among entries (path ∷ front)
    by None e h more = rw e (more (rw e at h))
    by (Some n) e h more = rw e refl

pub among_back : (entries : Entries ℕ) (front back : List (List ℕ)) → is_some (first_among entries front) ≡ false
    → first_among entries (front ++ back) ≡ first_among entries back
unfolding first_among
among_back entries [] back h = refl
among_back entries (path ∷ front) back h = by (value_of entries path) refl h (among_back entries front back)
  where
    by : (o : Option ℕ) → value_of entries path ≡ o → is_some (first_among entries (path ∷ front)) ≡ false
        → (is_some (first_among entries front) ≡ false → first_among entries (front ++ back) ≡ first_among entries back)
        → first_among entries (path ∷ (front ++ back)) ≡ first_among entries back
    by None e h more = rw e (more (rw e at h))
    by (Some n) e h more = absurd cc (rw e at h)

-- among the paths of the shelf it is the number of its file
pub among_is_first : (entries : Entries ℕ) (shelf : Shelf) → AreNumbers entries shelf → (paths : List (List ℕ)) → first_among entries paths ≡ first_number shelf paths
unfolding first_among first_number
among_is_first entries shelf h [] = refl
among_is_first entries shelf h (path ∷ paths) = by (number_of shelf path) refl (among_is_first entries shelf h paths)
  where
    by : (o : Option ℕ) → number_of shelf path ≡ o → first_among entries paths ≡ first_number shelf paths
        → first_among entries (path ∷ paths) ≡ first_number shelf (path ∷ paths)
    by None e more = rw (h path, e) more
    by (Some n) e more = rw (h path, e) refl

-- the loop over the folders, where each gives a path

front_folder : (paths : List ℕ → List ℕ) (folders : List (List ℕ)) (i : ℕ) (folder : List ℕ) → i < length folders → folder ≡ get_or folders i folder
    → map paths (drop i folders) ≡ paths folder ∷ map paths (drop (i + 1) folders)
front_folder paths folders i folder below at =
    ap (map paths) (drop-cons folders i folder below) ∙ ap (λ f. paths f ∷ map paths (drop (suc i) folders)) (sym at)
    ∙ ap (λ k. paths folder ∷ map paths (drop k folders)) (sym (add-one i))

pub folder_has : (entries : Entries ℕ) (paths : List ℕ → List ℕ) (folders : List (List ℕ)) (i : ℕ) (folder : List ℕ) (r : Option ℕ)
    → i < length folders → folder ≡ get_or folders i folder
    → first_among entries (map paths (drop i folders)) ≡ first_among entries (map paths folders)
    → r ≡ value_of entries (paths folder) → is_some r ≡ true → r ≡ first_among entries (map paths folders)
folder_has entries paths folders i folder r below at so_far is has =
    is ∙ sym (among_here entries (paths folder) (map paths (drop (i + 1) folders)) (subst (λ o. is_some o ≡ true) is has))
    ∙ ap (first_among entries) (sym (front_folder paths folders i folder below at)) ∙ so_far

pub folder_lacks : (entries : Entries ℕ) (paths : List ℕ → List ℕ) (folders : List (List ℕ)) (i : ℕ) (folder : List ℕ) (r : Option ℕ)
    → i < length folders → folder ≡ get_or folders i folder
    → first_among entries (map paths (drop i folders)) ≡ first_among entries (map paths folders)
    → r ≡ value_of entries (paths folder) → is_some r ≡ false → first_among entries (map paths (drop (i + 1) folders)) ≡ first_among entries (map paths folders)
folder_lacks entries paths folders i folder r below at so_far is lacks =
    sym (among_later entries (paths folder) (map paths (drop (i + 1) folders)) (subst (λ o. is_some o ≡ false) is lacks))
    ∙ ap (first_among entries) (sym (front_folder paths folders i folder below at)) ∙ so_far

pub no_folder_more : (entries : Entries ℕ) (paths : List ℕ → List ℕ) (folders : List (List ℕ)) (i : ℕ) → length folders ≤ i
    → first_among entries (map paths (drop i folders)) ≡ first_among entries (map paths folders) → None ≡ first_among entries (map paths folders)
no_folder_more entries paths folders i past so_far =
    sym (among_nothing entries) ∙ ap (λ l. first_among entries (map paths l)) (sym (drop_all i folders past)) ∙ so_far

-- the candidates, by the form of the name

abbrev others : List (List ℕ) → IncludeName → List (List ℕ)
others folders n = map (λ folder. simple_path (in_folder folder n.name)) folders

rooted_is : (folders : List (List ℕ)) (includer : List ℕ) (n : IncludeName) → is_rooted n.name ≡ true → candidates folders includer n ≡ simple_path n.name ∷ []
unfolding candidates
rooted_is folders includer n e = rw e refl

relative_is : (folders : List (List ℕ)) (includer : List ℕ) (n : IncludeName) → is_rooted n.name ≡ false
    → candidates folders includer n ≡ own_candidates includer n ++ others folders n
unfolding candidates
relative_is folders includer n e = rw e refl

pub rooted_alone : (entries : Entries ℕ) (folders : List (List ℕ)) (includer : List ℕ) (n : IncludeName) (r : Option ℕ) → is_rooted n.name ≡ true
    → r ≡ value_of entries (simple_path n.name) → r ≡ first_among entries (candidates folders includer n)
rooted_alone entries folders includer n r e h = h ∙ sym (among_one entries (simple_path n.name)) ∙ ap (first_among entries) (sym (rooted_is folders includer n e))

pub own_first : (entries : Entries ℕ) (folders : List (List ℕ)) (includer : List ℕ) (n : IncludeName) (r : Option ℕ) → is_rooted n.name ≡ false
    → r ≡ first_among entries (own_candidates includer n) → is_some r ≡ true → r ≡ first_among entries (candidates folders includer n)
own_first entries folders includer n r e h has =
    h ∙ sym (among_front entries (own_candidates includer n) (others folders n) (subst (λ o. is_some o ≡ true) h has))
    ∙ ap (first_among entries) (sym (relative_is folders includer n e))

pub folders_next : (entries : Entries ℕ) (folders : List (List ℕ)) (includer : List ℕ) (n : IncludeName) (r own : Option ℕ) → is_rooted n.name ≡ false
    → own ≡ first_among entries (own_candidates includer n) → is_some own ≡ false
    → r ≡ first_among entries (map (λ folder. simple_path (in_folder folder n.name)) folders) → r ≡ first_among entries (candidates folders includer n)
folders_next entries folders includer n r own e h lacks f =
    f ∙ sym (among_back entries (own_candidates includer n) (others folders n) (subst (λ o. is_some o ≡ false) h lacks))
    ∙ ap (first_among entries) (sym (relative_is folders includer n e))

-- what is found, by the target

pub computed_none : (shelf : Shelf) (includer : List ℕ) (t : Target) → t.computed ≡ true → None ≡ found shelf includer t
unfolding found
computed_none shelf includer t e = rw e refl

pub no_text_none : (shelf : Shelf) (includer : List ℕ) (t : Target) → ¬ IsUtf8 t.name.name → None ≡ found shelf includer t
unfolding found
no_text_none shelf includer t lacks = rw (false_from_ne_true _ (λ e. lacks (IsUtf8-from_is_utf8 t.name.name e))) (either t.computed)
  where
    either : (b : Bool) → None ≡ cond (b || true) None (first_number shelf (candidates shelf.folders includer t.name))
    either true = refl
    either false = refl

pub first_candidate : (entries : Entries ℕ) (shelf : Shelf) (includer : List ℕ) (t : Target) (r : Option ℕ) → AreNumbers entries shelf → t.computed ≡ false → IsUtf8 t.name.name
    → r ≡ first_among entries (candidates shelf.folders includer t.name) → r ≡ found shelf includer t
unfolding found
first_candidate entries shelf includer t r h e u f =
    rw (e, is_utf8-from_IsUtf8 t.name.name u) (f ∙ among_is_first entries shelf h (candidates shelf.folders includer t.name))
