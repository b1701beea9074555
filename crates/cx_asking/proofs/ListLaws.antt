-- The files that list paths, one after another.
use Rattle.std.proofs.Common.{◌≡◌, ℕ, zero, suc, ◌+◌, ◌<◌, ◌≤◌, List, [], ◌∷◌, ◌++◌, Bool, true, false, cond, not, Option, Some, None, All, IsTrue, is_some, refl, sym, ap, ◌∙◌, subst, map, filter, take, drop, length, get_or, arith, bytes_eq, unwrap_or, Bor}
use Rattle.std.proofs.lemmas.List.{append-nil, append_assoc, drop_all, map-append, take_more, take_all}
use Rattle.std.proofs.lemmas.List.Elements.{All-cons, All-head, All-nil, All-tail, filter-append}
use Rattle.std.proofs.lemmas.Grind.{flat_map-append}
use Rattle.std.specs.List.{find, flat_map}
use Rattle.std.specs.Option.{option_map}
use Rattle.std.specs.Prelude.{if◌then◌else◌}
use Rattle.std.specs.Str.{is_utf8}
use Rattle.cx_base.specs.declared.answers.Answer.{Answer}
use Rattle.cx_base.specs.declared.answers.Answer.TheVariants.{Present, Absent}
use Rattle.cx_base.specs.declared.answers.SeenEntry.{SeenEntry}
use Rattle.cx_base.specs.Outside.{FilesState}
use Rattle.cx_base.specs.Simple.{simple_path}
use Rattle.cx_options.specs.declared.answer.ListWord.{ListWord}
use Rattle.cx_options.specs.declared.answer.Options.{Options}
use Rattle.cx_asking.specs.declared.limits.Limits.{Limits}
use Rattle.cx_asking.specs.declared.list_fault.FileFault.{FileFault}
use Rattle.cx_asking.specs.declared.list_fault.ListFault.{ListFault}
use Rattle.cx_asking.specs.Answers.{AreShort, IsShort}
use Rattle.cx_asking.specs.Lists.{bad_line, fault_of, is_refused, line_fault, lines, paths_of}
use Rattle.cx_asking.specs.Shapes.Asks.{Asks, Gathered, IsCut, Wants, first_open}
use Rattle.cx_asking.specs.Wishes.{answer_in, fault_at, given_paths, list_fault, list_wishes, look_up}
use Rattle.cx_asking.proofs.AsksLaws.{both}
use Rattle.cx_asking.proofs.RestLaws.{Rests, Stays, answer_stays, at_front, drop_none, file_wish, goes_on, known_once_asked, rests_alike, rests_cut, rests_cut_here, rests_end, rests_itself, stops, unless}

-- the first line that is refused

pub line_bad : (n : ℕ) (whole rest left : List (List ℕ)) (line : List ℕ) → bad_line n rest ≡ bad_line 1 whole
    → rest ≡ line ∷ left → is_utf8 line ≡ false → Some n ≡ bad_line 1 whole
unfolding bad_line
line_bad n whole rest left line so_far at bad =
    sym (ap (λ b. if b then bad_line (n + 1) left else Some n) bad) ∙ ap (bad_line n) (sym at) ∙ so_far

pub line_good : (n : ℕ) (whole rest left : List (List ℕ)) (line : List ℕ) → bad_line n rest ≡ bad_line 1 whole
    → rest ≡ line ∷ left → is_utf8 line ≡ true → bad_line (n + 1) left ≡ bad_line 1 whole
unfolding bad_line
line_good n whole rest left line so_far at good =
    sym (ap (λ b. if b then bad_line (n + 1) left else Some n) good) ∙ ap (bad_line n) (sym at) ∙ so_far

pub no_line_bad : (n : ℕ) (whole rest : List (List ℕ)) → bad_line n rest ≡ bad_line 1 whole → rest ≡ [] → None ≡ bad_line 1 whole
unfolding bad_line
no_line_bad n whole rest so_far at = ap (bad_line n) (sym at) ∙ so_far

all_lines_good : (n : ℕ) (lines : List (List ℕ)) → bad_line n lines ≡ None → All (λ line. IsTrue (is_utf8 line)) lines
unfolding bad_line
all_lines_good n [] e = All-nil (λ line. IsTrue (is_utf8 line))
all_lines_good n (line ∷ lines) e = by (is_utf8 line) refl e (all_lines_good (n + 1) lines)
  where
    by : (b : Bool) → is_utf8 line ≡ b → (if b then bad_line (n + 1) lines else Some n) ≡ None
        → (bad_line (n + 1) lines ≡ None → All (λ line. IsTrue (is_utf8 line)) lines) → All (λ line. IsTrue (is_utf8 line)) (line ∷ lines)
    by true t e rest = All-cons (λ line. IsTrue (is_utf8 line)) line lines t (rest e)
    by false t e rest = absurd cc

-- why a file is refused

pub bad_file : (bytes : List ℕ) (line : Option ℕ) (n : ℕ) → line ≡ bad_line 1 (lines bytes) → line ≡ Some n
    → Some (line_fault n) ≡ fault_of (Present bytes)
unfolding fault_of
bad_file bytes line n is at = ap (λ o. option_map line_fault o) (sym at ∙ is)

pub good_file : (bytes : List ℕ) (line : Option ℕ) → line ≡ bad_line 1 (lines bytes) → line ≡ None → None ≡ fault_of (Present bytes)
unfolding fault_of
good_file bytes line is at = ap (λ o. option_map line_fault o) (sym at ∙ is)

pub all_utf8 : (bytes : List ℕ) → fault_of (Present bytes) ≡ None → All (λ line. IsTrue (is_utf8 line)) (lines bytes)
unfolding fault_of
all_utf8 bytes e = all_lines_good 1 (lines bytes) (by (bad_line 1 (lines bytes)) refl e)
  where
    by : (o : Option ℕ) → bad_line 1 (lines bytes) ≡ o → option_map line_fault o ≡ None → bad_line 1 (lines bytes) ≡ None
    by None t e = t
    by (Some n) t e = absurd cc

looked_up_short : (seen : List SeenEntry) (path : List ℕ) → AreShort seen → IsShort (unwrap_or (look_up seen path) Absent)
unfolding look_up
looked_up_short [] path short = tt
looked_up_short (e ∷ seen) path short =
    by (bytes_eq e.path path) (looked_up_short seen path (All-tail (λ x. IsShort x.answer) e seen short))
  where
    by : (b : Bool) → IsShort (unwrap_or (option_map (λ x. x.answer) (find (λ x. bytes_eq x.path path) seen)) Absent)
        → IsShort (unwrap_or (option_map (λ x. x.answer) (cond b (Some e) (find (λ x. bytes_eq x.path path) seen))) Absent)
    by true rest = All-head (λ x. IsShort x.answer) e seen short
    by false rest = rest

-- the first list that is refused

module _ (seen : List SeenEntry) where
  -- why a list is refused
  abbrev pub fault_in : ListWord → Option FileFault
  fault_in list = fault_of (answer_in seen (simple_path list.path))

  pub answered : (list : ListWord) (path : List ℕ) (answer : Option Answer) (fault o : Option FileFault)
      → path ≡ simple_path list.path → answer ≡ look_up seen path
      → fault ≡ fault_of (unwrap_or answer Absent) → fault ≡ o → fault_in list ≡ o
  answered list path answer fault o at is tells known =
      ap (λ p. fault_of (answer_in seen p)) (sym at) ∙ ap (λ a. fault_of (unwrap_or a Absent)) (sym is)
      ∙ sym tells ∙ known

  pub front_passed : (list : ListWord) (lists : List ListWord) → fault_in list ≡ None → list_fault seen (list ∷ lists) ≡ list_fault seen lists
  unfolding list_fault
  front_passed list lists e = rw e refl

  pub front_refused : (list : ListWord) (lists : List ListWord) (fault : FileFault) → fault_in list ≡ Some fault
      → list_fault seen (list ∷ lists) ≡ Some (fault_at list fault)
  unfolding list_fault
  front_refused list lists fault e = rw e refl

  pub first_fault : (lists : List ListWord) (i : ℕ) (list : ListWord) (fault : FileFault) (path : List ℕ)
      → i < length lists → list ≡ get_or lists i list
      → list_fault seen (drop i lists) ≡ list_fault seen lists → fault_in list ≡ Some fault → path ≡ list.path
      → Some (record { word = list.word; path = path; fault = fault }) ≡ list_fault seen lists
  first_fault lists i list fault path below at so_far bad copied =
      ap (λ p. Some (record { word = list.word; path = p; fault = fault })) copied
      ∙ sym (front_refused list (drop (i + 1) lists) fault bad)
      ∙ ap (list_fault seen) (sym (at_front lists i list below at)) ∙ so_far

  pub next_fault : (lists : List ListWord) (i : ℕ) (list : ListWord) → i < length lists → list ≡ get_or lists i list
      → list_fault seen (drop i lists) ≡ list_fault seen lists → fault_in list ≡ None
      → list_fault seen (drop (i + 1) lists) ≡ list_fault seen lists
  next_fault lists i list below at so_far good =
      sym (front_passed list (drop (i + 1) lists) good)
      ∙ ap (list_fault seen) (sym (at_front lists i list below at)) ∙ so_far

  pub no_fault : (lists : List ListWord) (i : ℕ) → length lists ≤ i
      → list_fault seen (drop i lists) ≡ list_fault seen lists → None ≡ list_fault seen lists
  unfolding list_fault
  no_fault lists i past so_far = ap (list_fault seen) (sym (drop_all i lists past)) ∙ so_far

  pub fault_begins : (lists : List ListWord) → list_fault seen (drop 0 lists) ≡ list_fault seen lists
  fault_begins lists = ap (list_fault seen) (drop_none lists)

  -- where none is refused, none of them is

  none_left : (list : ListWord) (lists : List ListWord) → list_fault seen (list ∷ lists) ≡ None → (fault_in list ≡ None) × (list_fault seen lists ≡ None)
  none_left list lists e = by (fault_in list) refl
    where
      by : (o : Option FileFault) → fault_in list ≡ o → (fault_in list ≡ None) × (list_fault seen lists ≡ None)
      by None t = (t, sym (front_passed list lists t) ∙ e)
      by (Some fault) t = let h = front_refused list lists fault t in absurd cc

  pub none_bad : (lists : List ListWord) (i : ℕ) (list : ListWord) → i < length lists → list ≡ get_or lists i list
      → list_fault seen lists ≡ None → fault_in list ≡ None
  none_bad [] i list below at none = absurd (omega arith)
  none_bad (l ∷ lists) zero list below at none = ap fault_in at ∙ (none_left l lists none).0
  none_bad (l ∷ lists) (suc i) list below at none = none_bad lists i list (omega arith) at (none_left l lists none).1

  not_refused : (lists : List ListWord) → is_some (list_fault seen lists) ≡ false → list_fault seen lists ≡ None
  not_refused lists e = by (list_fault seen lists) refl e
    where
      by : (o : Option ListFault) → list_fault seen lists ≡ o → is_some o ≡ false → list_fault seen lists ≡ None
      by None t e = t
      by (Some fault) t e = absurd cc

  -- so each of them is a list that names paths
  pub sound_list : (lists : List ListWord) (i : ℕ) (list : ListWord) (path : List ℕ) (answer : Option Answer)
      → i < length lists → list ≡ get_or lists i list → is_some (list_fault seen lists) ≡ false
      → path ≡ simple_path list.path → answer ≡ look_up seen path → fault_of (unwrap_or answer Absent) ≡ None
  sound_list lists i list path answer below at none to is =
      ap (λ a. fault_of (unwrap_or a Absent)) is ∙ ap (λ p. fault_of (answer_in seen p)) to ∙ none_bad lists i list below at (not_refused lists none)

  -- answers that were seen are short
  pub short_answer : AreShort seen → (path : List ℕ) (answer : Option Answer) → answer ≡ look_up seen path → IsShort (unwrap_or answer Absent)
  short_answer short path answer is = subst (λ a. IsShort (unwrap_or a Absent)) (sym is) (looked_up_short seen path short)

  -- the paths of the lists

  -- those of one of them
  abbrev named_by : ListWord → List (List ℕ)
  named_by l = paths_of (answer_in seen (simple_path l.path))

  pub next_list : (start before after : List (List ℕ)) (lists : List ListWord) (i : ℕ) (list : ListWord)
      → i < length lists → list ≡ get_or lists i list
      → before ≡ start ++ map simple_path (flat_map named_by (take i lists))
      → after ≡ before ++ map simple_path (named_by list)
      → after ≡ start ++ map simple_path (flat_map named_by (take (i + 1) lists))
  next_list start before after lists i list below at so_far more =
      more ∙ ap (λ ps. ps ++ map simple_path (named_by list)) so_far
      ∙ append_assoc start (map simple_path (flat_map named_by (take i lists))) (map simple_path (named_by list))
      ∙ ap (λ ps. start ++ ps)
      (sym (map-append simple_path (flat_map named_by (take i lists)) (named_by list))
      ∙ ap (map simple_path)
      (ap (λ ps. flat_map named_by (take i lists) ++ ps) (sym (append-nil (named_by list)))
      ∙ sym (flat_map-append named_by (take i lists) (list ∷ []))
      ∙ ap (flat_map named_by) (ap (λ y. take i lists ++ y ∷ []) at ∙ sym (take_more lists i list below))))

  pub named_as : (list : ListWord) (path : List ℕ) (answer : Option Answer)
      → path ≡ simple_path list.path → answer ≡ look_up seen path → paths_of (unwrap_or answer Absent) ≡ named_by list
  named_as list path answer at is = ap (λ a. paths_of (unwrap_or a Absent)) is ∙ ap (λ p. paths_of (answer_in seen p)) at

  pub all_given : (options : Options) (words : List (List ℕ)) (lists : List ListWord) (start all : List (List ℕ)) (i j : ℕ)
      → words ≡ options.paths → lists ≡ options.lists → length words ≤ i → length lists ≤ j
      → start ≡ map simple_path (take i words) → all ≡ start ++ map simple_path (flat_map named_by (take j lists))
      → all ≡ map simple_path (given_paths seen options)
  unfolding given_paths
  all_given options words lists start all i j these those past_words past_lists first all_of_them =
      all_of_them ∙ ap (λ ps. ps ++ map simple_path (flat_map named_by (take j lists))) (first ∙ ap (map simple_path) (take_all i words past_words ∙ these))
      ∙ ap (λ ls. map simple_path options.paths ++ map simple_path (flat_map named_by ls)) (take_all j lists past_lists ∙ those)
      ∙ sym (map-append simple_path options.paths (flat_map named_by options.lists))

-- the asking of the lists

module _ (limits : Limits) (lists : List ListWord) where
  abbrev pub lists_left : ℕ → Wants
  lists_left i texts seen = list_wishes seen (drop i lists)

  abbrev pub all_lists : Wants
  all_lists texts seen = list_wishes seen lists

  abbrev refused_at : List ℕ → List SeenEntry → Bool
  refused_at path seen = is_refused (answer_in seen path)

  pub lists_begin : (a : Gathered) (files : FilesState) → Rests limits all_lists (lists_left 0) a a files files
  lists_begin a files =
      rests_alike limits all_lists a a files files all_lists (lists_left 0)
      (λ later texts e agree. ap (list_wishes later.seen) (drop_none lists)) (rests_itself limits all_lists a files)

  module _ (a b : Gathered) (files between : FilesState) (i : ℕ) (r : Rests limits all_lists (lists_left i) a b files between) where
    pub lists_cut : IsCut limits all_lists a files between
    lists_cut = rests_cut_here limits all_lists a b files between (lists_left i) r

    pub lists_end : length lists ≤ i → Asks limits all_lists a b files between
    unfolding list_wishes
    lists_end past =
        rests_end limits all_lists a b files between (lists_left i)
        (λ later texts e agree. ap (λ l. first_open limits later.seen (list_wishes later.seen l)) (drop_all i lists past)) r

    module _ (list : ListWord) (path : List ℕ) (below : i < length lists) (at : list ≡ get_or lists i list) (to : path ≡ simple_path list.path) where
      splits : Rests limits all_lists (both (file_wish path) (unless (refused_at path) (lists_left (i + 1)))) a b files between
      unfolding list_wishes
      splits =
          subst (λ p. Rests limits all_lists (both (file_wish p) (unless (refused_at p) (lists_left (i + 1)))) a b files between) (sym to)
          (subst (λ l. Rests limits all_lists (λ texts seen. list_wishes seen l) a b files between) (at_front lists i list below at) r)

      pub list_cut : (after : FilesState) → IsCut limits (file_wish path) b between after → IsCut limits all_lists a files after
      list_cut after p = rests_cut limits all_lists a b files between (file_wish path) (unless (refused_at path) (lists_left (i + 1))) after splits p

      module _ (c : Gathered) (after : FilesState) (p : Asks limits (file_wish path) b c between after) where
        stays : (t : Bool) → is_refused (answer_in c.seen path) ≡ t → Stays (refused_at path) c t
        stays t is later e = ap is_refused (answer_stays c later path (known_once_asked limits path c p.done) e) ∙ is

        told : (answer : Option Answer) (fault : Option FileFault) (t : Bool) → answer ≡ look_up c.seen path
            → fault ≡ fault_of (unwrap_or answer Absent) → is_some fault ≡ t → is_refused (answer_in c.seen path) ≡ t
        told answer fault t is tells known =
            ap (λ a. is_refused (unwrap_or a Absent)) (sym is) ∙ ap is_some (sym tells) ∙ known

        pub list_refused : (answer : Option Answer) (fault : Option FileFault) → answer ≡ look_up c.seen path
            → fault ≡ fault_of (unwrap_or answer Absent) → is_some fault ≡ true → Asks limits all_lists a c files after
        list_refused answer fault is tells known =
            stops limits all_lists a b c files between after path (refused_at path) (lists_left (i + 1)) splits p
            (stays true (told answer fault true is tells known))

        pub list_read : (answer : Option Answer) (fault : Option FileFault) → answer ≡ look_up c.seen path
            → fault ≡ fault_of (unwrap_or answer Absent) → is_some fault ≡ false → Rests limits all_lists (lists_left (i + 1)) a c files after
        list_read answer fault is tells known =
            goes_on limits all_lists a b c files between after path (refused_at path) (lists_left (i + 1)) splits p
            (stays false (told answer fault false is tells known))

-- the lines of a list

abbrev is_path : List ℕ → Bool
is_path line = not (bytes_eq line [])

one_line : (line : List ℕ) (b : Bool) → is_path line ≡ b
    → map simple_path (filter is_path (line ∷ [])) ≡ cond b (simple_path line ∷ []) []
one_line line b e = ap (λ b. map simple_path (cond b (line ∷ []) [])) e ∙ by b
  where
    by : (b : Bool) → map simple_path (cond b (line ∷ []) []) ≡ cond b (simple_path line ∷ []) []
    by true = refl
    by false = refl

next_line : (start items : List (List ℕ)) (lines : List (List ℕ)) (line : List ℕ) (b : Bool)
    → items ≡ start ++ map simple_path (filter is_path lines) → is_path line ≡ b
    → items ++ cond b (simple_path line ∷ []) [] ≡ start ++ map simple_path (filter is_path (lines ++ line ∷ []))
next_line start items lines line b so_far e =
    ap (λ ps. ps ++ cond b (simple_path line ∷ []) []) so_far
    ∙ append_assoc start (map simple_path (filter is_path lines)) (cond b (simple_path line ∷ []) [])
    ∙ ap (λ ps. start ++ ps)
    (ap (λ ps. map simple_path (filter is_path lines) ++ ps) (sym (one_line line b e))
    ∙ sym (map-append simple_path (filter is_path lines) (filter is_path (line ∷ [])))
    ∙ ap (map simple_path) (sym (filter-append is_path lines (line ∷ []))))

-- a line that is empty is passed over
pub line_passed : (start items : List (List ℕ)) (yielded : List (Bor (List ℕ))) (line : Bor (List ℕ))
    → items ≡ start ++ map simple_path (filter is_path (map (λ x. x.now) yielded)) → is_path line.now ≡ false
    → items ≡ start ++ map simple_path (filter is_path (map (λ x. x.now) (yielded ++ line ∷ [])))
line_passed start items yielded line so_far e =
    sym (append-nil items)
    ∙ next_line start items (map (λ x. x.now) yielded) line.now false so_far e
    ∙ ap (λ ls. start ++ map simple_path (filter is_path ls)) (sym (map-append (λ x. x.now) yielded (line ∷ [])))

-- and another gives a path
pub line_pushed : (start items new : List (List ℕ)) (yielded : List (Bor (List ℕ))) (line : Bor (List ℕ))
    → items ≡ start ++ map simple_path (filter is_path (map (λ x. x.now) yielded)) → is_path line.now ≡ true
    → new ≡ items ++ simple_path line.now ∷ []
    → new ≡ start ++ map simple_path (filter is_path (map (λ x. x.now) (yielded ++ line ∷ [])))
line_pushed start items new yielded line so_far e pushed =
    pushed ∙ next_line start items (map (λ x. x.now) yielded) line.now true so_far e
    ∙ ap (λ ls. start ++ map simple_path (filter is_path ls)) (sym (map-append (λ x. x.now) yielded (line ∷ [])))
