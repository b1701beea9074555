-- What includes want and take, as they are gone through.
use Rattle.std.proofs.Common.{◌≡◌, ℕ, zero, suc, ◌+◌, ◌<◌, ◌≤◌, Bool, true, false, cond, not, ◌&&◌, List, [], ◌∷◌, ◌++◌, Option, Some, None, All, Contains, is_some, option_map, map, flat_map, get_or, take, drop, length, slice_get, refl, sym, ap, ◌∙◌, subst, arith, bytes_eq, unwrap_or}
use Rattle.std.specs.Prelude.{if◌then◌else◌}
use Rattle.std.specs.Global.{Vec}
use Rattle.std.specs.List.{IsDistinct, cons_option, filter_map, find}
use Rattle.std.proofs.lemmas.List.{drop_all, get_or_append_left, length-append, length-map, map-append, take_all, take_more}
use Rattle.std.proofs.lemmas.List.Elements.{All-cons, All-contains_itself, All-nil, All-weaker, Contains-append_left, Contains-append_right}
use Rattle.std.proofs.lemmas.Option.{get_or_from_slice_get, slice_get_within}
use Rattle.std.proofs.lemmas.Slice.Eq.{bytes_eq-Decides}
use Rattle.indexmap.specs.IndexSet.{insert_all, insert_key}
use Rattle.cx_base.specs.declared.answers.Answer.{Answer}
use Rattle.cx_base.specs.declared.answers.Answer.TheVariants.{Absent}
use Rattle.cx_base.specs.declared.answers.SeenEntry.{SeenEntry}
use Rattle.cx_base.specs.Outside.{FilesState}
use Rattle.cx_lex.specs.declared.piece.Piece.{Piece}
use Rattle.cx_directive.specs.declared.include.IncludeName.{IncludeName}
use Rattle.cx_shelf.specs.Includes.{includes_of}
use Rattle.cx_shelf.proofs.IncludeLaws.{nothing_included}
use Rattle.cx_asking.specs.declared.limits.Limits.{Limits}
use Rattle.cx_asking.specs.declared.purpose.Purpose.TheVariants as purpose
use Rattle.cx_asking.specs.Asking.{is_open, text_of}
use Rattle.cx_asking.specs.Includes.{Texts, all_include_wishes, files_of, include_wishes, included, is_taken, tried, tried_by, wishes_of}
use Rattle.cx_asking.specs.Shapes.Asks.{Agree, Asks, Extends, Gathered, IsCut, Wants, first_open, is_known}
use Rattle.cx_asking.specs.Shapes.Indexed.{paths_seen}
use Rattle.cx_asking.specs.Shapes.Steps.{lists_of}
use Rattle.cx_asking.specs.Wishes.{is_there, look_up, wish}
use Rattle.cx_asking.proofs.AsksLaws.{both, closed_both, extends_of}
use Rattle.cx_asking.proofs.PathLists.{Begins, all_hold, one_alone}
use Rattle.cx_asking.proofs.RestLaws.{Rests, Stays, answer_stays, at_front, drop_none, each_begins, each_cut, each_ends, each_next, file_wish, goes_on, known_once_asked, rests_alike, rests_cut, rests_cut_here, rests_end, rests_itself, rests_then, stops, unless}
use Rattle.cx_asking.proofs.RoundLaws.{AreFound, all_reached, found_begins, none_followed, one_followed, past_from_none}
use Rattle.cx_asking.proofs.SeenLaws.{agree_before, extends_itself, extends_through, known_more, known_same}

-- the paths that are tried for the includes of a file

pub none_tried_by : (texts : Texts) (folders : List (List ℕ)) (file : List ℕ) → texts file ≡ [] → [] ≡ tried_by texts folders file
unfolding tried_by
none_tried_by texts folders file none =
    ap (map (tried folders file)) (sym nothing_included) ∙ ap (λ text. map (tried folders file) (includes_of text)) (sym none)

pub all_tried_by : (texts : Texts) (folders : List (List ℕ)) (file : List ℕ) (pieces : List Piece) (names : List IncludeName) (all : List (List (List ℕ))) (i : ℕ)
    → texts file ≡ pieces → names ≡ includes_of pieces → length names ≤ i → all ≡ map (tried folders file) (take i names)
    → all ≡ tried_by texts folders file
unfolding tried_by
all_tried_by texts folders file pieces names all i text are past so_far =
    so_far ∙ ap (map (tried folders file)) (take_all i names past ∙ are)
    ∙ ap (λ text. map (tried folders file) (includes_of text)) (sym text)

same_tried : (some others : Texts) (folders : List (List ℕ)) (file : List ℕ) → some file ≡ others file → tried_by some folders file ≡ tried_by others folders file
unfolding tried_by
same_tried some others folders file same = ap (λ text. map (tried folders file) (includes_of text)) same

-- a vector of vectors by its indices
pub item_at : (vs : List (Vec (List ℕ))) (i : ℕ) (v : Vec (List ℕ)) → i < length vs → v ≡ get_or vs i v
    → (i < length (lists_of vs)) × (v.items ≡ get_or (lists_of vs) i v.items)
item_at [] i v below at = absurd (omega arith)
item_at (w ∷ vs) zero v below at = (omega arith, ap (λ x. x.items) at)
item_at (w ∷ vs) (suc i) v below at = let h = item_at vs i v (omega arith) at in (omega (arith, h.0), h.1)

pub item_shown : (vs : List (Vec (List ℕ))) (i : ℕ) (v : Vec (List ℕ)) (x : List (List ℕ)) → i < length vs → v ≡ get_or vs i v → x ≡ v.items
    → (i < length (lists_of vs)) × (x ≡ get_or (lists_of vs) i x)
item_shown vs i v x below at shown =
    let h = item_at vs i v below at in
    (h.0, subst (λ y. y ≡ get_or (lists_of vs) i y) (sym shown) h.1)

pub tried_next : (folders : List (List ℕ)) (file : List ℕ) (names : List IncludeName) (i : ℕ) (name : IncludeName) (before after : List (Vec (List ℕ))) (v : Vec (List ℕ))
    → i < length names → name ≡ get_or names i name → lists_of before ≡ map (tried folders file) (take i names)
    → v.items ≡ tried folders file name → after ≡ before ++ v ∷ [] → lists_of after ≡ map (tried folders file) (take (i + 1) names)
tried_next folders file names i name before after v below at so_far made pushed =
    ap lists_of pushed ∙ map-append (λ v. v.items) before (v ∷ []) ∙ ap (λ l. l ++ v.items ∷ []) so_far
    ∙ ap (λ x. map (tried folders file) (take i names) ++ x ∷ []) made
    ∙ sym (map-append (tried folders file) (take i names) (name ∷ []))
    ∙ ap (map (tried folders file)) (ap (λ y. take i names ++ y ∷ []) at ∙ sym (take_more names i name below))

-- the asking of what is tried for several includes

module _ (limits : Limits) (vs : List (Vec (List ℕ))) where
  abbrev pub all_tried : Wants
  all_tried texts seen = flat_map (wishes_of seen) (lists_of vs)

  abbrev pub tried_left : ℕ → Wants
  tried_left i texts seen = flat_map (wishes_of seen) (drop i (lists_of vs))

  pub tried_begin : (a : Gathered) (files : FilesState) → Rests limits all_tried (tried_left 0) a a files files
  tried_begin a files = each_begins limits wishes_of (lists_of vs) a files

  module _ (a b : Gathered) (files between : FilesState) (i : ℕ) (r : Rests limits all_tried (tried_left i) a b files between) where
    pub tried_end : length vs ≤ i → Asks limits all_tried a b files between
    tried_end past =
        each_ends limits wishes_of (lists_of vs) all_tried a b files between i (omega (arith, past, length-map vs (λ v. v.items))) r

    module _ (v : Vec (List ℕ)) (x : List (List ℕ)) (below : i < length vs) (at : v ≡ get_or vs i v) (shown : x ≡ v.items) where
      pub tried_asked : (c : Gathered) (after : FilesState) → Asks limits (λ texts seen. wishes_of seen x) b c between after
          → Rests limits all_tried (tried_left (i + 1)) a c files after
      tried_asked c after p =
          let h = item_shown vs i v x below at shown in
          each_next limits wishes_of (lists_of vs) all_tried a b files between i x c after h.0 h.1 r p

      pub tried_cut : (after : FilesState) → IsCut limits (λ texts seen. wishes_of seen x) b between after → IsCut limits all_tried a files after
      tried_cut after p =
          let h = item_shown vs i v x below at shown in
          each_cut limits wishes_of (lists_of vs) all_tried a b files between i x after h.0 h.1 r p

-- the asking of candidates

module _ (limits : Limits) (paths : List (List ℕ)) where
  abbrev pub paths_left : ℕ → Wants
  paths_left i texts seen = wishes_of seen (drop i paths)

  abbrev pub all_paths : Wants
  all_paths texts seen = wishes_of seen paths

  abbrev taken_at : List ℕ → List SeenEntry → Bool
  taken_at path seen = is_taken seen path

  pub paths_begin : (a : Gathered) (files : FilesState) → Rests limits all_paths (paths_left 0) a a files files
  paths_begin a files =
      rests_alike limits all_paths a a files files all_paths (paths_left 0)
      (λ later texts e agree. ap (wishes_of later.seen) (drop_none paths)) (rests_itself limits all_paths a files)

  module _ (a b : Gathered) (files between : FilesState) (i : ℕ) (r : Rests limits all_paths (paths_left i) a b files between) where
    pub paths_end : length paths ≤ i → Asks limits all_paths a b files between
    unfolding wishes_of
    paths_end past =
        rests_end limits all_paths a b files between (paths_left i)
        (λ later texts e agree. ap (λ l. first_open limits later.seen (wishes_of later.seen l)) (drop_all i paths past)) r

    module _ (path : List ℕ) (below : i < length paths) (at : path ≡ get_or paths i path) where
      splits : Rests limits all_paths (both (file_wish path) (unless (taken_at path) (paths_left (i + 1)))) a b files between
      unfolding wishes_of
      splits = subst (λ l. Rests limits all_paths (λ texts seen. wishes_of seen l) a b files between) (at_front paths i path below at) r

      pub path_cut : (after : FilesState) → IsCut limits (file_wish path) b between after → IsCut limits all_paths a files after
      path_cut after p = rests_cut limits all_paths a b files between (file_wish path) (unless (taken_at path) (paths_left (i + 1))) after splits p

      module _ (c : Gathered) (after : FilesState) (p : Asks limits (file_wish path) b c between after) where
        stays : (t : Bool) → is_taken c.seen path ≡ t → Stays (taken_at path) c t
        stays t is later e = ap is_there (answer_stays c later path (known_once_asked limits path c p.done) e) ∙ is

        told : (answer : Option Answer) (r t : Bool) → answer ≡ look_up c.seen path → r ≡ is_there (unwrap_or answer Absent) → r ≡ t → is_taken c.seen path ≡ t
        told answer r t is tells known = ap (λ a. is_there (unwrap_or a Absent)) (sym is) ∙ sym tells ∙ known

        pub path_taken : (answer : Option Answer) (r : Bool) → answer ≡ look_up c.seen path → r ≡ is_there (unwrap_or answer Absent) → r ≡ true
            → Asks limits all_paths a c files after
        path_taken answer r is tells known =
            stops limits all_paths a b c files between after path (taken_at path) (paths_left (i + 1)) splits p
            (stays true (told answer r true is tells known))

        pub path_passed : (answer : Option Answer) (r : Bool) → answer ≡ look_up c.seen path → r ≡ is_there (unwrap_or answer Absent) → r ≡ false
            → Rests limits all_paths (paths_left (i + 1)) a c files after
        path_passed answer r is tells known =
            goes_on limits all_paths a b c files between after path (taken_at path) (paths_left (i + 1)) splits p
            (stays false (told answer r false is tells known))

-- the first candidate that is taken

module _ (seen : List SeenEntry) where
  -- whether a path is taken, as it was looked up
  pub taken_told : (path : List ℕ) (answer : Option Answer) (r t : Bool) → answer ≡ look_up seen path → r ≡ is_there (unwrap_or answer Absent) → r ≡ t → is_taken seen path ≡ t
  taken_told path answer r t is tells known = ap (λ a. is_there (unwrap_or a Absent)) (sym is) ∙ sym tells ∙ known

  pub taken_here : (paths : List (List ℕ)) (i : ℕ) (path : List ℕ) → i < length paths → path ≡ get_or paths i path
      → find (is_taken seen) (drop i paths) ≡ find (is_taken seen) paths → is_taken seen path ≡ true → Some path ≡ find (is_taken seen) paths
  taken_here paths i path below at so_far taken =
      sym (ap (λ t. cond t (Some path) (find (is_taken seen) (drop (i + 1) paths))) taken)
      ∙ ap (find (is_taken seen)) (sym (at_front paths i path below at)) ∙ so_far

  pub taken_later : (paths : List (List ℕ)) (i : ℕ) (path : List ℕ) → i < length paths → path ≡ get_or paths i path
      → find (is_taken seen) (drop i paths) ≡ find (is_taken seen) paths → is_taken seen path ≡ false
      → find (is_taken seen) (drop (i + 1) paths) ≡ find (is_taken seen) paths
  taken_later paths i path below at so_far free =
      sym (ap (λ t. cond t (Some path) (find (is_taken seen) (drop (i + 1) paths))) free)
      ∙ ap (find (is_taken seen)) (sym (at_front paths i path below at)) ∙ so_far

  pub none_taken : (paths : List (List ℕ)) (i : ℕ) → length paths ≤ i
      → find (is_taken seen) (drop i paths) ≡ find (is_taken seen) paths → None ≡ find (is_taken seen) paths
  none_taken paths i past so_far = ap (find (is_taken seen)) (sym (drop_all i paths past)) ∙ so_far

  -- what several includes take

  abbrev pub taken_of : List (Vec (List ℕ)) → List (List ℕ)
  taken_of vs = filter_map (find (is_taken seen)) (lists_of vs)

  abbrev with_one : List (List ℕ) → Option (List ℕ) → List (List ℕ)
  with_one found None = found
  with_one found (Some path) = insert_key bytes_eq found path

  one_more : (found rest : List (List ℕ)) (o : Option (List ℕ)) → insert_all bytes_eq found (cons_option o rest) ≡ insert_all bytes_eq (with_one found o) rest
  one_more found rest None = refl
  one_more found rest (Some path) = refl

  pub taking_begins : (found : List (List ℕ)) (vs : List (Vec (List ℕ))) → insert_all bytes_eq found (taken_of (drop 0 vs)) ≡ insert_all bytes_eq found (taken_of vs)
  taking_begins found vs = ap (λ l. insert_all bytes_eq found (taken_of l)) (drop_none vs)

  module _ (all found : List (List ℕ)) (vs : List (Vec (List ℕ))) (i : ℕ) (so_far : insert_all bytes_eq found (taken_of (drop i vs)) ≡ all) where
    pub taking_ends : length vs ≤ i → found ≡ all
    taking_ends past = sym (ap (λ l. insert_all bytes_eq found (taken_of l)) (drop_all i vs past)) ∙ so_far

    module _ (v : Vec (List ℕ)) (below : i < length vs) (at : v ≡ get_or vs i v) where
      takes : (o : Option (List ℕ)) → find (is_taken seen) v.items ≡ o → insert_all bytes_eq (with_one found o) (taken_of (drop (i + 1) vs)) ≡ all
      takes o is =
          sym (one_more found (taken_of (drop (i + 1) vs)) o)
          ∙ ap (λ t. insert_all bytes_eq found (cons_option t (taken_of (drop (i + 1) vs)))) (sym is)
          ∙ ap (λ l. insert_all bytes_eq found (taken_of l)) (sym (at_front vs i v below at)) ∙ so_far

      pub takes_none : (o : Option (List ℕ)) → o ≡ find (is_taken seen) v.items → o ≡ None → insert_all bytes_eq found (taken_of (drop (i + 1) vs)) ≡ all
      takes_none o is none = takes None (sym is ∙ none)

      pub takes_one : (o : Option (List ℕ)) (path : List ℕ) (new : List (List ℕ)) → o ≡ find (is_taken seen) v.items → o ≡ Some path
          → new ≡ insert_key bytes_eq found path → insert_all bytes_eq new (taken_of (drop (i + 1) vs)) ≡ all
      takes_one o path new is some added =
          ap (λ l. insert_all bytes_eq l (taken_of (drop (i + 1) vs))) added ∙ takes (Some path) (sym is ∙ some)

-- what is taken was seen

found_passes : (test : List ℕ → Bool) (paths : List (List ℕ)) (path : List ℕ) → find test paths ≡ Some path → test path ≡ true
found_passes test [] path e = absurd cc
found_passes test (p ∷ paths) path e = by (test p) refl e (found_passes test paths path)
  where
    by : (b : Bool) → test p ≡ b → cond b (Some p) (find test paths) ≡ Some path → (find test paths ≡ Some path → test path ≡ true) → test path ≡ true
    by true t e rest = let same : p ≡ path = cc in ap test (sym same) ∙ t
    by false t e rest = rest e

module _ (seen : List SeenEntry) where
  -- a path that was asked
  abbrev pub Known : List ℕ → Type 0
  Known path = is_known seen path ≡ true

  taken_known : (path : List ℕ) → is_taken seen path ≡ true → Known path
  taken_known path e = by (look_up seen path) e
    where
      by : (o : Option Answer) → is_there (unwrap_or o Absent) ≡ true → is_some o ≡ true
      by None e = absurd cc
      by (Some a) e = refl

  pub all_taken_known : (tried : List (List (List ℕ))) → All Known (filter_map (find (is_taken seen)) tried)
  all_taken_known [] = All-nil Known
  all_taken_known (paths ∷ tried) = by (find (is_taken seen) paths) refl (all_taken_known tried)
    where
      by : (o : Option (List ℕ)) → find (is_taken seen) paths ≡ o → All Known (filter_map (find (is_taken seen)) tried)
          → All Known (cons_option o (filter_map (find (is_taken seen)) tried))
      by None t rest = rest
      by (Some path) t rest = All-cons Known path (filter_map (find (is_taken seen)) tried) (taken_known path (found_passes (is_taken seen) paths path t)) rest

known_seen : (seen : List SeenEntry) (path : List ℕ) → is_known seen path ≡ true → Contains (paths_seen seen) path
unfolding look_up
known_seen [] path h = absurd cc
known_seen (e ∷ seen) path h = by (bytes_eq e.path path) refl h (known_seen seen path)
  where
    by : (b : Bool) → bytes_eq e.path path ≡ b → is_some (option_map (λ e. e.answer) (cond b (Some e) (find (λ e. bytes_eq e.path path) seen))) ≡ true
        → (is_known seen path ≡ true → Contains (paths_seen seen) path) → Contains (e.path ∷ paths_seen seen) path
    by true t h rest = (0, omega arith, (bytes_eq-Decides e.path path).0 t)
    by false t h rest = Contains-append_right (e.path ∷ []) (paths_seen seen) path (rest h)

-- candidates that are closed

module _ (limits : Limits) (seen more : List SeenEntry) where
  taken_stays : (paths : List (List ℕ)) → first_open limits seen (wishes_of seen paths) ≡ None → find (is_taken (seen ++ more)) paths ≡ find (is_taken seen) paths
  unfolding wishes_of is_open
  taken_stays [] e = refl
  taken_stays (path ∷ paths) e = by (is_known seen path) refl e (taken_stays paths)
    where
      tail : (b : Bool) → is_taken seen path ≡ b → first_open limits seen (if b then [] else wishes_of seen paths) ≡ None
          → (first_open limits seen (wishes_of seen paths) ≡ None → find (is_taken (seen ++ more)) paths ≡ find (is_taken seen) paths)
          → cond b (Some path) (find (is_taken (seen ++ more)) paths) ≡ cond b (Some path) (find (is_taken seen) paths)
      tail true t e rest = refl
      tail false t e rest = rest e

      by : (k : Bool) → is_known seen path ≡ k
          → cond (not k && true) (Some (wish purpose.File path)) (first_open limits seen (if is_taken seen path then [] else wishes_of seen paths)) ≡ None
          → (first_open limits seen (wishes_of seen paths) ≡ None → find (is_taken (seen ++ more)) paths ≡ find (is_taken seen) paths)
          → cond (is_taken (seen ++ more) path) (Some path) (find (is_taken (seen ++ more)) paths) ≡ cond (is_taken seen path) (Some path) (find (is_taken seen) paths)
      by false t e rest = absurd cc
      by true t e rest =
          ap (λ a. cond (is_there (unwrap_or a Absent)) (Some path) (find (is_taken (seen ++ more)) paths)) (known_same seen more path t)
          ∙ tail (is_taken seen path) refl e rest

  all_taken_stay : (tried : List (List (List ℕ))) → first_open limits seen (flat_map (wishes_of seen) tried) ≡ None
      → filter_map (find (is_taken (seen ++ more))) tried ≡ filter_map (find (is_taken seen)) tried
  all_taken_stay [] e = refl
  all_taken_stay (paths ∷ tried) e =
      let h = closed_both limits seen (wishes_of seen paths) (flat_map (wishes_of seen) tried) e in
      ap (λ o. cons_option o (filter_map (find (is_taken (seen ++ more))) tried)) (taken_stays paths h.0)
      ∙ ap (cons_option (find (is_taken seen) paths)) (all_taken_stay tried h.1)

-- files, breadth first

module _ (texts : Texts) (folders : List (List ℕ)) (seen : List SeenEntry) (units : List (List ℕ)) (apart : IsDistinct bytes_eq units) where
  abbrev next_of : List ℕ → List (List ℕ)
  next_of = included texts folders seen

  abbrev within_all : List (List ℕ)
  within_all = units ++ paths_seen seen

  enough : length within_all ≤ length units + length seen
  enough = omega (arith, length-append units (paths_seen seen), length-map seen (λ e. e.path))

  starts_inside : All (Contains within_all) units
  starts_inside =
      All-weaker (Contains units) (Contains within_all) (λ path h. Contains-append_left units (paths_seen seen) path h) units (All-contains_itself units)

  leads : (path : List ℕ) → All (Contains within_all) (next_of path)
  unfolding included
  leads path =
      All-weaker (Known seen) (Contains within_all) (λ p h. Contains-append_right units (paths_seen seen) p (known_seen seen p h))
      (filter_map (find (is_taken seen)) (tried_by texts folders path)) (all_taken_known seen (tried_by texts folders path))

  pub files_begin : (k : ℕ) (found : List (List ℕ)) → AreFound next_of units k found → Begins (files_of texts folders seen units) found
  unfolding files_of
  files_begin k found are = found_begins next_of units within_all (length seen) enough apart starts_inside leads k found are

  pub all_files : (k : ℕ) (found : List (List ℕ)) → AreFound next_of units k found → slice_get found k ≡ None → found ≡ files_of texts folders seen units
  unfolding files_of
  all_files k found are past =
      all_reached next_of units within_all (length seen) enough apart starts_inside leads k found are (past_from_none found k past)

  -- the file whose turn it is
  pub file_in_turn : (k : ℕ) (found : List (List ℕ)) (file : List ℕ) → AreFound next_of units k found → slice_get found k ≡ Some file
      → drop k (files_of texts folders seen units) ≡ file ∷ drop (k + 1) (files_of texts folders seen units)
  file_in_turn k found file are at =
      let more = files_begin k found are in
      let inside : k < length found = slice_get_within found k file at in
      let here : k < length (files_of texts folders seen units) = omega (arith, ap length more.1, length-append found more.0) in
      at_front (files_of texts folders seen units) k file here
      (sym (get_or_from_slice_get found k file file at) ∙ sym (get_or_append_left found more.0 file k inside) ∙ ap (λ l. get_or l k file) (sym more.1))

-- the files of a closure, where nothing more is asked

pub closure_begins : (texts : Texts) (folders : List (List ℕ)) (seen : List SeenEntry) (unit : List ℕ) → AreFound (included texts folders seen) (unit ∷ []) 0 (unit ∷ [])
closure_begins texts folders seen unit = none_followed (included texts folders seen) (unit ∷ [])

pub closure_next : (texts : Texts) (folders : List (List ℕ)) (seen : List SeenEntry) (units : List (List ℕ)) (k : ℕ) (found new : List (List ℕ)) (file : List ℕ)
    (tried : List (List (List ℕ))) (o : Option (List ℕ)) → AreFound (included texts folders seen) units k found
    → o ≡ slice_get found k → o ≡ Some file → tried ≡ tried_by texts folders file
    → new ≡ insert_all bytes_eq found (filter_map (find (is_taken seen)) tried) → AreFound (included texts folders seen) units (k + 1) new
unfolding included
closure_next texts folders seen units k found new file tried o are at is are_tried added =
    subst (AreFound (included texts folders seen) units (k + 1))
    (sym (added ∙ ap (λ l. insert_all bytes_eq found (filter_map (find (is_taken seen)) l)) are_tried))
    (one_followed (included texts folders seen) units k found file are (sym at ∙ is))

pub closure_ends : (texts : Texts) (folders : List (List ℕ)) (seen : List SeenEntry) (unit : List ℕ) (k : ℕ) (found : List (List ℕ)) (o : Option (List ℕ))
    → AreFound (included texts folders seen) (unit ∷ []) k found → o ≡ slice_get found k → o ≡ None → found ≡ files_of texts folders seen (unit ∷ [])
closure_ends texts folders seen unit k found o are at is =
    all_files texts folders seen (unit ∷ []) (one_alone unit) k found are (sym at ∙ is)

-- the loop over files whose includes are asked

abbrev pub all_includes : List (List ℕ) → List (List ℕ) → Wants
all_includes folders units texts seen = all_include_wishes texts folders seen units

abbrev pub includes_left : List (List ℕ) → List (List ℕ) → ℕ → Wants
includes_left folders units k texts seen = flat_map (include_wishes texts folders seen) (drop k (files_of texts folders seen units))

abbrev pub own_includes : List (List (List ℕ)) → Wants
own_includes tried texts seen = flat_map (wishes_of seen) tried

-- So many of the files were gone through, and what was found so far is what they lead to, whatever is asked later.
pub record Follows (limits : Limits) (folders units : List (List ℕ)) (a b : Gathered) (files between : FilesState) (k : ℕ) (found : List (List ℕ)) : Type 0 where
  pub rests : Rests limits (all_includes folders units) (includes_left folders units k) a b files between
  pub follows : (later : Gathered) (texts : Texts) → Extends b later → Agree texts later → AreFound (included texts folders later.seen) units k found
  pub known : All (Known b.seen) found

pub follows_begin : (limits : Limits) (folders units : List (List ℕ)) (a : Gathered) (files : FilesState) → All (Known a.seen) units
    → Follows limits folders units a a files files 0 units
unfolding all_include_wishes
follows_begin limits folders units a files known = record {
  rests = rests_alike limits (all_includes folders units) a a files files (all_includes folders units) (includes_left folders units 0)
      (λ later texts e agree. ap (flat_map (include_wishes texts folders later.seen)) (drop_none (files_of texts folders later.seen units)))
      (rests_itself limits (all_includes folders units) a files);
  follows = λ later texts e agree. none_followed (included texts folders later.seen) units;
  known = known;
}

module _ (limits : Limits) (folders units : List (List ℕ)) (a b : Gathered) (files between : FilesState) (k : ℕ) (found : List (List ℕ))
    (f : Follows limits folders units a b files between k found) where
  pub follows_cut : IsCut limits (all_includes folders units) a files between
  follows_cut = rests_cut_here limits (all_includes folders units) a b files between (includes_left folders units k) f.rests

  module _ (apart : IsDistinct bytes_eq units) (o : Option (List ℕ)) (at : o ≡ slice_get found k) where
    pub follows_end : o ≡ None → Asks limits (all_includes folders units) a b files between
    follows_end is =
        rests_end limits (all_includes folders units) a b files between (includes_left folders units k)
        (λ later texts e agree.
        let all : found ≡ files_of texts folders later.seen units =
        all_files texts folders later.seen units apart k found (f.follows later texts e agree) (sym at ∙ is) in
        let past : length (files_of texts folders later.seen units) ≤ k = subst (λ l. length l ≤ k) all (past_from_none found k (sym at ∙ is)) in
        ap (λ l. first_open limits later.seen (flat_map (include_wishes texts folders later.seen) l)) (drop_all k (files_of texts folders later.seen units) past))
        f.rests

    module _ (file : List ℕ) (tried : List (List (List ℕ))) (is : o ≡ Some file) (are : tried ≡ tried_by (text_of b.shelf) folders file) where
      known_file : Known b.seen file
      known_file =
          let inside : k < length found = slice_get_within found k file (sym at ∙ is) in
          subst (Known b.seen) (get_or_from_slice_get found k file file (sym at ∙ is)) (f.known k file inside)

      tried_later : (later : Gathered) (texts : Texts) → Extends b later → Agree texts later → tried_by texts folders file ≡ tried
      tried_later later texts e agree =
          same_tried texts (text_of b.shelf) folders file (agree_before texts b later e agree file known_file) ∙ sym are

      includes_split : Rests limits (all_includes folders units) (both (own_includes tried) (includes_left folders units (k + 1))) a b files between
      includes_split =
          rests_alike limits (all_includes folders units) a b files between (includes_left folders units k)
          (both (own_includes tried) (includes_left folders units (k + 1)))
          (λ later texts e agree.
          sym (ap (flat_map (include_wishes texts folders later.seen))
          (file_in_turn texts folders later.seen units apart k found file (f.follows later texts e agree) (sym at ∙ is))
          ∙ ap (λ l. flat_map (wishes_of later.seen) l ++ flat_map (include_wishes texts folders later.seen) (drop (k + 1) (files_of texts folders later.seen units)))
          (tried_later later texts e agree)))
          f.rests

      pub file_cut : (after : FilesState) → IsCut limits (own_includes tried) b between after → IsCut limits (all_includes folders units) a files after
      file_cut after p =
          rests_cut limits (all_includes folders units) a b files between (own_includes tried) (includes_left folders units (k + 1)) after includes_split p

      module _ (c : Gathered) (after : FilesState) (p : Asks limits (own_includes tried) b c between after) where
        further : Extends b c
        further = extends_of limits (own_includes tried) b c between after [] p.went

        rests_further : Rests limits (all_includes folders units) (includes_left folders units (k + 1)) a c files after
        rests_further =
            rests_then limits (all_includes folders units) a b files between (own_includes tried) (includes_left folders units (k + 1)) c after includes_split p

        pub file_asked_cut : IsCut limits (all_includes folders units) a files after
        file_asked_cut = rests_cut_here limits (all_includes folders units) a c files after (includes_left folders units (k + 1)) rests_further

        settled : (later : Gathered) (texts : Texts) → Extends c later → Agree texts later
            → filter_map (find (is_taken c.seen)) tried ≡ included texts folders later.seen file
        unfolding included
        settled later texts e agree =
            sym (ap (λ s. filter_map (find (is_taken s)) tried) e.seen
            ∙ all_taken_stay limits c.seen e.more tried (p.done c (text_of c.shelf) (extends_itself c) (λ q t. refl)))
            ∙ ap (filter_map (find (is_taken later.seen))) (sym (tried_later later texts (extends_through b c later further e) agree))

        pub follows_next : (new : List (List ℕ)) → new ≡ insert_all bytes_eq found (filter_map (find (is_taken c.seen)) tried)
            → Follows limits folders units a c files after (k + 1) new
        follows_next new added = record {
          rests = rests_further;
          follows = λ later texts e agree.
              subst (AreFound (included texts folders later.seen) units (k + 1))
              (sym (added ∙ ap (insert_all bytes_eq found) (settled later texts e agree)))
              (one_followed (included texts folders later.seen) units k found file
              (f.follows later texts (extends_through b c later further e) agree) (sym at ∙ is));
          known = subst (All (Known c.seen)) (sym added)
              (all_hold (Known c.seen) found (filter_map (find (is_taken c.seen)) tried)
              (All-weaker (Known b.seen) (Known c.seen) (λ path h. ap (λ s. is_known s path) further.seen ∙ known_more b.seen further.more path h) found f.known)
              (all_taken_known c.seen tried));
        }
