-- Units with those of more wishes.
use Rattle.std.proofs.Common.{◌≡◌, ◌≢◌, ℕ, zero, suc, ◌+◌, ◌-◌, ◌<◌, ◌≤◌, List, [], ◌∷◌, ◌++◌, Bool, true, false, cond, Option, Some, None, refl, sym, ap, ◌∙◌, map, filter, take, length, get_or, fold, arith, bytes_eq, unwrap_or, is_some, All, IsTrue}
use Rattle.std.proofs.lemmas.List.{append-nil, map-append, take_more, take_all}
use Rattle.std.proofs.lemmas.List.Elements.{filter-append}
use Rattle.std.proofs.lemmas.Grind.{flat_map-append, fold-append}
use Rattle.std.proofs.lemmas.List.Elements.{All-cons, All-nil}
use Rattle.std.proofs.lemmas.List.Folds.{flat_map-map}
use Rattle.std.specs.List.{IsDistinct, cons_option, filter_map, flat_map}
use Rattle.indexmap.specs.IndexSet.{insert_key}
use Rattle.cx_base.specs.declared.answers.Answer.{Answer}
use Rattle.cx_base.specs.declared.answers.Answer.TheVariants.{Absent}
use Rattle.cx_base.specs.declared.answers.Entry.{Entry}
use Rattle.cx_base.specs.declared.answers.SeenEntry.{SeenEntry}
use Rattle.cx_base.specs.Simple.{simple_path}
use Rattle.cx_options.specs.declared.answer.Options.{Options}
use Rattle.cx_asking.specs.declared.limits.Limits.{Limits}
use Rattle.cx_asking.specs.declared.members.Member.{Member}
use Rattle.cx_asking.specs.declared.purpose.Purpose.{Purpose}
use Rattle.cx_asking.specs.declared.purpose.Purpose.TheVariants as purpose
use Rattle.cx_asking.specs.Members.{in_order, is_source, member_path}
use Rattle.cx_asking.specs.Shapes.Asks.{is_known}
use Rattle.cx_asking.specs.Shapes.Steps.{member_of, members_of, member_wishes, subfolder_wishes, with_units}
use Rattle.cx_asking.specs.Wishes.{Wish, answer_for, below, entries_among, entries_of, given_paths, given_wishes, look_up, makes_unit, member_wishes as entry_wishes, source_wishes, units_of, up_to_folder, wish}
use Rattle.cx_asking.proofs.EarlyLaws.{known_early}
use Rattle.cx_asking.proofs.PathLists.{all_apart, all_hold, none_apart}

module _ (most : ℕ) (seen : List SeenEntry) where
  -- whether a wish makes a unit
  abbrev pub is_unit : Wish → Bool
  is_unit w = makes_unit w.purpose w.path (answer_for most seen w.purpose w.path)

  pub no_wishes : (units : List (List ℕ)) → units ≡ with_units most seen units []
  unfolding with_units
  no_wishes units = refl

  -- wishes one behind another
  pub units_both : (units : List (List ℕ)) (some others : List Wish)
      → with_units most seen units (some ++ others) ≡ with_units most seen (with_units most seen units some) others
  unfolding with_units
  units_both units some others =
      ap (fold (insert_key bytes_eq) units)
      (ap (map (λ w. w.path)) (filter-append is_unit some others)
      ∙ map-append (λ w. w.path) (filter is_unit some) (filter is_unit others))
      ∙ fold-append (insert_key bytes_eq) units (map (λ w. w.path) (filter is_unit some)) (map (λ w. w.path) (filter is_unit others))

  one_wish : (units : List (List ℕ)) (w : Wish)
      → with_units most seen units (w ∷ []) ≡ cond (is_unit w) (insert_key bytes_eq units w.path) units
  unfolding with_units
  one_wish units w = by (is_unit w)
    where
      by : (b : Bool) → fold (insert_key bytes_eq) units (map (λ w. w.path) (cond b (w ∷ []) []))
          ≡ cond b (insert_key bytes_eq units w.path) units
      by true = refl
      by false = refl

  -- a wish that makes a unit, and one that makes none
  pub unit_added : (units : List (List ℕ)) (purpose : Purpose) (path : List ℕ) (answer : Answer) (r : List (List ℕ))
      → answer ≡ answer_for most seen purpose path → makes_unit purpose path answer ≡ true
      → r ≡ insert_key bytes_eq units path → r ≡ with_units most seen units (wish purpose path ∷ [])
  unit_added units purpose path answer r is makes inserted =
      inserted ∙ sym (one_wish units (wish purpose path)
      ∙ ap (λ b. cond b (insert_key bytes_eq units path) units) (ap (makes_unit purpose path) (sym is) ∙ makes))

  pub no_unit : (units : List (List ℕ)) (purpose : Purpose) (path : List ℕ) (answer : Answer)
      → answer ≡ answer_for most seen purpose path → makes_unit purpose path answer ≡ false
      → units ≡ with_units most seen units (wish purpose path ∷ [])
  no_unit units purpose path answer is makes =
      sym (one_wish units (wish purpose path)
      ∙ ap (λ b. cond b (insert_key bytes_eq units path) units) (ap (makes_unit purpose path) (sym is) ∙ makes))

  -- the wishes of each element of a list, in turn

  module _ {X : Type 0} (wants : X → List Wish) where
    pub units_begin : (units : List (List ℕ)) (xs : List X)
        → units ≡ with_units most seen units (flat_map wants (take 0 xs))
    unfolding with_units
    units_begin units [] = refl
    units_begin units (x ∷ xs) = refl

    pub units_next : (first units r : List (List ℕ)) (xs : List X) (i : ℕ) (x : X)
        → units ≡ with_units most seen first (flat_map wants (take i xs))
        → i < length xs → x ≡ get_or xs i x → r ≡ with_units most seen units (wants x)
        → r ≡ with_units most seen first (flat_map wants (take (i + 1) xs))
    units_next first units r xs i x before within at more =
        more ∙ ap (λ us. with_units most seen us (wants x)) before
        ∙ sym (units_both first (flat_map wants (take i xs)) (wants x))
        ∙ ap (with_units most seen first)
        (ap (λ ws. flat_map wants (take i xs) ++ ws) (sym (append-nil (wants x)))
        ∙ sym (flat_map-append wants (take i xs) (x ∷ []))
        ∙ ap (flat_map wants) (ap (λ y. take i xs ++ y ∷ []) at ∙ sym (take_more xs i x within)))

    pub units_end : (first units : List (List ℕ)) (xs : List X) (i : ℕ)
        → units ≡ with_units most seen first (flat_map wants (take i xs)) → length xs ≤ i
        → units ≡ with_units most seen first (flat_map wants xs)
    units_end first units xs i before past =
        before ∙ ap (λ ys. with_units most seen first (flat_map wants ys)) (take_all i xs past)

  -- what is below a folder, by its members

  module _ (depth : ℕ) (deeper : List ℕ → List Wish)
      (same : (path : List ℕ) → deeper path ≡ subfolder_wishes depth most seen path) (folder : List ℕ) where
    by_members : (entries : List Entry)
        → flat_map (entry_wishes deeper folder) entries
        ≡ flat_map (member_wishes depth most seen) (filter_map (member_of folder) entries)
    unfolding member_wishes
    by_members [] = refl
    by_members (e ∷ entries) = by e.folder (is_source e.name) (by_members entries)
      where
        member : Bool → Member
        member b = record { path = member_path folder e.name; folder = b }

        by : (b s : Bool)
            → flat_map (entry_wishes deeper folder) entries
            ≡ flat_map (member_wishes depth most seen) (filter_map (member_of folder) entries)
            → cond b (deeper (member_path folder e.name)) (cond s (wish purpose.File (member_path folder e.name) ∷ []) [])
            ++ flat_map (entry_wishes deeper folder) entries
            ≡ flat_map (member_wishes depth most seen)
            (cons_option (cond b (Some (record { path = member_path folder e.name; folder = b }))
            (cond s (Some (record { path = member_path folder e.name; folder = b })) None))
            (filter_map (member_of folder) entries))
        by true s rest =
            ap (λ ws. ws ++ flat_map (entry_wishes deeper folder) entries) (same (member_path folder e.name))
            ∙ ap (λ ws. subfolder_wishes depth most seen (member_path folder e.name) ++ ws) rest
        by false true rest = ap (λ ws. wish purpose.File (member_path folder e.name) ∷ ws) rest
        by false false rest = rest

  pub below_by_members : (depth : ℕ) (folder : List ℕ) (entries : List Entry)
      → below depth most seen folder entries
      ≡ flat_map (member_wishes depth most seen) (members_of folder entries)
  unfolding below subfolder_wishes members_of
  below_by_members zero folder entries =
      by_members zero (λ path. []) (λ path. refl) folder (in_order entries)
  below_by_members (suc depth) folder entries =
      by_members (suc depth)
      (λ path. wish purpose.Folder path ∷ below depth most seen path (entries_among most seen path))
      (λ path. refl) folder (in_order entries)

  first_then_below : (depth : ℕ) (w : Wish) (folder : List ℕ) (entries answered : List Entry)
      (units first r : List (List ℕ)) (members : List Member)
      → first ≡ with_units most seen units (w ∷ []) → members ≡ members_of folder entries → entries ≡ answered
      → r ≡ with_units most seen first (flat_map (member_wishes depth most seen) members)
      → r ≡ with_units most seen units (w ∷ below depth most seen folder answered)
  first_then_below depth w folder entries answered units first r members begun are from more =
      more ∙ ap (λ ms. with_units most seen first (flat_map (member_wishes depth most seen) ms)) are
      ∙ ap (λ es. with_units most seen first (flat_map (member_wishes depth most seen) (members_of folder es))) from
      ∙ ap (with_units most seen first) (sym (below_by_members depth folder answered))
      ∙ ap (λ us. with_units most seen us (below depth most seen folder answered)) begun
      ∙ sym (units_both units (w ∷ []) (below depth most seen folder answered))

  -- a subfolder's

  pub too_deep : (depth : ℕ) (path : List ℕ) (units : List (List ℕ)) → depth ≡ 0
      → units ≡ with_units most seen units (subfolder_wishes depth most seen path)
  unfolding subfolder_wishes
  too_deep depth path units e =
      no_wishes units ∙ ap (λ d. with_units most seen units (subfolder_wishes d most seen path)) (sym e)

  pub subfolder_units : (depth : ℕ) (path : List ℕ) (entries : List Entry)
      (units first r : List (List ℕ)) (members : List Member) → depth ≢ 0
      → first ≡ with_units most seen units (wish purpose.Folder path ∷ [])
      → members ≡ members_of path entries → entries ≡ entries_among most seen path
      → r ≡ with_units most seen first (flat_map (member_wishes (depth - 1) most seen) members)
      → r ≡ with_units most seen units (subfolder_wishes depth most seen path)
  unfolding subfolder_wishes
  subfolder_units zero path entries units first r members ne begun are from more = absurd (ne refl)
  subfolder_units (suc depth) path entries units first r members ne begun are from more =
      let e : suc depth - 1 ≡ depth = omega arith in
      first_then_below depth (wish purpose.Folder path) path entries (entries_among most seen path)
      units first r members begun are from
      (more ∙ ap (λ d. with_units most seen first (flat_map (member_wishes d most seen) members)) e)

  -- a member's

  pub folder_member : (depth : ℕ) (m : Member) (units r : List (List ℕ)) → m.folder ≡ true
      → r ≡ with_units most seen units (subfolder_wishes depth most seen m.path)
      → r ≡ with_units most seen units (member_wishes depth most seen m)
  unfolding member_wishes
  folder_member depth m units r e more =
      more ∙ sym (ap (λ b. with_units most seen units (cond b (subfolder_wishes depth most seen m.path) (wish purpose.File m.path ∷ []))) e)

  pub file_member : (depth : ℕ) (m : Member) (units r : List (List ℕ)) → m.folder ≡ false
      → r ≡ with_units most seen units (wish purpose.File m.path ∷ [])
      → r ≡ with_units most seen units (member_wishes depth most seen m)
  unfolding member_wishes
  file_member depth m units r e more =
      more ∙ sym (ap (λ b. with_units most seen units (cond b (subfolder_wishes depth most seen m.path) (wish purpose.File m.path ∷ []))) e)

-- and those of a path that is given

pub given_units : (limits : Limits) (seen : List SeenEntry) (path : List ℕ) (depth : ℕ)
    (units first r : List (List ℕ)) (members : List Member)
    → first ≡ with_units limits.folders seen units (wish purpose.Given path ∷ [])
    → members ≡ members_of path (entries_of (look_up seen path)) → depth ≡ limits.depth - 1
    → r ≡ with_units limits.folders seen first (flat_map (member_wishes depth limits.folders seen) members)
    → r ≡ with_units limits.folders seen units (given_wishes limits seen path)
unfolding given_wishes
given_units limits seen path depth units first r members begun are deep more =
    first_then_below limits.folders seen (limits.depth - 1) (wish purpose.Given path) path
    (entries_of (look_up seen path)) (entries_of (look_up seen path)) units first r members begun are refl
    (more ∙ ap (λ d. with_units limits.folders seen first (flat_map (member_wishes d limits.folders seen) members)) deep)

-- all units, by the simple paths that are given

pub all_units_of : (limits : Limits) (seen : List SeenEntry) (options : Options) (paths : List (List ℕ)) (units all : List (List ℕ))
    → paths ≡ map simple_path (given_paths seen options)
    → units ≡ with_units limits.folders seen [] (flat_map (given_wishes limits seen) paths) → all ≡ units → all ≡ units_of limits seen options
unfolding units_of source_wishes with_units
all_units_of limits seen options paths units all these are is =
    is ∙ are ∙ ap (λ ps. with_units limits.folders seen [] (flat_map (given_wishes limits seen) ps)) these
    ∙ ap (with_units limits.folders seen []) (flat_map-map (given_wishes limits seen) simple_path (given_paths seen options))

-- units were seen, and each is there once

pub units_apart : (most : ℕ) (seen : List SeenEntry) (wishes : List Wish) → IsDistinct bytes_eq (with_units most seen [] wishes)
unfolding with_units
units_apart most seen wishes = all_apart [] (map (λ w. w.path) (filter (is_unit most seen) wishes)) none_apart

unit_known : (most : ℕ) (seen : List SeenEntry) (p : Purpose) (path : List ℕ) → makes_unit p path (answer_for most seen p path) ≡ true → is_known seen path ≡ true
unit_known most seen p path e = at p e
  where
    by : (q : Purpose) (o : Option Answer) → makes_unit q path (unwrap_or o Absent) ≡ true → is_some o ≡ true
    by q (Some a) e = refl
    by purpose.Given None e = absurd cc
    by purpose.File None e = absurd cc
    by purpose.Folder None e = absurd cc

    at : (q : Purpose) → makes_unit q path (answer_for most seen q path) ≡ true → is_known seen path ≡ true
    at purpose.Given e = by purpose.Given (look_up seen path) e
    at purpose.File e = by purpose.File (look_up seen path) e
    at purpose.Folder e = known_early most seen path (by purpose.Folder (look_up (up_to_folder most seen) path) e)

abbrev IsKnown : List SeenEntry → List ℕ → Type 0
IsKnown seen path = IsTrue (is_known seen path)

paths_known : (most : ℕ) (seen : List SeenEntry) (wishes : List Wish) → All (IsKnown seen) (map (λ w. w.path) (filter (is_unit most seen) wishes))
paths_known most seen [] = All-nil (IsKnown seen)
paths_known most seen (w ∷ wishes) = by (is_unit most seen w) refl (paths_known most seen wishes)
  where
    by : (b : Bool) → is_unit most seen w ≡ b → All (IsKnown seen) (map (λ w. w.path) (filter (is_unit most seen) wishes))
        → All (IsKnown seen) (map (λ w. w.path) (cond b (w ∷ filter (is_unit most seen) wishes) (filter (is_unit most seen) wishes)))
    by true t rest =
        All-cons (IsKnown seen) w.path (map (λ w. w.path) (filter (is_unit most seen) wishes)) (unit_known most seen w.purpose w.path t) rest
    by false t rest = rest

pub units_known : (most : ℕ) (seen : List SeenEntry) (wishes : List Wish) → All (λ path. IsTrue (is_known seen path)) (with_units most seen [] wishes)
unfolding with_units
units_known most seen wishes =
    all_hold (IsKnown seen) [] (map (λ w. w.path) (filter (is_unit most seen) wishes)) (All-nil (IsKnown seen)) (paths_known most seen wishes)
