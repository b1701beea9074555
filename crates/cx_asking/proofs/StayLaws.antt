-- What is wanted of the paths that are given stays once all of it was asked, and so do the units.
use Rattle.std.proofs.Common.{◌≡◌, ⊎_elim, ℕ, zero, suc, ◌-◌, Bool, true, false, cond, List, [], ◌∷◌, ◌++◌, All, Option, Some, None, is_some, filter, flat_map, map, refl, sym, ap, ◌∙◌, unwrap_or, bytes_eq}
use Rattle.indexmap.specs.IndexSet.{insert_all}
use Rattle.cx_base.specs.declared.answers.Answer.{Answer}
use Rattle.cx_base.specs.declared.answers.Answer.TheVariants.{Absent}
use Rattle.cx_base.specs.declared.answers.Entry.{Entry}
use Rattle.cx_base.specs.declared.answers.SeenEntry.{SeenEntry}
use Rattle.cx_base.specs.Simple.{simple_path}
use Rattle.cx_options.specs.declared.answer.ListWord.{ListWord}
use Rattle.cx_options.specs.declared.answer.Options.{Options}
use Rattle.cx_asking.specs.declared.limits.Limits.{Limits}
use Rattle.cx_asking.specs.declared.list_fault.FileFault.{FileFault}
use Rattle.cx_asking.specs.declared.purpose.Purpose.{Purpose}
use Rattle.cx_asking.specs.declared.purpose.Purpose.TheVariants as purpose
use Rattle.cx_asking.specs.Lists.{fault_of, paths_of}
use Rattle.cx_asking.specs.Members.{in_order, is_source, member_path}
use Rattle.cx_asking.specs.Shapes.Asks.{IsNew, first_open, is_known}
use Rattle.cx_asking.specs.Wishes.{Wish, answer_for, answer_in, below, entries_among, entries_of, given_paths, given_wishes, has_refused, list_fault, look_up, makes_unit, member_wishes, source_wishes, units_of, wish}
use Rattle.cx_asking.proofs.AsksLaws.{closed_both}
use Rattle.cx_asking.proofs.ListLaws.{fault_in, front_passed, front_refused}
use Rattle.cx_asking.proofs.SeenLaws.{known_same}
use Rattle.cx_asking.proofs.UnitLaws.{is_unit}
use Rattle.cx_asking.proofs.WalkLaws.{closed, early_stays}

-- the paths that are given stay, where no list is refused

known_list : (seen : List SeenEntry) (list : ListWord) → fault_in seen list ≡ None → is_known seen (simple_path list.path) ≡ true
unfolding fault_of
known_list seen list e = by (look_up seen (simple_path list.path)) e
  where
    by : (o : Option Answer) → fault_of (unwrap_or o Absent) ≡ None → is_some o ≡ true
    by (Some a) e = refl
    by None e = absurd cc

listed_stay : (seen more : List SeenEntry) (lists : List ListWord) → has_refused seen lists ≡ false
    → flat_map (λ l. paths_of (answer_in (seen ++ more) (simple_path l.path))) lists ≡ flat_map (λ l. paths_of (answer_in seen (simple_path l.path))) lists
listed_stay seen more [] e = refl
listed_stay seen more (list ∷ lists) e = by (fault_in seen list) refl (listed_stay seen more lists)
  where
    by : (o : Option FileFault) → fault_in seen list ≡ o
        → (has_refused seen lists ≡ false
        → flat_map (λ l. paths_of (answer_in (seen ++ more) (simple_path l.path))) lists ≡ flat_map (λ l. paths_of (answer_in seen (simple_path l.path))) lists)
        → flat_map (λ l. paths_of (answer_in (seen ++ more) (simple_path l.path))) (list ∷ lists)
        ≡ flat_map (λ l. paths_of (answer_in seen (simple_path l.path))) (list ∷ lists)
    by (Some fault) t rest = absurd (two (sym (ap is_some (front_refused seen list lists fault t)) ∙ e))
      where
        two : true ≡ false → ⊥
        two h = cc
    by None t rest =
        ap (λ o. paths_of (unwrap_or o Absent) ++ flat_map (λ l. paths_of (answer_in (seen ++ more) (simple_path l.path))) lists)
        (known_same seen more (simple_path list.path) (known_list seen list t))
        ∙ ap (λ ps. paths_of (answer_in seen (simple_path list.path)) ++ ps) (rest (sym (ap is_some (front_passed seen list lists t)) ∙ e))

pub refused_stays : (seen more : List SeenEntry) (lists : List ListWord) → has_refused seen lists ≡ false → has_refused (seen ++ more) lists ≡ false
unfolding list_fault
refused_stays seen more [] e = refl
refused_stays seen more (list ∷ lists) e = by (fault_in seen list) refl (refused_stays seen more lists)
  where
    by : (o : Option FileFault) → fault_in seen list ≡ o → (has_refused seen lists ≡ false → has_refused (seen ++ more) lists ≡ false)
        → has_refused (seen ++ more) (list ∷ lists) ≡ false
    by (Some fault) t rest = absurd (two (sym (ap is_some (front_refused seen list lists fault t)) ∙ e))
      where
        two : true ≡ false → ⊥
        two h = cc
    by None t rest =
        let same : fault_in (seen ++ more) list ≡ None =
        ap (λ o. fault_of (unwrap_or o Absent)) (known_same seen more (simple_path list.path) (known_list seen list t)) ∙ t in
        ap is_some (front_passed (seen ++ more) list lists same) ∙ rest (sym (ap is_some (front_passed seen list lists t)) ∙ e)

pub paths_stay : (seen more : List SeenEntry) (options : Options) → has_refused seen options.lists ≡ false
    → given_paths (seen ++ more) options ≡ given_paths seen options
unfolding given_paths
paths_stay seen more options e = ap (λ ps. options.paths ++ ps) (listed_stay seen more options.lists e)

module _ (limits : Limits) (seen more : List SeenEntry) (fresh : All (IsNew seen) more) where
  abbrev AreClosed : List Wish → Type 0
  AreClosed wishes = first_open limits seen wishes ≡ None

  -- what each of several things wants
  each_stays : {X : Type 0} (want : List SeenEntry → X → List Wish) → ((x : X) → AreClosed (want seen x) → want (seen ++ more) x ≡ want seen x)
      → (xs : List X) → AreClosed (flat_map (want seen) xs) → flat_map (want (seen ++ more)) xs ≡ flat_map (want seen) xs
  each_stays want one [] c = refl
  each_stays want one (x ∷ xs) c =
      let h = closed_both limits seen (want seen x) (flat_map (want seen) xs) c in
      ap (λ ws. ws ++ flat_map (want (seen ++ more)) xs) (one x h.0)
      ∙ ap (λ ws. want seen x ++ ws) (each_stays want one xs h.1)

  -- what is wanted below a folder

  member_stays : (deeper : List SeenEntry → List ℕ → List Wish)
      → ((path : List ℕ) → AreClosed (deeper seen path) → deeper (seen ++ more) path ≡ deeper seen path)
      → (folder : List ℕ) (e : Entry) → AreClosed (member_wishes (deeper seen) folder e)
      → member_wishes (deeper (seen ++ more)) folder e ≡ member_wishes (deeper seen) folder e
  member_stays deeper each folder e c = by e.folder c
    where
      by : (b : Bool)
          → AreClosed (cond b (deeper seen (member_path folder e.name)) (cond (is_source e.name) (wish purpose.File (member_path folder e.name) ∷ []) []))
          → cond b (deeper (seen ++ more) (member_path folder e.name)) (cond (is_source e.name) (wish purpose.File (member_path folder e.name) ∷ []) [])
          ≡ cond b (deeper seen (member_path folder e.name)) (cond (is_source e.name) (wish purpose.File (member_path folder e.name) ∷ []) [])
      by true c = each (member_path folder e.name) c
      by false c = refl

  abbrev deeper_of : ℕ → List SeenEntry → List ℕ → List Wish
  deeper_of depth s path = wish purpose.Folder path ∷ below depth limits.folders s path (entries_among limits.folders s path)

  entries_stay : (path : List ℕ) → AreClosed (wish purpose.Folder path ∷ [])
      → entries_among limits.folders (seen ++ more) path ≡ entries_among limits.folders seen path
  unfolding entries_among
  entries_stay path c = ap entries_of (early_stays limits path seen more c fresh)

  deeper_stays : (depth : ℕ)
      → ((folder : List ℕ) (entries : List Entry) → AreClosed (below depth limits.folders seen folder entries)
      → below depth limits.folders (seen ++ more) folder entries ≡ below depth limits.folders seen folder entries)
      → (path : List ℕ) → AreClosed (deeper_of depth seen path) → deeper_of depth (seen ++ more) path ≡ deeper_of depth seen path
  deeper_stays depth rest path c =
      let lower : List Wish = below depth limits.folders seen path (entries_among limits.folders seen path) in
      let h = closed_both limits seen (wish purpose.Folder path ∷ []) lower c in
      ap (λ ws. wish purpose.Folder path ∷ ws)
      (ap (below depth limits.folders (seen ++ more) path) (entries_stay path h.0) ∙ rest path (entries_among limits.folders seen path) h.1)

  below_stays : (depth : ℕ) (folder : List ℕ) (entries : List Entry) → AreClosed (below depth limits.folders seen folder entries)
      → below depth limits.folders (seen ++ more) folder entries ≡ below depth limits.folders seen folder entries
  unfolding below
  below_stays zero folder entries c = refl
  below_stays (suc depth) folder entries c =
      each_stays (λ s e. member_wishes (deeper_of depth s) folder e)
      (member_stays (deeper_of depth) (deeper_stays depth (λ f es. below_stays depth f es)) folder) (in_order entries) c

  -- what is wanted of a path that is given

  given_known : (path : List ℕ) → AreClosed (wish purpose.Given path ∷ []) → is_known seen path ≡ true
  given_known path c =
      ⊎_elim (λ (t : is_known seen path ≡ true). t) (λ (t : true ≡ false). absurd cc) (closed limits path purpose.Given seen c)

  file_known : (path : List ℕ) → AreClosed (wish purpose.File path ∷ []) → is_known seen path ≡ true
  file_known path c =
      ⊎_elim (λ (t : is_known seen path ≡ true). t) (λ (t : true ≡ false). absurd cc) (closed limits path purpose.File seen c)

  given_stays : (path : List ℕ) → AreClosed (given_wishes limits seen path) → given_wishes limits (seen ++ more) path ≡ given_wishes limits seen path
  unfolding given_wishes
  given_stays path c =
      let lower : List Wish = below (limits.depth - 1) limits.folders seen path (entries_of (look_up seen path)) in
      let h = closed_both limits seen (wish purpose.Given path ∷ []) lower c in
      ap (λ ws. wish purpose.Given path ∷ ws)
      (ap (λ o. below (limits.depth - 1) limits.folders (seen ++ more) path (entries_of o)) (known_same seen more path (given_known path h.0))
      ∙ below_stays (limits.depth - 1) path (entries_of (look_up seen path)) h.1)

  pub sources_stay : (options : Options) → has_refused seen options.lists ≡ false → AreClosed (source_wishes limits seen options)
      → source_wishes limits (seen ++ more) options ≡ source_wishes limits seen options
  unfolding source_wishes
  sources_stay options e c =
      ap (flat_map (λ path. given_wishes limits (seen ++ more) (simple_path path))) (paths_stay seen more options e)
      ∙ each_stays (λ s path. given_wishes limits s (simple_path path)) (λ path. given_stays (simple_path path)) (given_paths seen options) c

  -- the units

  answer_stays : (p : Purpose) (path : List ℕ) → AreClosed (wish p path ∷ []) → answer_for limits.folders (seen ++ more) p path ≡ answer_for limits.folders seen p path
  answer_stays purpose.Given path c = ap (λ o. unwrap_or o Absent) (known_same seen more path (given_known path c))
  answer_stays purpose.File path c = ap (λ o. unwrap_or o Absent) (known_same seen more path (file_known path c))
  answer_stays purpose.Folder path c = ap (λ o. unwrap_or o Absent) (early_stays limits path seen more c fresh)

  unit_wishes_stay : (wishes : List Wish) → AreClosed wishes → filter (is_unit limits.folders (seen ++ more)) wishes ≡ filter (is_unit limits.folders seen) wishes
  unit_wishes_stay [] c = refl
  unit_wishes_stay (w ∷ wishes) c =
      let h = closed_both limits seen (w ∷ []) wishes c in
      ap (λ a. cond (makes_unit w.purpose w.path a) (w ∷ filter (is_unit limits.folders (seen ++ more)) wishes) (filter (is_unit limits.folders (seen ++ more)) wishes))
      (answer_stays w.purpose w.path h.0)
      ∙ ap (λ ws. cond (is_unit limits.folders seen w) (w ∷ ws) ws) (unit_wishes_stay wishes h.1)

  pub units_stay : (options : Options) → has_refused seen options.lists ≡ false → AreClosed (source_wishes limits seen options)
      → units_of limits (seen ++ more) options ≡ units_of limits seen options
  unfolding units_of
  units_stay options e c =
      ap (λ ws. insert_all bytes_eq [] (map (λ w. w.path) (filter (is_unit limits.folders (seen ++ more)) ws))) (sources_stay options e c)
      ∙ ap (λ ws. insert_all bytes_eq [] (map (λ w. w.path) ws)) (unit_wishes_stay (source_wishes limits seen options) c)
