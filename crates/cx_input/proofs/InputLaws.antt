-- The files of a unit are those of both grounds that have the same input, which is so both ways.
use Rattle.std.proofs.Common.{◌≡◌, ℕ, ◌+◌, List, [], ◌∷◌, All, Contains, length, map, refl, sym, ap, subst, ◌∙◌, arith}
use Rattle.std.specs.List.{IsDistinct, filter_map, find, flat_map}
use Rattle.std.proofs.lemmas.List.{length-map}
use Rattle.std.proofs.lemmas.List.Elements.{All-cons, All-contains_itself, All-contains, All-head, All-nil, All-weaker, Contains-append_right}
use Rattle.cx_asking.specs.Asking.{text_of}
use Rattle.cx_asking.specs.Includes.{files_of, included, is_taken, reached, tried, tried_by, with_next, wishes_of}
use Rattle.cx_asking.specs.Wishes.{answer_in}
use Rattle.cx_shelf.specs.Includes.{includes_of}
use Rattle.cx_unit.specs.Units.{Ground, unit_files}
use Rattle.cx_input.specs.Inputs.{IncludesAlike, IsSameFile, IsSameInput, pieces_at, wishes_in}
use Rattle.cx_input.proofs.PathLists.{all_in_front}
use Rattle.cx_input.proofs.RoundLaws.{led_to_reached, reached_later, reached_stays, same_rounds, starts_reached}
use Rattle.cx_input.proofs.TakenLaws.{all_found_alike, all_taken_seen, all_wishes_alike, paths_seen}

-- what the includes of a file of a ground take
abbrev pub taken_by : Ground → List ℕ → List (List ℕ)
taken_by g = included (text_of g.shelf.files) g.shelf.folders g.seen

-- what is tried for them
abbrev pub tried_in : Ground → List ℕ → List (List (List ℕ))
tried_in g = tried_by (text_of g.shelf.files) g.shelf.folders

module _ (g : Ground) (path : List ℕ) where
  -- following the includes of all files of a unit adds none
  files_stay : with_next (taken_by g) (path ∷ []) (reached (taken_by g) (path ∷ []) (length g.seen))
      ≡ reached (taken_by g) (path ∷ []) (length g.seen)
  unfolding included IsDistinct
  files_stay =
      reached_stays (taken_by g) (path ∷ []) (path ∷ paths_seen g.seen) (length g.seen)
      (omega (arith, length-map g.seen (λ e. e.path))) (tt, tt)
      (All-cons (Contains (path ∷ paths_seen g.seen)) path [] (0, omega arith, refl)
      (All-nil (Contains (path ∷ paths_seen g.seen))))
      (λ file. All-weaker (Contains (paths_seen g.seen)) (Contains (path ∷ paths_seen g.seen))
      (λ p c. Contains-append_right (path ∷ []) (paths_seen g.seen) p c)
      (taken_by g file) (all_taken_seen g.seen (tried_in g file)))

  -- the unit is one of its files
  pub unit_inside : Contains (unit_files g path) path
  unfolding files_of
  unit_inside =
      let front = starts_reached (taken_by g) (path ∷ []) (length g.seen) files_stay in
      All-head (Contains (unit_files g path)) path []
      (all_in_front (Contains (unit_files g path)) (path ∷ []) front.0
      (subst (All (Contains (unit_files g path))) front.1
      (All-contains_itself (unit_files g path))))

  -- what its files include are its files
  pub includes_inside : (file : List ℕ) → Contains (unit_files g path) file
      → All (Contains (unit_files g path)) (taken_by g file)
  unfolding files_of
  includes_inside file c =
      led_to_reached (taken_by g) (path ∷ []) (length g.seen) files_stay file c

module _ (g h : Ground) where
  -- the same pieces and folders make the same tried
  tried_alike : (file : List ℕ) → pieces_at g file ≡ pieces_at h file
      → g.shelf.folders ≡ h.shelf.folders → tried_in g file ≡ tried_in h file
  unfolding tried_by
  tried_alike file pieces folders =
      λ i. map (tried (folders i) file) (includes_of (pieces i))

  taken_alike : (file : List ℕ) → IsSameFile g h file → IncludesAlike g h file
      → g.shelf.folders ≡ h.shelf.folders → taken_by g file ≡ taken_by h file
  unfolding included
  taken_alike file same alike folders =
      all_found_alike g.seen h.seen (tried_in g file) alike
      ∙ ap (λ tried. filter_map (find (is_taken h.seen)) tried)
      (tried_alike file same.pieces folders)

  wishes_same : (file : List ℕ) → IsSameFile g h file → IncludesAlike g h file
      → g.shelf.folders ≡ h.shelf.folders → wishes_in g file ≡ wishes_in h file
  wishes_same file same alike folders =
      all_wishes_alike g.seen h.seen (tried_in g file) alike
      ∙ ap (λ tried. flat_map (wishes_of h.seen) tried) (tried_alike file same.pieces folders)

  module _ (path : List ℕ) (same : IsSameInput g h path) where
    -- the files of the unit are the same
    pub same_files : unit_files g path ≡ unit_files h path
    unfolding files_of
    same_files =
        let e : length h.seen + length g.seen ≡ length g.seen + length h.seen = omega arith in
        sym (reached_later (taken_by g) (path ∷ []) (length g.seen) (files_stay g path)
        (length h.seen))
        ∙ ap (reached (taken_by g) (path ∷ [])) e
        ∙ same_rounds (taken_by g) (path ∷ []) (length g.seen) (files_stay g path) (taken_by h)
        (λ k d less. taken_alike _ (same.files k d less) (same.includes k d less) same.folders)
        (length g.seen + length h.seen)
        ∙ reached_later (taken_by h) (path ∷ []) (length h.seen) (files_stay h path)
        (length g.seen)

    -- one of its files
    pub same_file : (file : List ℕ) → Contains (unit_files g path) file → IsSameFile g h file
    same_file file c = All-contains (IsSameFile g h) (unit_files g path) file same.files c

    pub same_includes : (file : List ℕ) → Contains (unit_files g path) file → IncludesAlike g h file
    same_includes file c =
        All-contains (IncludesAlike g h) (unit_files g path) file same.includes c

    file_back : (file : List ℕ) → IsSameFile g h file → IsSameFile h g file
    file_back file one = record {
      answer = sym one.answer;
      number = sym one.number;
      fault = sym one.fault;
      pieces = sym one.pieces;
    }

    includes_back : (file : List ℕ) → IsSameFile g h file → IncludesAlike g h file
        → IncludesAlike h g file
    includes_back file one alike =
        subst (All (λ w. answer_in h.seen w.path ≡ answer_in g.seen w.path))
        (wishes_same file one alike same.folders) (λ k d less. sym (alike k d less))

    pub same_back : IsSameInput h g path
    same_back = record {
      limits = sym same.limits;
      options = sym same.options;
      macros = sym same.macros;
      folders = sym same.folders;
      files = subst (All (IsSameFile h g)) same_files
          (λ k d less. file_back _ (same.files k d less));
      includes = subst (All (IncludesAlike h g)) same_files
          (λ k d less. includes_back _ (same.files k d less) (same.includes k d less));
    }
