-- Where the includes of a unit's files lead: to one file in both grounds, or to none in either.
use Rattle.std.proofs.Common.{◌≡◌, ℕ, List, [], ◌∷◌, All, Bool, true, false, cond, ◌&&◌, ◌||◌, not, Contains, Option, Some, None, flat_map, is_some, map, option_map, refl, sym, ap, ap₂, subst, ◌∙◌}
use Rattle.std.specs.List.{AllByRecursion, cons_option, filter_map, find}
use Rattle.std.specs.Str.{is_utf8}
use Rattle.std.proofs.lemmas.List.Elements.{All-head, All-tail}
use Rattle.cx_base.specs.declared.answers.Answer.{Answer}
use Rattle.cx_base.specs.declared.answers.Answer.TheVariants.{Present, Absent, Folder, Unreadable, TooLarge}
use Rattle.cx_lines.specs.Kinds.{kind_of}
use Rattle.cx_lines.specs.Lines.{lines_of}
use Rattle.cx_lines.specs.Nesting.{Line}
use Rattle.cx_lines.specs.declared.kind.LineKind.TheVariants.{Include}
use Rattle.cx_directive.specs.declared.include.IncludeName.{IncludeName}
use Rattle.cx_directive.specs.declared.include.Target.{Target}
use Rattle.cx_directive.specs.Operands.{operands, target_of}
use Rattle.cx_asking.specs.Asking.{is_present, text_of}
use Rattle.cx_asking.specs.Includes.{included, is_taken, tried, tried_by, wishes_of}
use Rattle.cx_asking.specs.Wishes.{answer_in, is_there}
use Rattle.cx_shelf.specs.declared.shelf.Shelf.{Shelf}
use Rattle.cx_shelf.specs.Includes.{header_in, include_name_of, includes_of, named_by}
use Rattle.cx_shelf.specs.Searches.{candidates, first_number, found}
use Rattle.cx_shelf.specs.Shelves.{number_of, path_of}
use Rattle.cx_unit.specs.Units.{Ground, number_among, unit_files}
use Rattle.cx_input.specs.Inputs.{IsSameInput, IsShelfOfAnswers, has_pieces, is_shelved}
use Rattle.cx_input.proofs.AlikeLaws.{AreAlike, FoundAlike, LeadsAlike}
use Rattle.cx_input.proofs.InputLaws.{includes_inside, same_file, same_includes, tried_in}
use Rattle.cx_input.proofs.NumberLaws.{no_text, number_nowhere, number_there, path_by_number}
use Rattle.cx_input.proofs.TakenLaws.{IsAlike, find_alike, found_passes, wishes_behind, wishes_in_front}

-- ---- the first of some paths that is on a shelf

module _ (shelf : Shelf) (path : List ℕ) (paths : List (List ℕ)) where
  first_there : (n : ℕ) → number_of shelf path ≡ Some n → first_number shelf (path ∷ paths) ≡ Some n
  unfolding first_number
  first_there n e = rw e refl

  first_nowhere : number_of shelf path ≡ None → first_number shelf (path ∷ paths) ≡ first_number shelf paths
  unfolding first_number
  first_nowhere e = rw e refl

-- where nothing stands there are no pieces
nothing_there : (answer : Answer) (sound : Bool) → is_there answer ≡ false → (is_present answer && sound) ≡ false
nothing_there (Present bytes) sound e = absurd cc
nothing_there Absent sound e = refl
nothing_there (Folder entries) sound e = refl
nothing_there Unreadable sound e = absurd cc
nothing_there TooLarge sound e = absurd cc

module _ (g : Ground) (of_answers : IsShelfOfAnswers g) where
  -- the first path at which something stands is the first on the shelf, where it has pieces
  first_taken : (paths : List (List ℕ))
      → ((path : List ℕ) → find (is_taken g.seen) paths ≡ Some path → has_pieces g path ≡ true)
      → first_number g.shelf paths ≡ option_map (number_among g.shelf) (find (is_taken g.seen) paths)
  unfolding first_number
  first_taken [] h = refl
  first_taken (path ∷ paths) h = by (is_taken g.seen path) refl h (first_taken paths)
    where
      by : (b : Bool) → is_taken g.seen path ≡ b
          → ((p : List ℕ) → cond b (Some path) (find (is_taken g.seen) paths) ≡ Some p → has_pieces g p ≡ true)
          → (((p : List ℕ) → find (is_taken g.seen) paths ≡ Some p → has_pieces g p ≡ true)
          → first_number g.shelf paths ≡ option_map (number_among g.shelf) (find (is_taken g.seen) paths))
          → first_number g.shelf (path ∷ paths)
          ≡ option_map (number_among g.shelf) (cond b (Some path) (find (is_taken g.seen) paths))
      by true t h rest =
          first_there g.shelf path paths (number_among g.shelf path)
          (number_there g.shelf path (of_answers path ∙ h path refl))
      by false t h rest =
          first_nowhere g.shelf path paths
          (number_nowhere g.shelf path (of_answers path ∙ nothing_there (answer_in g.seen path) _ t))
          ∙ rest h

-- ---- one include

-- what a line `include` names, where it does
include_named : (line : Line) (target : Target) → kind_of line ≡ Include
    → target_of (operands line) ≡ Some target
    → include_name_of line ≡ cond target.computed None (Some target.name)
include_named line target k e = ap (λ kind. named_by kind line) k ∙ ap header_in e

-- where a search goes
search_of : (shelf : Shelf) (file : List ℕ) (target : Target) (c u : Bool) → target.computed ≡ c
    → is_utf8 target.name.name ≡ u
    → found shelf file target
    ≡ cond (c || not u) None (first_number shelf (candidates shelf.folders file target.name))
unfolding found
search_of shelf file target c u e f =
    ap₂ (λ c u. cond (c || not u) None (first_number shelf (candidates shelf.folders file target.name))) e f

module _ (a b : Shelf) (Inside : List ℕ → Type 0) where
  alike_by : (x y o p : Option ℕ) → x ≡ o → y ≡ p → FoundAlike a b Inside o p → FoundAlike a b Inside x y
  alike_by x y o p e f k =
      subst (λ z. FoundAlike a b Inside z y) (sym e) (subst (λ z. FoundAlike a b Inside o z) (sym f) k)

  -- one path, by its numbers on both shelves
  path_alike : (o : Option (List ℕ)) → ((path : List ℕ) → o ≡ Some path → Inside path)
      → FoundAlike a b Inside (option_map (number_among a) o) (option_map (number_among b) o)
  path_alike None h = tt
  path_alike (Some path) h = record { path = path; inside = h path refl; here = refl; there = refl }

front_inside : (Inside : List ℕ → Type 0) (o : Option (List ℕ)) (rest : List (List ℕ))
    → All Inside (cons_option o rest) → (path : List ℕ) → o ≡ Some path → Inside path
front_inside Inside None rest all path e = absurd cc
front_inside Inside (Some p) rest all path e = let same : p ≡ path = cc in
    subst Inside same (All-head Inside p rest all)

rest_inside : (Inside : List ℕ → Type 0) (o : Option (List ℕ)) (rest : List (List ℕ))
    → All Inside (cons_option o rest) → All Inside rest
rest_inside Inside None rest all = all
rest_inside Inside (Some p) rest all = All-tail Inside p rest all

module _ (g h : Ground) (path : List ℕ) (same : IsSameInput g h path) (of_g : IsShelfOfAnswers g)
    (of_h : IsShelfOfAnswers h)
    (clean : (file : List ℕ) → Contains (unit_files g path) file → is_taken g.seen file ≡ true
    → has_pieces g file ≡ true) where
  -- the paths of the unit's files
  abbrev pub Inside : List ℕ → Type 0
  Inside file = Contains (unit_files g path) file

  same_pieces : (file : List ℕ) → Inside file → has_pieces g file ≡ has_pieces h file
  same_pieces file c =
      let one = same_file g h path same file c in
      λ i. is_present (one.answer i) && not (is_some (one.fault i))

  -- what is tried for one include, answered alike, and taken as a file of the unit
  record IsTriedAlike (paths : List (List ℕ)) : Type 0 where
    answered : All (IsAlike g.seen h.seen) (wishes_of g.seen paths)
    taken : (file : List ℕ) → find (is_taken g.seen) paths ≡ Some file
        → Inside file × (has_pieces g file ≡ true)

  all_tried : (tried : List (List (List ℕ)))
      → All (IsAlike g.seen h.seen) (flat_map (wishes_of g.seen) tried)
      → All Inside (filter_map (find (is_taken g.seen)) tried) → AllByRecursion IsTriedAlike tried
  all_tried [] all inside = tt
  all_tried (paths ∷ tried) all inside = (
    record {
      answered = wishes_in_front (IsAlike g.seen h.seen) (wishes_of g.seen paths)
          (flat_map (wishes_of g.seen) tried) all;
      taken = λ file e.
          let c = front_inside Inside (find (is_taken g.seen) paths)
          (filter_map (find (is_taken g.seen)) tried) inside file e in
          (c, clean file c (found_passes (is_taken g.seen) paths file e));
    },
    all_tried tried
        (wishes_behind (IsAlike g.seen h.seen) (wishes_of g.seen paths)
        (flat_map (wishes_of g.seen) tried) all)
        (rest_inside Inside (find (is_taken g.seen) paths)
        (filter_map (find (is_taken g.seen)) tried) inside),
  )

  module _ (file : List ℕ) where
    -- an include of the file leads to one file, or to none
    named_alike : (target : Target) → IsTriedAlike (tried g.shelf.folders file target.name)
        → FoundAlike g.shelf h.shelf Inside (found g.shelf file target) (found h.shelf file target)
    named_alike target k = by target.computed refl (is_utf8 target.name.name) refl
      where
        none : (c u : Bool) → target.computed ≡ c → is_utf8 target.name.name ≡ u → (c || not u) ≡ true
            → FoundAlike g.shelf h.shelf Inside (found g.shelf file target) (found h.shelf file target)
        none c u e f n =
            alike_by g.shelf h.shelf Inside _ _ None None
            (search_of g.shelf file target c u e f
            ∙ ap (λ x. cond x None (first_number g.shelf (candidates g.shelf.folders file target.name))) n)
            (search_of h.shelf file target c u e f
            ∙ ap (λ x. cond x None (first_number h.shelf (candidates h.shelf.folders file target.name))) n)
            tt

        some : target.computed ≡ false → is_utf8 target.name.name ≡ true
            → IsTriedAlike (candidates g.shelf.folders file target.name)
            → FoundAlike g.shelf h.shelf Inside (found g.shelf file target) (found h.shelf file target)
        some e f k =
            let paths = candidates g.shelf.folders file target.name in
            let equal = find_alike g.seen h.seen paths k.answered in
            alike_by g.shelf h.shelf Inside _ _ _ _
            (search_of g.shelf file target false true e f
            ∙ first_taken g of_g paths (λ p t. (k.taken p t).1))
            (search_of h.shelf file target false true e f
            ∙ ap (λ folders. first_number h.shelf (candidates folders file target.name)) (sym same.folders)
            ∙ first_taken h of_h paths (λ p t.
            let r = k.taken p (equal ∙ t) in sym (same_pieces p r.0) ∙ r.1)
            ∙ ap (option_map (number_among h.shelf)) (sym equal))
            (path_alike g.shelf h.shelf Inside (find (is_taken g.seen) paths) (λ p t. (k.taken p t).0))

        by : (c : Bool) → target.computed ≡ c → (u : Bool) → is_utf8 target.name.name ≡ u
            → FoundAlike g.shelf h.shelf Inside (found g.shelf file target) (found h.shelf file target)
        by true e u f = none true u e f refl
        by false e false f = none false false e f refl
        by false e true f =
            some e f (subst IsTriedAlike
            (ap (λ u. cond u (candidates g.shelf.folders file target.name) []) f) k)

    computed_alike : (target : Target) → target.computed ≡ true
        → FoundAlike g.shelf h.shelf Inside (found g.shelf file target) (found h.shelf file target)
    computed_alike target e =
        alike_by g.shelf h.shelf Inside _ _ None None (search_of g.shelf file target true _ e refl)
        (search_of h.shelf file target true _ e refl) tt

    -- a line of the file
    abbrev Leads : Line → Type 0
    Leads line = (target : Target) → kind_of line ≡ Include → target_of (operands line) ≡ Some target
        → FoundAlike g.shelf h.shelf Inside (found g.shelf file target) (found h.shelf file target)

    abbrev IsTried : Option IncludeName → Type 0
    IsTried None = Unit {0}
    IsTried (Some name) = IsTriedAlike (tried g.shelf.folders file name)

    target_leads : (target : Target) (c : Bool) → target.computed ≡ c → (o : Option IncludeName)
        → cond c None (Some target.name) ≡ o → IsTried o
        → FoundAlike g.shelf h.shelf Inside (found g.shelf file target) (found h.shelf file target)
    target_leads target true e o n k = computed_alike target e
    target_leads target false e None n k = absurd cc
    target_leads target false e (Some name) n k =
        let is : name ≡ target.name = cc in
        named_alike target (subst (λ m. IsTriedAlike (tried g.shelf.folders file m)) is k)

    line_leads : (line : Line) (o : Option IncludeName) → include_name_of line ≡ o → IsTried o → Leads line
    line_leads line o e k target kind t =
        target_leads target target.computed refl o (sym (include_named line target kind t) ∙ e) k

    lines_lead : (lines : List Line)
        → AllByRecursion IsTriedAlike (map (tried g.shelf.folders file) (filter_map include_name_of lines))
        → AllByRecursion Leads lines
    lines_lead [] all = tt
    lines_lead (line ∷ lines) all = by (include_name_of line) refl all (lines_lead lines)
      where
        by : (o : Option IncludeName) → include_name_of line ≡ o
            → AllByRecursion IsTriedAlike
            (map (tried g.shelf.folders file) (cons_option o (filter_map include_name_of lines)))
            → (AllByRecursion IsTriedAlike
            (map (tried g.shelf.folders file) (filter_map include_name_of lines))
            → AllByRecursion Leads lines)
            → Leads line × AllByRecursion Leads lines
        by None e all rest = (line_leads line None e tt, rest all)
        by (Some name) e all rest = (line_leads line (Some name) e all.0, rest all.1)

    file_tried : Inside file → AllByRecursion IsTriedAlike (tried_in g file)
    unfolding included
    file_tried c =
        all_tried (tried_in g file) (same_includes g h path same file c) (includes_inside g path file c)

    file_leads : Inside file → AllByRecursion Leads (lines_of (text_of g.shelf.files file))
    unfolding tried_by includes_of
    file_leads c = lines_lead (lines_of (text_of g.shelf.files file)) (file_tried c)

  -- the two shelves are alike for the unit's files
  shelved_alike : (file : List ℕ) → Inside file → is_shelved g.shelf file ≡ is_shelved h.shelf file
  shelved_alike file c = of_g file ∙ same_pieces file c ∙ sym (of_h file)

  abbrev LeadsOnShelves : List ℕ → Line → Type 0
  LeadsOnShelves file line = LeadsAlike g.shelf h.shelf Inside file line

  leads_on_shelves : (file : List ℕ) → Inside file → (b : Bool) → is_shelved g.shelf file ≡ b
      → AllByRecursion (LeadsOnShelves file) (lines_of (text_of g.shelf.files file))
  unfolding lines_of
  leads_on_shelves file c true e =
      let here : path_of g.shelf (number_among g.shelf file) ≡ file =
      path_by_number g.shelf file ∙ ap (λ b. cond b file []) e in
      let there : path_of h.shelf (number_among h.shelf file) ≡ file =
      path_by_number h.shelf file ∙ ap (λ b. cond b file []) (sym (shelved_alike file c) ∙ e) in
      all_weaker (λ line k target kind t.
      alike_by g.shelf h.shelf Inside _ _ _ _ (ap (λ p. found g.shelf p target) here)
      (ap (λ p. found h.shelf p target) there) (k target kind t)) (lines_of (text_of g.shelf.files file))
      (file_leads file c)
    where
      all_weaker : ((line : Line) → Leads file line → LeadsOnShelves file line) → (lines : List Line)
          → AllByRecursion (Leads file) lines → AllByRecursion (LeadsOnShelves file) lines
      all_weaker f [] all = tt
      all_weaker f (line ∷ lines) all = (f line all.0, all_weaker f lines all.1)
  leads_on_shelves file c false e =
      subst (λ ps. AllByRecursion (LeadsOnShelves file) (lines_of ps)) (sym (no_text g.shelf file e)) tt

  pub shelves_alike : AreAlike g.shelf h.shelf Inside
  shelves_alike = record {
    shelved = shelved_alike;
    texts = λ file c. (same_file g h path same file c).pieces;
    leads = λ file c. leads_on_shelves file c (is_shelved g.shelf file) refl;
  }
