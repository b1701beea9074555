-- The lists that a file adds are those for which its lines ask.
use Rattle.std.proofs.Common.{◌≡◌, ℕ, List, [], ◌∷◌, ◌++◌, ◌+◌, ◌<◌, ◌≤◌, drop, get_or, length, Bool, true, false, Option, None, refl, sym, ap, ◌∙◌, map}
use Rattle.std.specs.List.{flat_map}
use Rattle.std.proofs.lemmas.List.{drop_all}
use Rattle.std.proofs.lemmas.List.Concat.{flat_map-cons}
use Rattle.cx_shelf.specs.declared.shelf.Shelf.{Shelf}
use Rattle.cx_shelf.specs.Shelves.{pieces_of}
use Rattle.cx_configs.specs.Configurations.{lines_in}
use Rattle.cx_configs.proofs.SettledLaws.{drop_next}
use Rattle.std.specs.Prelude.{fold, if◌then◌else◌}
use Rattle.std.proofs.lemmas.List.Sums.{fold-append}
use Rattle.cx_table.specs.NameTable.{Entries}
use Rattle.cx_lex.specs.declared.piece.Piece.{Piece}
use Rattle.cx_lines.specs.Lines.{lines_of}
use Rattle.cx_lines.specs.Nesting.{Line}
use Rattle.cx_configs.specs.Questions.{Group, Name, asked_lists, begins_group, groups_behind, names_of, with_list as with_asked}
use Rattle.cx_configs.specs.Shapes.Asks.{Asks, lists_in}
use Rattle.cx_configs.specs.Shapes.Groups.{NumberedGroup, StandFor, groups_after, innermost_names, lists_after, named, open_groups}
use Rattle.cx_configs.specs.Shapes.Lists.{is_full, lists_of, with_list, with_lists}
use Rattle.cx_configs.specs.Shapes.Sets.{with_names}
use Rattle.cx_configs.proofs.FoundLaws.{with_room}
use Rattle.cx_configs.proofs.GroupLaws.{groups_after_are, innermost_names_are, no_open_groups}
use Rattle.cx_configs.proofs.ListLaws.{full_lists_stay}

-- lists that are added one after others
pub with_lists_append : (most : Option ℕ) (lists a b : List (List Name))
    → with_lists most lists (a ++ b) ≡ with_lists most (with_lists most lists a) b
unfolding with_lists
with_lists_append most lists a b = fold-append (with_list most) lists a b

module _ (most : Option ℕ) (settled : Entries (Unit {0})) (all : List Piece) (before : List (List Name)) where
  pub asks_start : Asks most settled all all [] before before
  asks_start = record {
    within = [];
    stand = record { listed = tt; are = sym (no_open_groups settled) };
    found = refl;
  }

  -- a line that begins a group adds its list
  with_asked_is : (b : Bool) (names : List Name) (lists : List (List Name)) (asked : List (List Name))
      → with_lists most lists (map (with_names settled []) (with_asked b names asked))
      ≡ with_lists most (if b then with_list most lists (with_names settled [] names) else lists)
      (map (with_names settled []) asked)
  unfolding with_lists
  with_asked_is true names lists asked = refl
  with_asked_is false names lists asked = refl

  next_lists : (groups : List Group) (lists : List (List Name)) (line : Line) (rest more : List Piece)
      → lines_of rest ≡ line ∷ lines_of more
      → with_lists most lists (lists_in settled groups rest)
      ≡ with_lists most (if begins_group line
      then with_list most lists (with_names settled [] (names_of (groups_behind line groups))) else lists)
      (lists_in settled (groups_behind line groups) more)
  unfolding asked_lists
  next_lists groups lists line rest more e =
      ap (λ lines. with_lists most lists (map (with_names settled []) (asked_lists groups lines))) e
      ∙ with_asked_is (begins_group line) (names_of (groups_behind line groups)) lists
      (asked_lists (groups_behind line groups) (lines_of more))

  module _ (rest more : List Piece) (groups after_groups : List NumberedGroup) (lists after : List (List Name)) (line : Line)
      (a : Asks most settled all rest groups before lists) (e : lines_of rest ≡ line ∷ lines_of more)
      (room : is_full most lists ≡ false) (stand : StandFor after after_groups (groups_after settled line (named lists groups)))
      (are : after ≡ lists_after settled line (named lists groups) lists) where
    behind : groups_after settled line (named lists groups) ≡ open_groups settled (groups_behind line a.within)
    behind = ap (groups_after settled line) a.stand.are ∙ groups_after_are settled line a.within

    list_is : innermost_names (groups_after settled line (named lists groups)) ≡ with_names settled [] (names_of (groups_behind line a.within))
    list_is = ap innermost_names behind ∙ innermost_names_are settled (groups_behind line a.within)

    after_is : after
        ≡ (if begins_group line then with_list most lists (with_names settled [] (names_of (groups_behind line a.within))) else lists)
    unfolding lists_after
    after_is =
        are ∙ ap (λ names. if begins_group line then with_list None lists names else lists) list_is
        ∙ ap (λ ls. if begins_group line then ls else lists)
        (with_room most lists (with_names settled [] (names_of (groups_behind line a.within))) room)

    pub asks_next : Asks most settled all more after_groups before after
    asks_next = record {
      within = groups_behind line a.within;
      stand = record { listed = stand.listed; are = stand.are ∙ behind };
      found =
          ap (λ ls. with_lists most ls (lists_in settled (groups_behind line a.within) more)) after_is
          ∙ sym (next_lists a.within lists line rest more e) ∙ a.found;
    }

  pub asks_full : (rest : List Piece) (groups : List NumberedGroup) (lists : List (List Name))
      → Asks most settled all rest groups before lists → is_full most lists ≡ true
      → lists ≡ with_lists most before (lists_of settled (lines_of all))
  unfolding lists_of
  asks_full rest groups lists a full =
      sym (full_lists_stay most lists (lists_in settled a.within rest) full) ∙ a.found

  pub asks_end : (rest : List Piece) (groups : List NumberedGroup) (lists : List (List Name))
      → Asks most settled all rest groups before lists → rest ≡ []
      → lists ≡ with_lists most before (lists_of settled (lines_of all))
  unfolding lists_of asked_lists with_lists lines_of
  asks_end rest groups lists a e =
      sym (ap (λ pieces. fold (with_list most) lists (map (with_names settled []) (asked_lists a.within (lines_of pieces)))) e) ∙ a.found

-- a file more
pub lists_files_next : (shelf : Shelf) (most : Option ℕ) (settled : Entries (Unit {0})) (t u : List (List Name))
    (files : List ℕ) (i : ℕ) → i < length files
    → u ≡ with_lists most t (lists_of settled (lines_of (pieces_of shelf (get_or files i 0))))
    → with_lists most u (flat_map (lists_of settled) (lines_in shelf (drop (i + 1) files)))
    ≡ with_lists most t (flat_map (lists_of settled) (lines_in shelf (drop i files)))
lists_files_next shelf most settled t u files i below e =
    let first = lists_of settled (lines_of (pieces_of shelf (get_or files i 0))) in
    let rest = flat_map (lists_of settled) (lines_in shelf (drop (i + 1) files)) in
    ap (λ v. with_lists most v rest) e ∙ sym (with_lists_append most t first rest)
    ∙ ap (with_lists most t) (sym (flat_map-cons (lists_of settled) (lines_of (pieces_of shelf (get_or files i 0))) (lines_in shelf (drop (i + 1) files))))
    ∙ ap (λ fs. with_lists most t (flat_map (lists_of settled) (lines_in shelf fs))) (sym (drop_next files i 0 below))

pub lists_files_end : (shelf : Shelf) (most : Option ℕ) (settled : Entries (Unit {0})) (t : List (List Name))
    (files : List ℕ) (i : ℕ) → length files ≤ i
    → with_lists most t (flat_map (lists_of settled) (lines_in shelf (drop i files))) ≡ t
unfolding with_lists
lists_files_end shelf most settled t files i past =
    ap (λ fs. fold (with_list most) t (flat_map (lists_of settled) (lines_in shelf fs))) (drop_all i files past)
