-- The files that the lines of a file lead to.
use Rattle.std.proofs.Common.{◌≡◌, ℕ, ◌<◌, Bool, true, false, cond, not, ◌||◌, nat_eq, nat_lt, List, [], ◌∷◌, Option, Some, None, fold, length, refl, sym, ap, ◌∙◌, subst, option_and_then, position}
use Rattle.std.specs.List.{cons_option, filter_map, list_any, position_or_len}
use Rattle.std.specs.Str.{is_utf8}
use Rattle.std.proofs.lemmas.Bool.{eqb-true, ltb-true}
use Rattle.cx_lex.specs.declared.piece.Piece.{Piece}
use Rattle.cx_lines.specs.Kinds.{kind_of}
use Rattle.cx_lines.specs.Lines.{lines_of}
use Rattle.cx_lines.specs.declared.kind.LineKind.{LineKind}
use Rattle.cx_lines.specs.declared.kind.LineKind.TheVariants.{Include}
use Rattle.cx_directive.specs.declared.include.Target.{Target}
use Rattle.cx_directive.specs.Operands.{operands, target_of}
use Rattle.cx_shelf.specs.declared.shelf.Shelf.{Shelf}
use Rattle.cx_shelf.specs.declared.shelf.Shelved.{Shelved}
use Rattle.cx_shelf.specs.Closures.{included, led_to, led_to_by, with_file}
use Rattle.cx_shelf.specs.Searches.{candidates, first_number, found}
use Rattle.cx_shelf.specs.Shelves.{number_of, path_of, pieces_of}

-- a number that is found is that of a file

position_below : (test : Shelved → Bool) (files : List Shelved) (n : ℕ) → position test files ≡ Some n → n < length files
position_below test files n e = at (nat_lt (position_or_len test files) (length files)) refl e
  where
    at : (b : Bool) → nat_lt (position_or_len test files) (length files) ≡ b → cond b (Some (position_or_len test files)) None ≡ Some n → n < length files
    at true t e = let same : position_or_len test files ≡ n = cc in subst (λ k. k < length files) same (ltb-true _ _ t)
    at false t e = absurd cc

module _ (shelf : Shelf) where
  number_below : (path : List ℕ) (n : ℕ) → number_of shelf path ≡ Some n → n < length shelf.files
  unfolding number_of
  number_below path n e = position_below _ shelf.files n e

  first_below : (paths : List (List ℕ)) (n : ℕ) → first_number shelf paths ≡ Some n → n < length shelf.files
  unfolding first_number
  first_below [] n e = absurd cc
  first_below (path ∷ paths) n e = at (number_of shelf path) refl (first_below paths n) e
    where
      at : (o : Option ℕ) → number_of shelf path ≡ o
          → (first_number shelf paths ≡ Some n → n < length shelf.files)
          → first_number shelf (path ∷ paths) ≡ Some n → n < length shelf.files
      at (Some k) t rest e = number_below path n (t ∙ (rw t at e))
      at None t rest e = rest (rw t at e)

  found_below : (includer : List ℕ) (target : Target) (n : ℕ) → found shelf includer target ≡ Some n → n < length shelf.files
  unfolding found
  found_below includer target n e = at (target.computed || not (is_utf8 target.name.name)) e
    where
      at : (b : Bool) → cond b None (first_number shelf (candidates shelf.folders includer target.name)) ≡ Some n → n < length shelf.files
      at true e = absurd cc
      at false e = first_below _ n e

  led_below : (includer : List ℕ) (kind : LineKind) (line : List Piece) (n : ℕ) → led_to_by shelf includer kind line ≡ Some n → n < length shelf.files
  led_below includer Include line n e = at (target_of (operands line)) e
    where
      at : (o : Option Target) → option_and_then (found shelf includer) o ≡ Some n → n < length shelf.files
      at (Some target) e = found_below includer target n e
      at None e = absurd cc
  led_below includer _ line n e = absurd cc

  lines_below : (includer : List ℕ) (lines : List (List Piece)) (n : ℕ) → list_any (nat_eq n) (filter_map (led_to shelf includer) lines) ≡ true → n < length shelf.files
  lines_below includer [] n h = absurd cc
  lines_below includer (line ∷ lines) n h =
      at (led_to shelf includer line) refl (lines_below includer lines n) h
    where
      at : (o : Option ℕ) → led_to shelf includer line ≡ o
          → (list_any (nat_eq n) (filter_map (led_to shelf includer) lines) ≡ true → n < length shelf.files)
          → list_any (nat_eq n) (cons_option o (filter_map (led_to shelf includer) lines)) ≡ true
          → n < length shelf.files
      at None t rest h = rest h
      at (Some k) t rest h = here (nat_eq n k) refl h
        where
          here : (b : Bool) → nat_eq n k ≡ b
              → (b || list_any (nat_eq n) (filter_map (led_to shelf includer) lines)) ≡ true
              → n < length shelf.files
          here true e h = led_below includer (kind_of line) line n (t ∙ ap Some (sym (eqb-true n k e)))
          here false e h = rest h

  pub included_below : (file other : ℕ) → list_any (nat_eq other) (included shelf file) ≡ true → other < length shelf.files
  unfolding included
  included_below file other h = lines_below (path_of shelf file) (lines_of (pieces_of shelf file)) other h

-- the loop over the lines of a file

-- these files, and what pieces lead to
abbrev pub and_led_to : Shelf → List ℕ → List ℕ → List Piece → List ℕ
and_led_to shelf includer files pieces = fold with_file files (filter_map (led_to shelf includer) (lines_of pieces))

pub all_of_file : (shelf : Shelf) (file : ℕ) (files : List ℕ) (pieces : List Piece) → pieces ≡ pieces_of shelf file
    → and_led_to shelf (path_of shelf file) files pieces ≡ fold with_file files (included shelf file)
unfolding included
all_of_file shelf file files pieces e = ap (and_led_to shelf (path_of shelf file) files) e

module _ (shelf : Shelf) (includer : List ℕ) where
  pub after_line : (files : List ℕ) (pieces rest line : List Piece) → lines_of pieces ≡ line ∷ lines_of rest
      → and_led_to shelf includer files pieces ≡ fold with_file files (cons_option (led_to shelf includer line) (filter_map (led_to shelf includer) (lines_of rest)))
  after_line files pieces rest line e = ap (λ lines. fold with_file files (filter_map (led_to shelf includer) lines)) e

  pub line_leads : (files new : List ℕ) (pieces rest line : List Piece) (other : ℕ) → lines_of pieces ≡ line ∷ lines_of rest
      → Some other ≡ led_to shelf includer line → new ≡ with_file files other
      → and_led_to shelf includer new rest ≡ and_led_to shelf includer files pieces
  line_leads files new pieces rest line other e l n =
      ap (λ now. and_led_to shelf includer now rest) n
      ∙ ap (λ o. fold with_file files (cons_option o (filter_map (led_to shelf includer) (lines_of rest)))) l ∙ sym (after_line files pieces rest line e)

  pub line_leads_nowhere : (files : List ℕ) (pieces rest line : List Piece) → lines_of pieces ≡ line ∷ lines_of rest
      → None ≡ led_to shelf includer line → and_led_to shelf includer files rest ≡ and_led_to shelf includer files pieces
  line_leads_nowhere files pieces rest line e l =
      ap (λ o. fold with_file files (cons_option o (filter_map (led_to shelf includer) (lines_of rest)))) l ∙ sym (after_line files pieces rest line e)

  pub at_the_end : (files : List ℕ) (pieces : List Piece) → pieces ≡ [] → and_led_to shelf includer files pieces ≡ files
  unfolding lines_of
  at_the_end files pieces e = ap (and_led_to shelf includer files) e
