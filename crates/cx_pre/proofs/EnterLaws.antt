-- What comes of an include, and of a file.
use Rattle.std.proofs.Common.{◌≡◌, ℕ, suc, List, [], ◌∷◌, true, false, Option, Some, None, Result, Ok, Err, refl, sym, ap, ◌∙◌, subst, drop}
use Rattle.cx_base.specs.declared.place.Place.{Place}
use Rattle.cx_lex.specs.declared.piece.Piece.{Piece}
use Rattle.cx_lines.specs.Kinds.{kind_of}
use Rattle.cx_lines.specs.Lines.{lines_of}
use Rattle.cx_lines.specs.Nesting.{place_of}
use Rattle.cx_lines.specs.declared.kind.LineKind.TheVariants.{Include}
use Rattle.cx_lines.specs.declared.nesting.NestingFault.{NestingFault}
use Rattle.cx_directive.specs.declared.include.Target.{Target}
use Rattle.cx_directive.specs.Operands.{operands, target_of, tokens_of}
use Rattle.cx_pre.specs.declared.fault.PreFault.TheVariants.{BadDirective, Deep}
use Rattle.cx_shelf.specs.declared.shelf.Shelf.{Shelf}
use Rattle.cx_pre.specs.declared.stop.Stop.{Stop}
use Rattle.cx_pre.specs.declared.stop.Stop.TheVariants.{Fault, NoMemory}
use Rattle.cx_pre.specs.Choosing.{Comes, Does, Enters, at_end, back_in, directive, directive_stops, ends, enters, extent_in, includes_nothing, nowhere, once_more, too_deep}
use Rattle.cx_shelf.specs.Searches.{found}
use Rattle.cx_pre.specs.Shapes.Gives.{Gives, OnFault}
use Rattle.cx_shelf.specs.Shelves.{path_of}
use Rattle.cx_pre.specs.Stages.{Outcome, Stage, is_once, stopped, through, with_missing}
use Rattle.cx_pre.specs.Starts.{in_file}

-- what the operands of a line name
pub named_by_line : (line ops : List Piece) (r : Option Target) → ops ≡ drop 2 line → r ≡ target_of (tokens_of ops) → r ≡ target_of (operands line)
named_by_line line ops r o e = e ∙ ap (λ p. target_of (tokens_of p)) o

module _ (shelf : Shelf) (depth file : ℕ) (s : Stage) (line : List Piece) where
  pub names_nothing : (at : Place) → kind_of line ≡ Include → target_of (operands line) ≡ None → at ≡ place_of line
      → Does shelf depth file s line (stopped s.missing (BadDirective at))
  names_nothing at k t e = subst (λ p. Does shelf depth file s line (stopped s.missing (BadDirective p))) (sym e) (includes_nothing k t)

  pub is_too_deep : (target : Target) → kind_of line ≡ Include → target_of (operands line) ≡ Some target → depth ≡ 0
      → Does shelf depth file s line (stopped s.missing (Deep target.name.at))
  is_too_deep target k t e = subst (λ d. Does shelf d file s line (stopped s.missing (Deep target.name.at))) (sym e) (too_deep target k t)

  module _ (left : ℕ) (deeper : depth ≡ suc left) (target : Target) (k : kind_of line ≡ Include) (t : target_of (operands line) ≡ Some target) where
    pub leads_nowhere : (new : Stage) → found shelf (path_of shelf file) target ≡ None → new ≡ with_missing target.name s
        → Does shelf depth file s line (through new)
    leads_nowhere new f e =
        subst (λ d. Does shelf d file s line (through new)) (sym deeper)
        (subst (λ n. Does shelf (suc left) file s line (through n)) (sym e) (nowhere target k t f))

    pub is_passed : (other : ℕ) → found shelf (path_of shelf file) target ≡ Some other → is_once other s ≡ true
        → Does shelf depth file s line (through s)
    is_passed other f o = subst (λ d. Does shelf d file s line (through s)) (sym deeper) (once_more target other k t f o)

    pub is_entered : (other : ℕ) (inner : Outcome) (outcome : Outcome) → found shelf (path_of shelf file) target ≡ Some other
        → is_once other s ≡ false → Enters shelf left other s inner → outcome ≡ back_in shelf file inner → Does shelf depth file s line outcome
    is_entered other inner outcome f o h e =
        subst (λ d. Does shelf d file s line outcome) (sym deeper) (enters target other inner k t f o h e)

    pub is_gone_through : (other : ℕ) (mid new : Stage) → found shelf (path_of shelf file) target ≡ Some other → is_once other s ≡ false
        → Enters shelf left other s (through mid) → new ≡ in_file shelf file mid → Does shelf depth file s line (through new)
    is_gone_through other mid new f o h e = is_entered other (through mid) (through new) f o h (ap through e)

    pub is_left : (other : ℕ) (new : Stage) (stop : Stop) → found shelf (path_of shelf file) target ≡ Some other → is_once other s ≡ false
        → OnFault stop (λ x. Enters shelf left other s (stopped new.missing x)) → OnFault stop (λ x. Does shelf depth file s line (stopped new.missing x))
    is_left other new (Fault x) f o h = is_entered other (stopped new.missing x) (stopped new.missing x) f o h refl
    is_left other new NoMemory f o h = tt

-- what leads on from the first lines of a file
abbrev pub Left : Shelf → ℕ → ℕ → Stage → Stage → List (List Piece) → Type 0
Left shelf depth file first s lines =
    (outcome : Outcome) → Comes shelf depth file (extent_in shelf file).fault s lines outcome → Enters shelf depth file first outcome

module _ (shelf : Shelf) (depth file : ℕ) (first : Stage) where
  pub left_at_first : (s : Stage) (lines : List (List Piece)) → s ≡ in_file shelf file first → lines ≡ (extent_in shelf file).front
      → Left shelf depth file first s lines
  left_at_first s lines e f = λ outcome c.
      subst (λ l. Comes shelf depth file (extent_in shelf file).fault (in_file shelf file first) l outcome) f
      (subst (λ t. Comes shelf depth file (extent_in shelf file).fault t lines outcome) e c)

  pub left_after_include : (s new : Stage) (line : List Piece) (rest lines : List (List Piece)) → lines ≡ line ∷ rest
      → Left shelf depth file first s lines → Does shelf depth file s line (through new) → Left shelf depth file first new rest
  left_after_include s new line rest lines e left d = λ outcome c.
      left outcome (subst (λ l. Comes shelf depth file (extent_in shelf file).fault s l outcome) (sym e) (directive new d c))

  pub left_at_stop : (s new : Stage) (stop : Stop) (line : List Piece) (rest lines : List (List Piece)) → lines ≡ line ∷ rest
      → Left shelf depth file first s lines → OnFault stop (λ x. Does shelf depth file s line (stopped new.missing x))
      → OnFault stop (λ x. Enters shelf depth file first (stopped new.missing x))
  left_at_stop s new (Fault x) line rest lines e left d =
      left (stopped new.missing x)
      (subst (λ l. Comes shelf depth file (extent_in shelf file).fault s l (stopped new.missing x)) (sym e) (directive_stops new.missing x d))
  left_at_stop s new NoMemory line rest lines e left d = tt

  pub left_at_end : (s : Stage) (outcome : Outcome) → Left shelf depth file first s [] → outcome ≡ at_end (extent_in shelf file).fault s
      → Enters shelf depth file first outcome
  left_at_end s outcome left e = left outcome (subst (λ o. Comes shelf depth file (extent_in shelf file).fault s [] o) (sym e) ends)

  pub left_ends : (s new : Stage) (lines : List Piece) (fault : Option NestingFault) (r : Result (Unit {0}) Stop) → lines ≡ []
      → Left shelf depth file first s (lines_of lines) → fault ≡ (extent_in shelf file).fault → Gives (λ o. o ≡ at_end fault s) new r
      → Gives (Enters shelf depth file first) new r
  unfolding lines_of
  left_ends s new lines fault r e left f h = cases r h
    where
      none_left : Left shelf depth file first s []
      none_left = subst (λ l. Left shelf depth file first s (lines_of l)) e left

      cases : (r : Result (Unit {0}) Stop) → Gives (λ o. o ≡ at_end fault s) new r → Gives (Enters shelf depth file first) new r
      cases (Ok x) h = left_at_end s (through new) none_left (h ∙ ap (λ t. at_end t s) f)
      cases (Err (Fault x)) h = left_at_end s (stopped new.missing x) none_left (h ∙ ap (λ t. at_end t s) f)
      cases (Err NoMemory) h = tt
