-- What sections and texts without directives come to.
use Rattle.std.proofs.Common.{◌≡◌, ℕ, ◌+◌, ◌≤◌, arith, List, [], ◌∷◌, ◌++◌, All, true, false, Option, Some, None, refl, sym, ap, ◌∙◌, subst, flat_map, append-nil}
use Rattle.std.proofs.lemmas.List.Elements.{All-head, All-tail}
use Rattle.std.proofs.lemmas.Bool.{or_right}
use Rattle.cx_tokens.specs.declared.token.Token.{Token}
use Rattle.cx_lex.specs.declared.piece.Piece.{Piece}
use Rattle.cx_macro.specs.Expansion.{ExpandsList, ends as no_tokens, expanded, most_laid, within}
use Rattle.cx_macro.proofs.PieceLaws.{one_piece}
use Rattle.cx_macro.proofs.OutcomeLaws.{list_same}
use Rattle.cx_lines.proofs.LineLaws.{lines_joined}
use Rattle.cx_lines.specs.Kinds.{after_text, begins_text, closes, ends_group, front_text, is_text, kind_of, opens, parts}
use Rattle.cx_lines.specs.Lines.{lines_of}
use Rattle.cx_lines.specs.Nesting.{Extent, IsInner, extent_of}
use Rattle.cx_lines.specs.Whole.{AreWhole, one_group}
use Rattle.cx_lines.specs.Whole as whole
use Rattle.cx_lines.proofs.NestLaws.{group_is_passed, section_is_passed}
use Rattle.cx_lines.proofs.WholeLaws.{whole_has_no_fault, whole_nested}
use Rattle.cx_lines.specs.declared.kind.LineKind.{LineKind}
use Rattle.cx_lines.specs.declared.kind.LineKind.TheVariants as kind_is
use Rattle.cx_lines.specs.declared.nesting.NestingFault.{NestingFault}
use Rattle.cx_directive.specs.Answers.{is_defined}
use Rattle.cx_directive.specs.Operands.{name_of, operands, tokens_of}
use Rattle.cx_pre.proofs.StepLaws.{end_leads, part_leads}
use Rattle.cx_shelf.specs.declared.shelf.Shelf.{Shelf}
use Rattle.cx_pre.specs.Choosing.{Comes, Enters, ends, section, text, text_tokens}
use Rattle.cx_pre.specs.Conditions.{Chooses, Decides, another, decided, name_is, no_condition, this_one, is_unconditional}
use Rattle.cx_pre.specs.Conditions as Conditions
use Rattle.cx_shelf.specs.Shelves.{pieces_of}
use Rattle.cx_pre.specs.Stages.{Outcome, Stage, through, with_laid, with_text}
use Rattle.cx_pre.specs.Starts.{in_file}

goes_on_after : (kind : LineKind) → closes kind ≡ true → is_unconditional kind ≡ true
goes_on_after kind_is.Endif h = refl
goes_on_after _ h = absurd cc

-- a section of one group that is not chosen
pub unchosen_group : (shelf : Shelf) (depth file : ℕ) (fault : Option NestingFault) (s : Stage) (laid : ℕ) (line end : List Piece)
    (group rest : List (List Piece)) (outcome : Outcome) → opens (kind_of line) ≡ true → Decides s line (decided false laid)
    → AreWhole group → closes (kind_of end) ≡ true
    → Comes shelf depth file fault (with_laid laid s) rest outcome → Comes shelf depth file fault s (line ∷ (group ++ end ∷ rest)) outcome
unchosen_group shelf depth file fault s laid line end group rest outcome o d g e c =
    section (with_laid laid s) rest o (another end rest d (group_is_passed group rest end (whole_nested g) (or_right (parts (kind_of end)) (closes (kind_of end)) e)) (this_one (no_condition (goes_on_after (kind_of end) e)))) c

-- the groups after a chosen one, up to the end of their section
pub rest_of_section : (shelf : Shelf) (depth file : ℕ) (fault : Option NestingFault) (s : Stage) (part : List Piece) (groups rest : List (List Piece))
    (outcome : Outcome) → parts (kind_of part) ≡ true → IsInner groups
    → Comes shelf depth file fault s rest outcome → Comes shelf depth file fault s (part ∷ (groups ++ rest)) outcome
rest_of_section shelf depth file fault s part groups rest outcome p i c =
    part_leads shelf file s s part (groups ++ rest) (part ∷ (groups ++ rest)) rest refl p (section_is_passed i rest) refl depth fault outcome c

-- the end of a section whose group was chosen
pub end_of_section : (shelf : Shelf) (depth file : ℕ) (fault : Option NestingFault) (s : Stage) (end : List Piece) (rest : List (List Piece))
    (outcome : Outcome) → closes (kind_of end) ≡ true → Comes shelf depth file fault s rest outcome
    → Comes shelf depth file fault s (end ∷ rest) outcome
end_of_section shelf depth file fault s end rest outcome e c = end_leads shelf file s s end rest (end ∷ rest) refl e refl depth fault outcome c

abbrev pub IsText : List Piece → Type 0
IsText line = is_text (kind_of line) ≡ true

all_front : (lines : List (List Piece)) → All IsText lines → front_text lines ≡ lines
unfolding front_text
all_front [] h = refl
all_front (line ∷ lines) h = rw (All-head IsText line lines h) (ap (λ l. line ∷ l) (all_front lines (All-tail IsText line lines h)))

none_after : (lines : List (List Piece)) → All IsText lines → after_text lines ≡ []
unfolding after_text
none_after [] h = refl
none_after (line ∷ lines) h = rw (All-head IsText line lines h) (none_after lines (All-tail IsText line lines h))

-- text opens and ends nothing
text_is_plain : (kind : LineKind) → is_text kind ≡ true → (opens kind ≡ false) × (ends_group kind ≡ false)
text_is_plain kind_is.Text h = (refl, refl)
text_is_plain _ h = absurd cc

pub whole_text : (lines : List (List Piece)) → All IsText lines → AreWhole lines
whole_text [] h = whole.no_lines
whole_text (line ∷ lines) h =
    let p = text_is_plain (kind_of line) (All-head IsText line lines h) in
    whole.plain p.0 p.1 (whole_text lines (All-tail IsText line lines h))

begins : (lines : List (List Piece)) (line : List Piece) (rest : List (List Piece)) → lines ≡ line ∷ rest → All IsText lines → begins_text lines ≡ true
begins lines line rest e h = subst (λ l. begins_text l ≡ true) (sym e) (All-head IsText line rest (subst (λ l. All IsText l) e h))

nothing_more : (shelf : Shelf) (depth file : ℕ) (fault : Option NestingFault) (s : Stage) (lines : List (List Piece)) → lines ≡ [] → fault ≡ None
    → Comes shelf depth file fault s lines (through s)
nothing_more shelf depth file fault s lines e f =
    subst (λ l. Comes shelf depth file fault s l (through s)) (sym e)
    (subst (λ t. Comes shelf depth file t s [] (through s)) (sym f) ends)

-- a file whose lines nest
whole_file : (shelf : Shelf) (depth file : ℕ) (s : Stage) (lines : List (List Piece)) (outcome : Outcome)
    → lines_of (pieces_of shelf file) ≡ lines → AreWhole lines → Comes shelf depth file None (in_file shelf file s) lines outcome
    → Enters shelf depth file s outcome
whole_file shelf depth file s lines outcome e n c =
    let x = ap extent_of e ∙ whole_has_no_fault lines n in
    subst (λ (t : Extent). Comes shelf depth file t.fault (in_file shelf file s) t.front outcome) (sym x) c

-- text without a directive is its own expansion
pub text_alone : (shelf : Shelf) (depth file : ℕ) (s : Stage) (ts : List Token) (laid : ℕ) → s.laid ≤ most_laid
    → All IsText (lines_of (pieces_of shelf file))
    → ExpandsList (in_file shelf file s).macros most_laid s.laid (tokens_of (pieces_of shelf file)) (expanded ts laid)
    → Enters shelf depth file s (through (with_text ts laid (in_file shelf file s)))
unfolding front_text
text_alone shelf depth file s ts laid b h x =
    whole_file shelf depth file s (lines_of (pieces_of shelf file)) (through (with_text ts laid (in_file shelf file s))) refl
    (whole_text (lines_of (pieces_of shelf file)) h) (shown (lines_of (pieces_of shelf file)) refl)
  where
    here : Stage
    here = in_file shelf file s

    pieces : List Piece
    pieces = pieces_of shelf file

    all : (lines : List (List Piece)) → lines ≡ lines_of pieces → text_tokens lines ≡ tokens_of pieces
    all lines e = ap (λ l. tokens_of (flat_map (λ line. line) l)) (all_front lines (subst (λ l. All IsText l) (sym e) h) ∙ e) ∙ ap tokens_of (lines_joined pieces)

    shown : (lines : List (List Piece)) → lines ≡ lines_of pieces → Comes shelf depth file None here lines (through (with_text ts laid here))
    shown [] e =
        let none : tokens_of pieces ≡ [] = sym (all [] e) in
        let same = list_same one_piece (subst (λ l. ExpandsList here.macros most_laid s.laid l (expanded ts laid)) none x) (within (omega (arith, b)) no_tokens) in
        nothing_changed same
      where
        nothing_changed : expanded ts laid ≡ expanded [] (s.laid + 0) → Comes shelf depth file None here [] (through (with_text ts laid here))
        nothing_changed q =
            let t : ts ≡ [] = cc in
            let l : laid ≡ s.laid + 0 = cc in
            let m : s.laid + 0 ≡ s.laid = omega (arith) in
            subst (λ o. Comes shelf depth file None here [] (through o))
            (sym (ap (λ k. with_text k laid here) t ∙ ap (λ k. with_text [] k here) (l ∙ m) ∙ ap (λ k. record here { tokens = k }) (append-nil s.tokens))) ends
    shown (line ∷ rest) e =
        text ts laid (begins (line ∷ rest) line rest refl (subst (λ l. All IsText l) (sym e) h))
        (subst (λ l. ExpandsList here.macros most_laid s.laid l (expanded ts laid)) (sym (all (line ∷ rest) e)) x)
        (nothing_more shelf depth file None (with_text ts laid here) (after_text (line ∷ rest)) (none_after (line ∷ rest) (subst (λ l. All IsText l) (sym e) h)) refl)

-- a file within `ifndef` of a name that is defined
pub closed_guard : (shelf : Shelf) (depth file : ℕ) (s : Stage) (guard end : List Piece) (group : List (List Piece))
    (name : List ℕ) → lines_of (pieces_of shelf file) ≡ guard ∷ (group ++ end ∷ []) → kind_of guard ≡ kind_is.Ifndef
    → name_of (operands guard) ≡ Some name → AreWhole group → closes (kind_of end) ≡ true
    → is_defined (in_file shelf file s).macros name ≡ true → Enters shelf depth file s (through (in_file shelf file s))
closed_guard shelf depth file s guard end group name e k n g c d =
    let opening : opens (kind_of guard) ≡ true = ap opens k in
    whole_file shelf depth file s (guard ∷ (group ++ end ∷ [])) (through (in_file shelf file s)) e
    (whole.section (group ++ end ∷ []) [] opening (one_group group end g c refl) whole.no_lines (sym (append-nil (group ++ end ∷ []))))
    (unchosen_group shelf depth file None (in_file shelf file s) s.laid guard end group [] (through (in_file shelf file s)) opening (name_is said n)
    g c ends)
  where
    said : Conditions.said_of (kind_of guard) (is_defined (in_file shelf file s).macros name) ≡ Some false
    said = ap (λ t. Conditions.said_of t (is_defined (in_file shelf file s).macros name)) k ∙ ap (λ b. Conditions.said_of kind_is.Ifndef b) d
