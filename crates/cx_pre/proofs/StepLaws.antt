-- What stands in front of lines leads on to the lines with which the text goes on.
use Rattle.std.proofs.Common.{◌≡◌, ℕ, List, ◌∷◌, true, Some, refl, sym, ap, ◌∙◌, subst}
use Rattle.std.proofs.lemmas.Bool.{or_left, or_right}
use Rattle.cx_tokens.specs.declared.token.Token.{Token}
use Rattle.cx_lex.specs.declared.piece.Piece.{Piece}
use Rattle.cx_macro.specs.declared.fault.MacroFault.{MacroFault}
use Rattle.cx_macro.specs.Expansion.{ExpandsList, expanded, most_laid, refused}
use Rattle.cx_lines.specs.Kinds.{after_text, begins_text, closes, ends_group, kind_of, opens, parts}
use Rattle.cx_lines.proofs.NestLaws.{end_opens_not, part_closes_not, part_opens_not}
use Rattle.cx_lines.specs.Nesting.{after_section}
use Rattle.cx_pre.specs.declared.fault.PreFault.{PreFault}
use Rattle.cx_pre.specs.declared.fault.PreFault.TheVariants.{Macro}
use Rattle.cx_shelf.specs.declared.shelf.Shelf.{Shelf}
use Rattle.cx_pre.specs.declared.stop.Stop.{Stop}
use Rattle.cx_pre.specs.declared.stop.Stop.TheVariants.{Fault, NoMemory}
use Rattle.cx_pre.specs.Choosing.{Comes, after_directive, alone, directive, directive_stops, group_ends, section, section_stops, text, text_stops, text_tokens}
use Rattle.cx_pre.specs.Conditions.{Chooses, chosen, no_choice}
use Rattle.cx_pre.specs.Shapes.Gives.{Leads, OnFault, Stops}
use Rattle.cx_pre.specs.Stages.{Stage, stopped, through, with_text}

module _ (shelf : Shelf) (file : ℕ) (s new : Stage) where
  pub text_leads : (lines next : List (List Piece)) (made : List Token) → begins_text lines ≡ true
      → ExpandsList s.macros most_laid s.laid (text_tokens lines) (expanded made new.laid) → new ≡ with_text made new.laid s
      → next ≡ after_text lines → Leads shelf file s lines new next
  text_leads lines next made b e is n = λ depth fault o c.
      text made new.laid b e
      (subst (λ t. Comes shelf depth file fault t (after_text lines) o) is (subst (λ l. Comes shelf depth file fault new l o) n c))

  pub text_leads_nowhere : (lines : List (List Piece)) (f : PreFault) (refusal : MacroFault) → begins_text lines ≡ true → f ≡ Macro refusal
      → new.missing ≡ s.missing → ExpandsList s.macros most_laid s.laid (text_tokens lines) (refused refusal) → Stops shelf file s lines new f
  text_leads_nowhere lines f refusal b is m e = λ depth fault.
      subst (λ t. Comes shelf depth file fault s lines (stopped new.missing t)) (sym is)
      (subst (λ t. Comes shelf depth file fault s lines (stopped t (Macro refusal))) (sym m) (text_stops refusal b e))

  pub section_leads : (line : List Piece) (rest lines next : List (List Piece)) → lines ≡ line ∷ rest → opens (kind_of line) ≡ true
      → Chooses s line rest (chosen new next) → Leads shelf file s lines new next
  section_leads line rest lines next e o h = λ depth fault outcome c.
      subst (λ l. Comes shelf depth file fault s l outcome) (sym e) (section new next o h c)

  pub section_leads_nowhere : (line : List Piece) (rest lines : List (List Piece)) (f : PreFault) → lines ≡ line ∷ rest → opens (kind_of line) ≡ true
      → new.missing ≡ s.missing → Chooses s line rest (no_choice f) → Stops shelf file s lines new f
  section_leads_nowhere line rest lines f e o m h = λ depth fault.
      subst (λ l. Comes shelf depth file fault s l (stopped new.missing f)) (sym e)
      (subst (λ t. Comes shelf depth file fault s (line ∷ rest) (stopped t f)) (sym m) (section_stops f o h))

  pub group_leads : (line : List Piece) (rest lines next : List (List Piece)) → lines ≡ line ∷ rest → ends_group (kind_of line) ≡ true
      → after_section 0 lines ≡ next → new ≡ s → Leads shelf file s lines new next
  group_leads line rest lines next e o h is = λ depth fault outcome c.
      subst (λ l. Comes shelf depth file fault s l outcome) (sym e)
      (group_ends o (subst (λ l. Comes shelf depth file fault s (after_section 0 l) outcome) e
      (subst (λ l. Comes shelf depth file fault s l outcome) (sym h) (subst (λ t. Comes shelf depth file fault t next outcome) is c))))

  pub alone_leads : (line : List Piece) (rest lines : List (List Piece)) → lines ≡ line ∷ rest
      → after_directive (kind_of line) file s line ≡ Some (through new) → Leads shelf file s lines new rest
  alone_leads line rest lines e h = λ depth fault outcome c.
      subst (λ l. Comes shelf depth file fault s l outcome) (sym e) (directive new (alone h) c)

  pub alone_leads_nowhere : (line : List Piece) (rest lines : List (List Piece)) (f : PreFault) → lines ≡ line ∷ rest
      → after_directive (kind_of line) file s line ≡ Some (stopped new.missing f) → Stops shelf file s lines new f
  alone_leads_nowhere line rest lines f e h = λ depth fault.
      subst (λ l. Comes shelf depth file fault s l (stopped new.missing f)) (sym e) (directive_stops new.missing f (alone h))

  pub end_leads : (line : List Piece) (rest lines : List (List Piece)) → lines ≡ line ∷ rest → closes (kind_of line) ≡ true → new ≡ s
      → Leads shelf file s lines new rest
  unfolding after_section
  end_leads line rest lines e c is =
      let o = end_opens_not (kind_of line) c in
      group_leads line rest lines rest e (or_right (parts (kind_of line)) (closes (kind_of line)) c) (ap (after_section 0) e ∙ rw (o, c) refl) is

  pub part_leads : (line : List Piece) (rest lines next : List (List Piece)) → lines ≡ line ∷ rest → parts (kind_of line) ≡ true
      → after_section 0 rest ≡ next → new ≡ s → Leads shelf file s lines new next
  unfolding after_section
  part_leads line rest lines next e p a is =
      group_leads line rest lines next e (or_left (parts (kind_of line)) (closes (kind_of line)) p) (ap (after_section 0) e ∙ rw (part_opens_not (kind_of line) p, part_closes_not (kind_of line) p) a) is

  pub alone_stops : (stop : Stop) (line : List Piece) (rest lines : List (List Piece)) → lines ≡ line ∷ rest
      → OnFault stop (λ f. after_directive (kind_of line) file s line ≡ Some (stopped new.missing f)) → OnFault stop (λ f. Stops shelf file s lines new f)
  alone_stops (Fault f) line rest lines e h = alone_leads_nowhere line rest lines f e h
  alone_stops NoMemory line rest lines e h = tt
