-- Which group of a section is chosen, as its lines are asked in order.
use Rattle.std.proofs.Common.{◌≡◌, ℕ, List, [], ◌∷◌, Bool, true, false, sym, ap, ◌∙◌, subst}
use Rattle.cx_lex.specs.declared.piece.Piece.{Piece}
use Rattle.cx_lines.specs.Lines.{lines_of}
use Rattle.cx_lines.specs.Nesting.{from_part}
use Rattle.cx_pre.specs.declared.fault.PreFault.{PreFault}
use Rattle.cx_pre.specs.Conditions.{Choice, Chooses, Decides, another, chosen, decided, no_choice, no_decision, none_left, this_one, undecided}
use Rattle.cx_pre.specs.Stages.{Stage, with_laid}

module _ (first s new : Stage) (line asking : List Piece) (rest behind : List (List Piece)) where
  -- what the lines asked so far leave
  abbrev pub Left : Stage → List Piece → List (List Piece) → Type 0
  Left t asked lines = (c : Choice) → Chooses t asked lines c → Chooses first line rest c

  pub choice_on : (part : List Piece) (more : List (List Piece)) (laid : ℕ) → Left s asking behind → Decides s asking (decided false laid)
      → new ≡ with_laid laid s → from_part 0 behind ≡ part ∷ more → Left new part more
  choice_on part more laid left d is f = λ c h.
      left c (another part more d f (subst (λ t. Chooses t part more c) is h))

  pub choice_here : (laid : ℕ) → Left s asking behind → Decides s asking (decided true laid) → new ≡ with_laid laid s
      → Chooses first line rest (chosen new behind)
  choice_here laid left d is = left (chosen new behind) (subst (λ t. Chooses s asking behind (chosen t behind)) (sym is) (this_one d))

  pub choice_nowhere : (laid : ℕ) → Left s asking behind → Decides s asking (decided false laid) → new ≡ with_laid laid s
      → from_part 0 behind ≡ [] → Chooses first line rest (chosen new [])
  choice_nowhere laid left d is f = left (chosen new []) (subst (λ t. Chooses s asking behind (chosen t [])) (sym is) (none_left d f))

  pub choice_stops : (f : PreFault) → Left s asking behind → Decides s asking (undecided f) → Chooses first line rest (no_choice f)
  choice_stops f left d = left (no_choice f) (no_decision d)

  pub choice_ends : (pieces : List Piece) (b : Bool) → Left s asking behind → Decides s asking (decided b new.laid) × (new ≡ with_laid new.laid s)
      → b ≡ false → from_part 0 behind ≡ lines_of pieces → pieces ≡ [] → Chooses first line rest (chosen new (lines_of []))
  unfolding lines_of
  choice_ends pieces false left d n f e = choice_nowhere new.laid left d.0 d.1 (f ∙ ap lines_of e)
  choice_ends pieces true left d n f e = absurd cc
