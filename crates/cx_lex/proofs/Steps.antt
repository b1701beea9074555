-- How a reading goes on with one character.
use Rattle.std.proofs.Common.{◌≡◌, ℕ, List, [], ◌∷◌, Some, None, Bool, true, false, not, cond, ◌==◌, ◌&&◌, refl}
use Rattle.std.proofs.lemmas.Bool.{cond-true, cond-false}
use Rattle.cx_lex.specs.declared.character.Character.{Character}
use Rattle.cx_lex.specs.declared.scan.Scan.{Scan}
use Rattle.cx_lex.specs.declared.scan.Scan.TheVariants.{InName, InNumber, InQuotes, InHeader, InLineComment, InBlockComment, Closed}
use Rattle.cx_lex.specs.Characters.{is_word}
use Rattle.cx_lex.specs.Forms.{goes_on}
use Rattle.cx_lex.specs.Shapes.Scanning.{kept_if, quoted_step, scanned, step_of}
use Rattle.cx_lex.proofs.Scans.{scanned_end, scanned_stop}

pub kept_true : (k : Bool) (s : Scan) → k ≡ true → kept_if k s ≡ Some s
unfolding kept_if
kept_true k s e = cond-true k (Some s) None e

pub kept_false : (k : Bool) (s : Scan) → k ≡ false → kept_if k s ≡ None
unfolding kept_if
kept_false k s e = cond-false k (Some s) None e

pub kept_some : (k : Bool) (s t : Scan) → kept_if k s ≡ Some t → (k ≡ true) × (s ≡ t)
unfolding kept_if
kept_some true s t e = (refl, cc)
kept_some false s t e = absurd cc

pub kept_none : (k : Bool) (s : Scan) → kept_if k s ≡ None → k ≡ false
unfolding kept_if
kept_none true s e = absurd cc
kept_none false s e = refl

pub name_step : (c : Character) → step_of InName c ≡ kept_if (is_word c.code) InName
unfolding step_of
name_step c = refl

pub number_step : (last : ℕ) (c : Character) → step_of (InNumber last) c ≡ kept_if (goes_on last c.code) (InNumber c.code)
unfolding step_of
number_step last c = refl

pub quotes_step : (quote : ℕ) (paired : Bool) (c : Character) → step_of (InQuotes quote paired) c ≡ kept_if (not c.in_newline) (quoted_step quote paired c.code)
unfolding step_of
quotes_step quote paired c = refl

pub header_step : (close : ℕ) (c : Character) → step_of (InHeader close) c ≡ kept_if (not c.in_newline) (cond (c.code == close) Closed (InHeader close))
unfolding step_of
header_step close c = refl

pub line_step : (c : Character) → step_of InLineComment c ≡ kept_if (not c.in_newline) InLineComment
unfolding step_of
line_step c = refl

pub block_step : (star : Bool) (c : Character) → step_of (InBlockComment star) c ≡ Some (cond (star && (c.code == 47)) Closed (InBlockComment (c.code == 42)))
unfolding step_of
block_step star c = refl

pub closed_step : (c : Character) → step_of Closed c ≡ None
unfolding step_of
closed_step c = refl

pub scanned_closed : (cs : List Character) → scanned Closed cs ≡ record { taken = []; end = Closed; rest = cs }
scanned_closed [] = scanned_end Closed
scanned_closed (c ∷ cs) = scanned_stop Closed c cs (closed_step c)
