use Rattle.std.proofs.Common.{◌≡◌, ◌&&◌, drop}
use Rattle.std.specs.List.{list_any}
use Rattle.cx_tokens.specs.Brackets.{fits, is_punctuator}
use Rattle.cx_tokens.proofs.bracket.fits.Given as goal

abbrev pub invariant-loop-opening : goal.invariant-loop-opening
invariant-loop-opening l = list_any (λ p. is_punctuator p.0.now l.opening_token && is_punctuator p.1.now l.closing_token) (drop l.opening-index l.opening-items) ≡ fits l.opening_token l.closing_token
