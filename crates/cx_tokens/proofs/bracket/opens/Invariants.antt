use Rattle.std.proofs.Common.{◌≡◌, drop}
use Rattle.std.specs.List.{list_any}
use Rattle.cx_tokens.specs.Brackets.{is_punctuator, opens}
use Rattle.cx_tokens.proofs.bracket.opens.Given as goal

abbrev pub invariant-loop-opening : goal.invariant-loop-opening
invariant-loop-opening l = list_any (λ p. is_punctuator p.0.now l.token) (drop l.opening-index l.opening-items) ≡ opens l.token
