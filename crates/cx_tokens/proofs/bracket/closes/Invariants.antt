use Rattle.std.proofs.Common.{◌≡◌, drop}
use Rattle.std.specs.List.{list_any}
use Rattle.cx_tokens.specs.Brackets.{is_punctuator, closes}
use Rattle.cx_tokens.proofs.bracket.closes.Given as goal

abbrev pub invariant-loop-closing : goal.invariant-loop-closing
invariant-loop-closing l = list_any (λ p. is_punctuator p.1.now l.token) (drop l.closing-index l.closing-items) ≡ closes l.token
