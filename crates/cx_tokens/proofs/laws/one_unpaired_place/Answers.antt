use Rattle.std.proofs.Common.{sym, ◌∙◌}
use Rattle.std.proofs.lemmas.Option.{same_Some}
use Rattle.cx_tokens.proofs.BracketLaws.{unpaired_fault}
use Rattle.cx_tokens.proofs.laws.one_unpaired_place.Goals as goal

pub returns : goal.returns
returns c = λ tokens some other h k. same_Some some other (sym (unpaired_fault h) ∙ unpaired_fault k)
