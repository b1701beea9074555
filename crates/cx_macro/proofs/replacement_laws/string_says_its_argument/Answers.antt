use Rattle.cx_macro.proofs.StringLaws.{string_says}
use Rattle.cx_macro.proofs.replacement_laws.string_says_its_argument.Goals as goal

pub returns : goal.returns
returns c = λ hash argument h. string_says hash argument h
