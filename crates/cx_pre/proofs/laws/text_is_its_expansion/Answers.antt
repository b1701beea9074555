use Rattle.cx_pre.proofs.SectionLaws.{text_alone}
use Rattle.cx_pre.proofs.laws.text_is_its_expansion.Goals as goal

pub returns : goal.returns
returns c = λ shelf depth file s ts laid b h x. text_alone shelf depth file s ts laid b h x
