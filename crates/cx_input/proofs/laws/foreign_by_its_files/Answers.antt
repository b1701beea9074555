use Rattle.cx_input.proofs.ToldLaws.{foreign_by_input}
use Rattle.cx_input.proofs.laws.foreign_by_its_files.Goals as goal

pub returns : goal.returns
returns c = λ g h path of_g of_h same foreign. foreign_by_input g h path same of_g of_h foreign
