use Rattle.cx_input.proofs.ToldLaws.{told_by_input}
use Rattle.cx_input.proofs.laws.told_by_its_files.Goals as goal

pub returns : goal.returns
returns c = λ g h path of_g of_h same report told. told_by_input g h path same of_g of_h report told
