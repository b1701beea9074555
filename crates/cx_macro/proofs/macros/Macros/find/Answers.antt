use Rattle.cx_macro.proofs.TableLaws.{found}
use Rattle.cx_macro.proofs.macros.Macros.find.Goals as goal

pub returns : goal.returns
returns c = found c.args.name.now c.self.inside.macros c.args.self.now c.get.result c.get.ensures c.self.view_is
