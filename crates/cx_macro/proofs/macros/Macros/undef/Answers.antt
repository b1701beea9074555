use Rattle.cx_macro.proofs.TableLaws.{taken}
use Rattle.cx_macro.proofs.macros.Macros.undef.Goals as goal

pub returns : goal.returns
returns c = taken c.args.name.now c.self.inside.macros c.remove.new.self c.args.self.now c.remove.ensures.others c.self.view_is
