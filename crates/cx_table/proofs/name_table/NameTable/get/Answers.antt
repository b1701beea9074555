use Rattle.cx_table.proofs.EntryLaws.{found}
use Rattle.cx_table.proofs.name_table.NameTable.get.Goals as goal

pub returns : goal.returns
returns g c = found c.args.name.now c.self.inside.entries.entries c.args.self.now _ c.get.ensures.value c.self.view_is
