use Rattle.cx_table.proofs.EntryLaws.{distinct}
use Rattle.cx_table.proofs.name_table.NameTable.len.Goals as goal

pub returns-clause-distinct : goal.returns-clause-distinct
returns-clause-distinct g c = distinct c.self.inside.entries.entries c.args.self.now c.len.ensures.unique c.self.view_is
