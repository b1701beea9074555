use Rattle.cx_table.proofs.EntryLaws.{found_at}
use Rattle.cx_table.proofs.name_table.NameTable.index_of.Goals as goal

pub returns-clause-index : goal.returns-clause-index
returns-clause-index g c = found_at c.args.name.now c.self.inside.entries.entries c.args.self.now _ c.get_index_of.ensures.index c.self.view_is
