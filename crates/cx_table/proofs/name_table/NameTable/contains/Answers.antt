use Rattle.std.proofs.Common.{◌∙◌}
use Rattle.cx_table.proofs.EntryLaws.{some_found}
use Rattle.cx_table.proofs.name_table.NameTable.contains.Goals as goal

pub returns : goal.returns
returns g c = c.is_some.ensures ∙ some_found c.args.name.now c.self.inside.entries.entries c.args.self.now _ c.get.ensures.value c.self.view_is
