use Rattle.std.proofs.Common.{refl}
use Rattle.cx_table.proofs.EntryLaws.{distinct, found, removed}
use Rattle.cx_table.proofs.name_table.NameTable.remove.Goals as goal

pub returns-clause-value : goal.returns-clause-value
returns-clause-value g c = found c.args.name.now c.self.inside.entries.entries c.args.self.now _ c.shift_remove.ensures.value c.self.view_is

pub returns-clause-others : goal.returns-clause-others
returns-clause-others g c =
    removed c.args.name.now c.self.inside.entries.entries _ c.args.self.now c.shift_remove.ensures.entries
    c.shift_remove.ensures.updates.1 c.self.view_is

pub returns-clause-distinct : goal.returns-clause-distinct
returns-clause-distinct g c = distinct _ _ c.shift_remove.ensures.unique refl
