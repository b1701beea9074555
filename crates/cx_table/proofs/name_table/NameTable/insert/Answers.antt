use Rattle.std.proofs.Common.{◌∙◌, refl}
use Rattle.cx_table.proofs.EntryLaws.{distinct, found_same, inserted}
use Rattle.cx_table.proofs.name_table.NameTable.insert.Goals as goal

pub returns-clause-ok : goal.returns-clause-ok
returns-clause-ok g c =
    inserted c.in_ok-name.name c.args.value c.args.name c.self.inside.entries.entries _ c.args.self.now c.in_ok-before.ensures.entries
    (c.in_ok-name.ensures.items ∙ c.as_slice.ensures) c.self.view_is

pub returns-clause-before : goal.returns-clause-before
returns-clause-before g c =
    found_same c.in_ok-name.name c.args.name c.self.inside.entries.entries c.args.self.now _ c.in_ok-before.ensures.old
    (c.in_ok-name.ensures.items ∙ c.as_slice.ensures) c.self.view_is

pub returns-clause-distinct : goal.returns-clause-distinct
returns-clause-distinct g c = distinct _ _ c.insert.ensures.unique refl
