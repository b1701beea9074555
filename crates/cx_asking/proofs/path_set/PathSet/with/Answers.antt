use Rattle.std.proofs.Common.{ap, sym, ◌∙◌, ◌++◌, [], ◌∷◌, is_some}
use Rattle.cx_table.specs.NameTable.{value_of, with_entry}
use Rattle.cx_asking.proofs.SetLaws.{name_new, path_new, path_there}
use Rattle.cx_asking.proofs.path_set.PathSet.with.Goals as goal

pub returns-then-contains : goal.returns-then-contains
returns-then-contains c =
    path_there c.self.inside.names c.self.inside.paths.items c.args.self c.args.path.now c.self.invariant c.self.view_is
    (ap (λ path. is_some (value_of c.self.inside.names path)) (sym c.as_bytes.ensures) ∙ sym c.contains.ensures ∙ c.if-contains.true)

pub invariant_of-result : goal.invariant_of-result
invariant_of-result c =
    name_new c.self.inside.names c.insert.new.self c.self.inside.paths.items c.args.path.now c.push.new.self.items c.self.invariant
    (ap (λ path. is_some (value_of c.self.inside.names path)) (sym c.as_bytes.ensures) ∙ sym c.contains.ensures ∙ c.if-contains.false)
    (c.in_ok-insert.ensures.ok ∙ ap (λ name. with_entry name tt c.self.inside.names) (c.in_ok-name.ensures ∙ c.as_bytes-2.ensures))
    (c.in_ok-push.ensures.items ∙ ap (λ path. c.self.inside.paths.items ++ path ∷ []) c.in_ok-copy.ensures)

pub returns : goal.returns
returns c =
    path_new c.self.inside.names c.self.inside.paths.items c.args.self c.args.path.now c.push.new.self.items c.self.invariant c.self.view_is
    (ap (λ path. is_some (value_of c.self.inside.names path)) (sym c.as_bytes.ensures) ∙ sym c.contains.ensures ∙ c.if-contains.false)
    (c.in_ok-push.ensures.items ∙ ap (λ path. c.self.inside.paths.items ++ path ∷ []) c.in_ok-copy.ensures)
