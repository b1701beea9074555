use Rattle.std.proofs.Common.{◌∙◌, ap}
use Rattle.cx_table.specs.NameTable.{with_entry}
use Rattle.cx_first.proofs.NameLaws.{declared}
use Rattle.cx_first.proofs.names.Names.declare.Goals as goal

pub returns : goal.returns
returns c =
    declared _ _ _ _ c.self.view_is (c.in_ok-insert.ensures.ok ∙ ap (λ n. with_entry n tt c.self.inside.names) c.in_ok-name.ensures) c.requires
