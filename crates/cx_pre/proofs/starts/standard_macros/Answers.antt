use Rattle.std.proofs.Common.{ap, ◌∙◌}
use Rattle.cx_directive.specs.Defines.{object_like}
use Rattle.cx_macro.specs.Made.{definition_by}
use Rattle.cx_pre.proofs.StartLaws.{standard_is}
use Rattle.cx_pre.proofs.starts.standard_macros.Goals as goal

pub returns : goal.returns
returns c =
    standard_is c.new-macros.result c.put.new.macros c.put-2.new.macros c.put-3.new.macros (definition_by c.in_ok-line.line) (definition_by c.in_ok-standard.standard)
    (definition_by c.in_ok-version.version) c.new-macros.ensures (c.in_ok-line.ensures.definition ∙ ap object_like c.new.ensures.items) c.in_ok-put.ensures
    c.in_ok-standard.ensures.definition c.in_ok-put-2.ensures c.in_ok-version.ensures.definition c.in_ok-put-3.ensures
