use Rattle.std.proofs.Common.{◌∙◌, ap, sym}
use Rattle.cx_directive.specs.Answers.{is_defined}
use Rattle.cx_directive.specs.Operands.{name_of, tokens_of}
use Rattle.cx_pre.specs.Stages.{Stage}
use Rattle.cx_pre.proofs.stage.Stage.is_named.Goals as goal

pub returns-in-Some : goal.returns-in-Some
returns-in-Some c = (
  c.in-Some.name.now,
  ap (λ p. name_of (tokens_of p)) (sym c.operands.ensures) ∙ c.in-Some.ensures,
  c.is_defined.ensures ∙ ap (λ (s : Stage). is_defined s.macros c.in-Some.name.now) c.self.view_is,
)
