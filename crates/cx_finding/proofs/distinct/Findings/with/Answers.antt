use Rattle.std.proofs.Common.{◌∙◌, sym, ap}
use Rattle.cx_finding.specs.Distinct.{with_finding}
use Rattle.cx_finding.proofs.KeyLaws.{grown, stayed, keys_with}
use Rattle.cx_finding.proofs.distinct.Findings.with.Goals as goal
use Rattle.cx_finding.proofs.distinct.Findings.with.Goals.{then-branch+in_ok-push, else-branch}

pub returns : goal.returns
returns c =
    elim c.if-branch.branch [
      | then-branch+in_ok-push w ↦
          grown c.self.inside.found c.self.inside.keys.keys c.args.finding c.in_ok-key.key c.self.invariant c.in_ok-key.ensures c.if-branch.found
          (w.found-is ∙ w.in_ok-push.ensures.ok) (sym w.if-branch.true ∙ c.in_ok-insert.ensures.added)
      | else-branch w ↦
          stayed c.self.inside.found c.self.inside.keys.keys c.args.finding c.in_ok-key.key c.self.invariant c.in_ok-key.ensures c.if-branch.found w.found-is
          (sym w.if-branch.false ∙ c.in_ok-insert.ensures.added)
    ]
    ∙ ap (λ l. with_finding l c.args.finding) c.self.view_is

pub invariant_of-result : goal.invariant_of-result
invariant_of-result c =
    keys_with c.self.inside.found c.self.inside.keys.keys c.args.finding c.in_ok-key.key c.self.invariant c.in_ok-key.ensures c.if-branch.found _
    (elim c.if-branch.branch [
      | then-branch+in_ok-push w ↦
          grown c.self.inside.found c.self.inside.keys.keys c.args.finding c.in_ok-key.key c.self.invariant c.in_ok-key.ensures c.if-branch.found
          (w.found-is ∙ w.in_ok-push.ensures.ok) (sym w.if-branch.true ∙ c.in_ok-insert.ensures.added)
      | else-branch w ↦
          stayed c.self.inside.found c.self.inside.keys.keys c.args.finding c.in_ok-key.key c.self.invariant c.in_ok-key.ensures c.if-branch.found w.found-is
          (sym w.if-branch.false ∙ c.in_ok-insert.ensures.added)
    ]) c.in_ok-insert.ensures.keys
