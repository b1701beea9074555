use Rattle.std.proofs.Common.{OnErr, ap, subst, sym}
use Rattle.std.proofs.lemmas.Result.{err_from_is_err_and}
use Rattle.cx_tokens.specs.Brackets.{IsPaired}
use Rattle.cx_tokens.specs.Simplified.{IsPartlySimplified}
use Rattle.cx_tokens.specs.Shapes.Sweeping.{IsSwept}
use Rattle.cx_tokens.proofs.SweepSteps.{sweeps_less, sweeps_on, swept_end, swept_paired, swept_start, swept_stop}
use Rattle.cx_tokens.proofs.token_list.TokenList.simplify.Goals as goal

pub loop-at-init : goal.loop-at-init
loop-at-init c = swept_start c.args.self.now.nodes c.first-at.result c.first-at.ensures.node

pub step-requires-clause-paired : goal.step-requires-clause-paired
step-requires-clause-paired c = swept_paired c.args.self.now.nodes c.loop-at.self.nodes c.loop-at.at c.requires.paired c.are_numbered.ensures.distinct c.loop-at.invariant

pub returns-in_err-at-clause-paired : goal.returns-in_err-at-clause-paired
returns-in_err-at-clause-paired c =
    subst (λ v. IsPaired v.nodes) (sym c.in_err-at.ensures.err)
    (swept_paired c.args.self.now.nodes c.loop-at.self.nodes c.loop-at.at c.requires.paired c.are_numbered.ensures.distinct c.loop-at.invariant)

pub returns-in_err-at-clause-err : goal.returns-in_err-at-clause-err
returns-in_err-at-clause-err c =
    let all = c.args.self.now.nodes in
    let p = err_from_is_err_and c.from_residual.result c.from_residual.ensures.1 in
    let s = swept_stop all c.loop-at.self.nodes c.step.new.list.nodes c.in-Some.node (ap (λ v. v.nodes) c.in_err-at.ensures.err) c.requires.paired c.are_numbered.ensures.distinct c.in_err-at.ensures.string
    (subst (IsSwept all c.loop-at.self.nodes) c.in-Some.is c.loop-at.invariant) in
    subst (λ r. OnErr r (IsPartlySimplified all c.step.new.list.nodes)) (sym p.1) s

pub loop-at-smaller : goal.loop-at-smaller
loop-at-smaller c =
    sweeps_less c.args.self.now.nodes c.loop-at.self.nodes c.step.new.list.nodes c.in-Some.node c.loop-at.at c.in_ok-at.at c.in-Some.is c.in_ok-at.ensures.swept c.requires.paired c.are_numbered.ensures.distinct c.loop-at.invariant

pub loop-at-preserved : goal.loop-at-preserved
loop-at-preserved c =
    let all = c.args.self.now.nodes in
    (sweeps_on all c.loop-at.self.nodes c.step.new.list.nodes c.in-Some.node c.in_ok-at.at c.in_ok-at.ensures.swept c.requires.paired c.are_numbered.ensures.distinct (subst (IsSwept all c.loop-at.self.nodes) c.in-Some.is c.loop-at.invariant)).swept

pub returns-clause-paired : goal.returns-clause-paired
returns-clause-paired c = swept_paired c.args.self.now.nodes c.loop-at.self.nodes c.loop-at.at c.requires.paired c.are_numbered.ensures.distinct c.loop-at.invariant

pub returns-clause-ok : goal.returns-clause-ok
returns-clause-ok c = swept_end c.args.self.now.nodes c.loop-at.self.nodes c.loop-at.at c.in_default.is c.requires.paired c.are_numbered.ensures.distinct c.loop-at.invariant
