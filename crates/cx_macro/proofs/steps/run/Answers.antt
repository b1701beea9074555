use Rattle.cx_tokens.specs.Nodes.{tokens}
use Rattle.cx_macro.specs.declared.expansion.Step.TheVariants.{Ends, Goes}
use Rattle.cx_macro.specs.Shapes.Steps.{StepIs}
use Rattle.cx_macro.proofs.ProgressLaws.{on_begun}
use Rattle.cx_macro.proofs.steps.run.Goals as goal

pub loop-done-init : goal.loop-done-init
loop-done-init c = record {
  within = c.requires;
  known = on_begun _ _ _ _ _ _ _ c.in_ok-new.ensures c.new-3.ensures;
}

pub loop-done-smaller : goal.loop-done-smaller
loop-done-smaller c =
    let s : StepIs c.args.macros.now c.args.bound c.loop-done.state (Goes c.in-Goes.next) = rw c.in-Goes.is at c.in_ok-done.ensures.new in
    s.less c.args.laid (tokens c.args.list.nodes) c.loop-done.invariant.known

pub returns-in-Ends-clause-partners : goal.returns-in-Ends-clause-partners
returns-in-Ends-clause-partners c =
    let s : StepIs c.args.macros.now c.args.bound c.loop-done.state (Ends c.in-Ends.done c.in-Ends.laid) = rw c.in-Ends.is at c.in_ok-done.ensures.new in
    (s.1 c.args.laid (tokens c.args.list.nodes) c.loop-done.invariant.known).1
