use Rattle.std.proofs.Common.{◌≤◌}
use Rattle.cx_tokens.specs.Nodes.{tokens}
use Rattle.cx_macro.specs.Shapes.Steps.{IsExpandingState, work}
use Rattle.cx_macro.proofs.steps.run.Given as goal

abbrev pub invariant-loop-done : goal.invariant-loop-done
invariant-loop-done l = record {
  within : l.state.laid ≤ l.bound;
  known : IsExpandingState l.macros l.bound l.fn.laid (tokens l.fn.list.nodes) l.state;
}

abbrev pub decreases-loop-done : goal.decreases-loop-done
decreases-loop-done l = work l.bound l.state.laid l.state.buffer.ahead l.state.buffer.more
