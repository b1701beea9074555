use Rattle.std.proofs.Common.{rules}
use Rattle.cx_base.specs.Shapes.SimplePath.{texts_of}
use Rattle.cx_base.proofs.SimplePathLaws.{takes_one, takes_last}
use Rattle.cx_base.proofs.simple_path.components_left.Goals as goal

pub loop-component-preserved : goal.loop-component-preserved
loop-component-preserved c = (
  search rules,
  takes_one c.args.path.now c.loop-component.rest.now c.in-Some.more.now c.in-Some.component.now (texts_of c.loop-component.left.items)
      (texts_of c.push_component.new.left.items) c.loop-component.invariant.1 c.in-Some.ensures.components c.in_ok-push_component.ensures,
)

pub returns : goal.returns
returns c =
    takes_last c.args.path.now c.loop-component.rest.now (texts_of c.loop-component.left.items) (texts_of c.push_component-2.new.left.items)
    c.loop-component.invariant.1 c.in_default.ensures.components c.in_ok-push_component-2.ensures
