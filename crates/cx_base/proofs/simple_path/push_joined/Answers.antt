use Rattle.std.proofs.Common.{string_bytes, ap}
use Rattle.cx_base.specs.Shapes.SimplePath.{texts_of}
use Rattle.cx_base.proofs.SimplePathLaws.{starts_with_first}
use Rattle.cx_base.proofs.simple_path.push_joined.Goals as goal

pub loop-component-init : goal.loop-component-init
loop-component-init c =
    starts_with_first (string_bytes c.args.text.now) c.in-Some.first.now.now (texts_of c.args.components.now) (texts_of c.in-Some.others.now)
    (string_bytes c.push_str.new.self) (ap texts_of c.in-Some.ensures.cases.0) c.in_ok-push_str.ensures.bytes
