use Rattle.std.proofs.Common.{◌≡◌, length}
use Rattle.cx_options.specs.Command.{command}
use Rattle.cx_options.specs.Shapes.Reading.{read}
use Rattle.cx_options.proofs.command.read.Given as goal

abbrev pub invariant-loop-given : goal.invariant-loop-given
invariant-loop-given l = read l.options l.left ≡ command l.fn.words

abbrev pub decreases-loop-given : goal.decreases-loop-given
decreases-loop-given l = length l.left
