use Rattle.std.proofs.Common.{◌≡◌, ◌<◌, ◌+◌, List, [], ◌++◌, length, map}
use Rattle.cx_first.specs.Tree.{Form, form_of}
use Rattle.cx_first.specs.Names.{Names}
use Rattle.cx_first.specs.Grammar.{Body}
use Rattle.cx_first.specs.declared.statements.Awaits.TheVariants as awaits
use Rattle.cx_first.proofs.reader.body.Given as goal

abbrev pub invariant-loop-rest : goal.invariant-loop-rest
invariant-loop-rest l = record {
  few : length l.names + length l.rest < 4294967296;
  found : (forms : List Form) (all : Names) → Body l.limit l.function l.awaits l.names l.rest forms all
      → Body l.limit l.function awaits.Statement [] l.tokens (map form_of l.statements ++ forms) all;
  only : (forms : List Form) (all : Names) → Body l.limit l.function awaits.Statement [] l.tokens forms all
      → (more : List Form) × (forms ≡ map form_of l.statements ++ more) × Body l.limit l.function l.awaits l.names l.rest more all;
}

abbrev pub decreases-loop-rest : goal.decreases-loop-rest
decreases-loop-rest l = length l.rest
