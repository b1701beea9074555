use Rattle.std.proofs.Common.{◌≡◌, ◌++◌, drop, not}
use Rattle.std.specs.Prelude.{filter}
use Rattle.cx_configs.specs.Shapes.Sets.{is_settled}
use Rattle.cx_configs.proofs.configs.push_defined.Given as goal

abbrev pub invariant-loop-define : goal.invariant-loop-define
invariant-loop-define l =
    l.defines ++ filter (λ d. not (is_settled l.undefined d.name)) (drop l.define-index l.more)
    ≡ l.initial.defines ++ filter (λ d. not (is_settled l.undefined d.name)) l.more
