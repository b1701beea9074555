use Rattle.std.proofs.Common.{◌≡◌, ◌++◌, drop, map, not}
use Rattle.std.specs.Prelude.{filter}
use Rattle.cx_configs.specs.Configurations.{is_among}
use Rattle.cx_unit.specs.Names.{part_of}
use Rattle.cx_unit.proofs.names.push_defines.Given as goal

abbrev pub invariant-loop-define : goal.invariant-loop-define
invariant-loop-define l =
    l.parts ++ map part_of (filter (λ d. not (is_among l.options.undefined d.name)) (drop l.define-index l.define-items))
    ≡ l.initial.parts ++ map part_of (filter (λ d. not (is_among l.options.undefined d.name)) l.options.defines)
