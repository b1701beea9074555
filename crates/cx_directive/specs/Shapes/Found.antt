-- Parameters as the code finds them.
use Rattle.std.specs.Prelude.{ℕ, List, ◌++◌}
use Rattle.cx_directive.specs.declared.parameters.Parameters.{Parameters as found}
use Rattle.cx_directive.specs.Defines.{Parameters}

-- what they are
abbrev pub parameters_by : found → Parameters
parameters_by p = record { names = p.names; variadic = p.variadic; variable = p.variable }

-- parameters with names before them
abbrev pub with_names : List (List ℕ) → Parameters → Parameters
with_names names p =
    record { names = names ++ p.names; variadic = p.variadic; variable = p.variable }
