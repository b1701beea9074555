-- The definition that a macro has.
use Rattle.cx_tokens.specs.Nodes.{tokens}
use Rattle.cx_macro.specs.declared.macros.Macro.{Macro}
use Rattle.cx_macro.specs.Macros.{Definition}

abbrev pub definition_by : Macro → Definition
definition_by m = record { parameters = m.parameters; variadic = m.variadic; body = tokens m.body.nodes }
