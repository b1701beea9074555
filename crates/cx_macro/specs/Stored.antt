-- The definition that a stored macro has.
use Rattle.cx_macro.specs.Macros.{Definition}

abbrev pub definition_of : Definition → Definition
definition_of d = d
