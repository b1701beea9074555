-- What units are told by, as the code has it.
use Rattle.cx_library.specs.Library.{macros_of}
use Rattle.cx_unit.specs.declared.ground.Ground as declared
use Rattle.cx_unit.specs.Units.{Ground}

-- the ground that the references lead to
abbrev pub ground_in : declared.Ground → Ground
ground_in g = record {
  limits = g.limits;
  options = g.options.now;
  macros = macros_of g.library.now;
  seen = g.answers.now;
  shelf = g.shelf.now;
  faults = g.faults.now;
}
