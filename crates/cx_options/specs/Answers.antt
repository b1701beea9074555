-- What reading the command line answers.
use Rattle.std.specs.Prelude.{◌≡◌, Result, Ok, Err}
use Rattle.cx_options.specs.declared.answer.Options.{Options}
use Rattle.cx_options.specs.declared.fault.WordFault.{WordFault}
use Rattle.cx_options.specs.declared.fault.WordFault.TheVariants.{Bad, NoMemory}
use Rattle.cx_options.specs.Command.{Refused}

-- the answer is an outcome, or memory ran out
abbrev pub Answers : Result Options Refused → Result Options WordFault → Type 0
Answers outcome (Ok options) = outcome ≡ Ok options
Answers outcome (Err (Bad word kind)) = outcome ≡ Err (record { word = word; kind = kind })
Answers outcome (Err NoMemory) = Unit {0}
