-- What an expansion answers.
use Rattle.std.specs.Prelude.{◌≡◌, ◌⊎◌, Result, Ok, Err}
use Rattle.cx_tokens.specs.Nodes.{tokens}
use Rattle.cx_macro.specs.declared.fault.MacroFault.{MacroFault}
use Rattle.cx_macro.specs.declared.fault.MacroFault.TheVariants.{NoMemory}
use Rattle.cx_macro.specs.declared.macros.Expanded.{Expanded}
use Rattle.cx_macro.specs.Expansion.{Outcome, expanded, refused}

-- the answer is an outcome, or memory ran out
abbrev pub Answers : Outcome → Result Expanded MacroFault → Type 0
Answers outcome (Ok x) = outcome ≡ expanded (tokens x.list.nodes) x.laid
Answers outcome (Err fault) = (outcome ≡ refused fault) ⊎ (fault ≡ NoMemory)
