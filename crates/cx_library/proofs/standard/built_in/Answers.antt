use Rattle.std.proofs.Common.{refl}
use Rattle.cx_table.specs.NameTable.{value_of, with_entry}
use Rattle.cx_library.specs.BuiltIn.{built_in}
use Rattle.cx_library.proofs.standard.built_in.Goals as goal

pub returns : goal.returns
unfolding built_in value_of with_entry
returns c =
    rw (c.in_ok-library.ensures, c.in_ok-add_memory.ensures, c.in_ok-add_pods.ensures, c.in_ok-add_defines.ensures, c.in_ok-add_functions.ensures, c.new-draft.ensures)
    refl
