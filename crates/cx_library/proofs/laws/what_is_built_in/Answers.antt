use Rattle.std.proofs.Common.{refl}
use Rattle.cx_table.specs.NameTable.{value_of}
use Rattle.cx_library.specs.BuiltIn.{built_in}
use Rattle.cx_library.proofs.laws.what_is_built_in.Goals as goal

pub returns-clause-exit : goal.returns-clause-exit
unfolding built_in value_of
returns-clause-exit c = refl

pub returns-clause-malloc : goal.returns-clause-malloc
unfolding built_in value_of
returns-clause-malloc c = refl

pub returns-clause-free : goal.returns-clause-free
unfolding built_in value_of
returns-clause-free c = refl
