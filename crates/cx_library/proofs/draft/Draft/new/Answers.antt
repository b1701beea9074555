use Rattle.cx_library.proofs.LibraryLaws.{empty_is_library}
use Rattle.cx_library.proofs.draft.Draft.new.Goals as goal

pub invariant_of-result : goal.invariant_of-result
invariant_of-result c = rw (c.new.ensures, c.new-2.ensures, c.new-3.ensures) empty_is_library
