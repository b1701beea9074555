use Rattle.std.proofs.Common.{subst}
use Rattle.cx_library.specs.Library.{IsLibrary}
use Rattle.cx_library.proofs.draft.Draft.function.Goals as goal

pub returns-in-None-clause-whole : goal.returns-in-None-clause-whole
returns-in-None-clause-whole c = subst IsLibrary c.self.view_is c.self.invariant

pub returns-in-Some-clause-whole : goal.returns-in-Some-clause-whole
returns-in-Some-clause-whole c = subst IsLibrary c.self.view_is c.self.invariant
