use Rattle.cx_library.proofs.LibraryLaws.{function_put, known_below}
use Rattle.cx_library.proofs.draft.Draft.describe.Goals as goal

pub invariant_of-self : goal.invariant_of-self
invariant_of-self c =
    let k = known_below _ c.args.name c.self.invariant in
    function_put c.put.result _ c.args.name c.describing.result _ c.self.invariant c.put.ensures.ok c.put.ensures.err c.put.ensures.distinct
    (rw (c.describing.ensures, c.in_ok-known.ensures, c.as_slice.ensures) k)
