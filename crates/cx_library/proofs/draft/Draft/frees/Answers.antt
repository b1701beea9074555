use Rattle.std.proofs.Common.{◌<◌, ◌-◌, arith, subst, sym}
use Rattle.cx_library.specs.Library.{Contents}
use Rattle.cx_library.proofs.LibraryLaws.{function_put, in_group_below, known_below}
use Rattle.cx_library.proofs.draft.Draft.frees.Goals as goal

pub invariant_of-self : goal.invariant_of-self
invariant_of-self c =
    let k = known_below _ c.args.name c.self.invariant in
    let some : 0 < c.self.inside.groups = subst (λ (l : Contents). 0 < l.groups) (sym c.self.view_is) c.requires in
    let below : c.self.inside.groups - 1 < c.self.inside.groups = omega arith in
    function_put c.put.result _ c.args.name c.freeing.result _ c.self.invariant c.put.ensures.ok c.put.ensures.err c.put.ensures.distinct
    (rw (c.freeing.ensures, c.in_ok-known.ensures, c.as_slice.ensures) (in_group_below _ _ _ k.0, below))
