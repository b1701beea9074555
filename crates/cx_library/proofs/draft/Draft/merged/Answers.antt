use Rattle.std.proofs.Common.{◌∙◌, refl}
use Rattle.cx_library.proofs.LibraryLaws.{joined_below}
use Rattle.cx_library.proofs.MergeLaws.{merged_is}
use Rattle.cx_library.proofs.draft.Draft.merged.Goals as goal

pub invariant_of-result : goal.invariant_of-result
invariant_of-result c = record {
  functions = c.in_ok-functions.ensures.distinct;
  defines = c.in_ok-defines.ensures.distinct;
  pods = c.in_ok-pods.ensures.distinct;
  groups = λ name. rw (c.in_ok-functions.ensures.ok, c.in-Some.ensures.1) (joined_below _ _ c.self.invariant c.later.invariant name);
}

pub returns-in-Some : goal.returns-in-Some
returns-in-Some c =
    merged_is _ _ _ _ _ _ c.in_ok-functions.ensures.ok c.in-Some.ensures.1 c.in_ok-defines.ensures.ok c.in_ok-pods.ensures.ok
    ∙ rw (c.self.view_is, c.later.view_is) refl
