use Rattle.std.proofs.Common.{◌≡◌, ◌-◌, ◌++◌, [], ◌∷◌, None, Some, suc, true, refl, sym, subst, arith}
use Rattle.cx_macro.specs.Shapes.Frames.{IsAfter}
use Rattle.cx_macro.specs.Shapes.Segments.Cuts.{cuts_none}
use Rattle.cx_macro.specs.Shapes.Segments.{CutsText}
use Rattle.cx_macro.proofs.CallLaws.{behind_arguments-nil, cuts_more, named_done, named_few, named_more}
use Rattle.cx_macro.proofs.arguments.named_arguments.Goals as goal

pub loop-left-init : goal.loop-left-init
loop-left-init c = λ ts end i. (
  [],
  Some ts,
  behind_arguments-nil _,
  subst (λ s. CutsText s ts [] (Some ts)) (sym c.new-segments.ensures.items) (λ closing behind. cuts_none),
  (ts, refl, i),
)

pub returns-in_default : goal.returns-in_default
returns-in_default c = λ ts end h.
    let i = c.loop-left.invariant ts end h in
    let one_more : c.loop-left.left ≡ suc (c.loop-left.left - 1) = omega arith in
    let none : i.1 ≡ None = subst (λ o. IsAfter o i.1 end) c.in_default.is i.4 in
    named_few i.0 c.loop-left.left (c.loop-left.left - 1) i.1 _ i.2 one_more none

pub loop-left-preserved : goal.loop-left-preserved
loop-left-preserved c = λ ts end h.
    let i = c.loop-left.invariant ts end h in
    let a : IsAfter (Some c.in-Some.text) i.1 end = subst (λ o. IsAfter o i.1 end) c.in-Some.is i.4 in
    let cut = c.cut_at_comma-tokens.ensures a.0 end a.2 in
    let one_more : c.loop-left.left ≡ suc (c.loop-left.left - 1) = omega arith in (
      i.0 ++ cut.0 ∷ [],
      cut.1,
      named_more i.0 (i.0 ++ cut.0 ∷ []) c.loop-left.left (c.loop-left.left - 1) i.1 cut.1 a.0 cut.0 _ i.2 one_more a.1 cut.2 refl,
      cuts_more c.loop-left.segments.items c.push.new.self.items ts a.0 cut.0 i.0 i.1 cut.1
          (record { tokens = c.cut_at_comma-tokens.result.0; is_ended = true }) i.3 a.1 cut.2 cut.3 refl c.in_ok-push.ensures.items,
      cut.4,
    )

pub returns : goal.returns
returns c = λ ts end h.
    let i = c.loop-left.invariant ts end h in (i.0, i.1, named_done i.0 c.loop-left.left i.1 _ i.2 (omega arith), i.3, i.4)
