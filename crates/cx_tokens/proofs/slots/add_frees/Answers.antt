use Rattle.std.proofs.Common.{arith, ◌≡◌, ◌+◌, ◌∙◌, Some, ap, length, length-append, subst, sym}
use Rattle.std.specs.Prelude.{◌∷◌, []}
use Rattle.cx_tokens.specs.Shapes.Links.{IsAdded, free_slot}
use Rattle.cx_tokens.proofs.LinkSteps.{added_none, added_one}
use Rattle.cx_tokens.proofs.slots.add_frees.Goals as goal

pub loop-index-init : goal.loop-index-init
loop-index-init c = (added_none c.args.slots.now.items c.args.free, omega arith, (let e : c.args.slots.now.cap ≡ c.args.slots.now.cap = omega arith in e))

pub loop-index-preserved : goal.loop-index-preserved
loop-index-preserved c =
    let s = c.loop-index.slots.items in
    let n = c.add_free.result in
    let i = c.loop-index.invariant in
    let o = c.loop-index.slots.ok.0 in
    let a = added_one c.args.slots.now.items s c.args.free c.loop-index.last c.loop-index.index (omega (arith, i.1, o, c.requires.few)) i.0 in
    let b = subst (λ t. IsAdded c.args.slots.now.items c.args.free t (Some (length s)) (c.loop-index.index + 1)) (sym c.add_free.ensures.items) a in (
      subst (λ k. IsAdded c.args.slots.now.items c.args.free c.add_free.new.slots.items (Some k) (c.loop-index.index + 1)) (sym c.add_free.ensures.number) b,
      (let m = c.add_free.new.slots.ok.0 in let k = ap length c.add_free.ensures.items ∙ length-append s (free_slot c.loop-index.last ∷ []) in let q = i.1 in omega arith),
      c.add_free.ensures.room ∙ i.2,
    )
