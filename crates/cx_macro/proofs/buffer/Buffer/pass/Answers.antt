use Rattle.std.proofs.Common.{◌≡◌, ◌<◌, [], ◌∷◌, ◌++◌, length, refl, sym, subst, ap, ◌∙◌}
use Rattle.cx_macro.specs.Shapes.Frames.{AreFrames, HaveFrames}
use Rattle.cx_macro.specs.Shapes.Segments.{Spread, ahead_of}
use Rattle.cx_macro.proofs.SegmentLaws as laws
use Rattle.cx_macro.proofs.buffer.Buffer.pass.Goals as goal

pub invariant_of-self-2 : goal.invariant_of-self-2
invariant_of-self-2 c =
    let ahead = c.self.inside.level.ahead in
    let f = laws.first_some c.self.inside.segments ahead (subst (λ (s : Spread). 0 < length s.ahead) (sym c.self.view_is) c.requires) in
    let known : AreFrames c.in_ok-frames.frames ahead =
    subst (λ o. HaveFrames o ahead) (sym c.replace.ensures.value ∙ c.in_ok-frames.ensures.ok_part) c.self.invariant in
    subst (AreFrames c.in_ok-frames-2.frames) (sym (c.in_ok-pass.ensures f.0 f.1 f.2).1) (c.in_ok-frames-2.ensures f.0 f.1 f.2 known)

pub returns : goal.returns
returns c = λ t rest first.
    let old = c.self.inside.segments in
    let ahead = c.self.inside.level.ahead in
    let begins : ahead_of old ahead ≡ t ∷ rest = ap (λ (s : Spread). s.ahead) c.self.view_is ∙ first in
    let f = laws.first_ahead old ahead t rest begins in
    let p = c.in_ok-pass.ensures t f.0 f.1 in
    let q = laws.passed old c.count_down.new.segments ahead c.pass.new.self.ahead f.0 rest t f.1 p.1 begins (c.if-not-count_down.ensures.one refl t f.0) in (
      p.0 ∙ ap (λ (s : Spread). s.done ++ t ∷ []) c.self.view_is,
      q.0,
      q.1 ∙ ap (λ (s : Spread). s.more) c.self.view_is,
    )
