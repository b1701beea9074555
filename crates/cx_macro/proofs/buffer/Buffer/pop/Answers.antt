use Rattle.std.proofs.Common.{◌≡◌, [], ◌∷◌, MatchOption, refl, subst}
use Rattle.cx_macro.specs.Shapes.Segments.{Spread, ahead_of, more_of, spread_of}
use Rattle.cx_macro.proofs.SegmentLaws as laws
use Rattle.cx_macro.proofs.buffer.Buffer.pop.Goals as goal

pub returns : goal.returns
returns c =
    let segments = c.count_down.new.segments in
    let level = c.pop_first.new.level in
    subst
    (λ (v : Spread). MatchOption c.in_ok-token.token ((v.ahead ≡ []) × (spread_of segments level ≡ v))
    (λ t. (v.ahead ≡ t ∷ ahead_of segments level.ahead) × (level.done ≡ v.done) × (more_of segments level.ahead ≡ v.more)))
    c.self.view_is
    (laws.popped c.self.inside.segments segments c.self.inside.level level c.in_ok-token.token (c.if-not-count_down.ensures.one refl) (c.if-not-count_down.ensures.end refl)
    c.in_ok-token.ensures.token)
