use Rattle.std.proofs.Common.{◌≡◌, ◌∷◌, ◌++◌, Some, sym, ◌∙◌, ap, subst}
use Rattle.std.proofs.lemmas.Result.{on_ok_weaker}
use Rattle.cx_macro.specs.Shapes.Counting.{bracketed}
use Rattle.cx_macro.specs.Shapes.Segments.{Spread, ahead_of}
use Rattle.cx_macro.proofs.SegmentLaws as laws
use Rattle.cx_macro.proofs.buffer.Buffer.cut_off.Goals as goal

pub returns : goal.returns
returns c =
    on_ok_weaker c.put_before.result
    (λ put b raw found counted cuts.
    let old = c.self.inside.segments in
    let ahead = c.self.inside.level.ahead in
    let brackets : bracketed 0 (ahead_of old ahead) ≡ Some b = subst (λ (s : Spread). bracketed 0 s.ahead ≡ Some b) (sym c.self.view_is) found in
    let behind = c.count_off.ensures b.inner b.closing b.after ahead (laws.bracketed_whole (ahead_of old ahead) b brackets) counted in (
      ap (λ (s : Spread). s.done) c.self.view_is,
      laws.cut old c.count_off.new.segments c.put_before.new.segments c.args.news.items ahead raw b cuts behind put ∙ ap (λ (s : Spread). raw ++ b.after ∷ s.more) c.self.view_is,
    ))
    c.put_before.ensures
