use Rattle.std.proofs.Common.{◌≡◌, ◌-◌, length, refl, ap, ◌∙◌}
use Rattle.cx_macro.proofs.FrameLaws as laws
use Rattle.cx_macro.proofs.SegmentLaws.{bracketed_whole_at}
use Rattle.cx_macro.proofs.buffer.closing_ahead.Goals as goal

pub returns-in_err-frame : goal.returns-in_err-frame
returns-in_err-frame c = λ ts a.
    rw c.from_residual.ensures (laws.unclosed_first c.args.segments.now ts (laws.no_frame c.args.frames.now ts a c.in_err-frame.ensures))

pub returns-then-is_within : goal.returns-then-is_within
returns-then-is_within c = λ ts a.
    let f = c.in_ok-frame.frame.now in
    let one = laws.one_frame c.args.frames.now ts f c.in_ok-frame.ensures.0 a c.in_ok-frame.ensures.1 in
    let inner : c.saturating_sub-inner.result ≡ length one.0.inner =
    c.saturating_sub-inner.ensures ∙ (ap (λ n. n - 1) c.saturating_sub.ensures ∙ laws.frame_inner c.args.frames.now ts f one.0 a one.1 one.2) in
    let w = c.if-is_within.ensures.within refl ts one.0 one.1 inner in (
      record { inner = one.0.inner; closing = one.0.closing; after = w.0 },
      one.0.after,
      w.1,
      one.2.hide,
      one.2.behind,
      a.len ∙ ap length (bracketed_whole_at 0 ts one.0 one.1),
      one.2.commas,
    )

pub returns-else-is_within : goal.returns-else-is_within
returns-else-is_within c = λ ts a.
    let f = c.in_ok-frame.frame.now in
    let one = laws.one_frame c.args.frames.now ts f c.in_ok-frame.ensures.0 a c.in_ok-frame.ensures.1 in
    let inner : c.saturating_sub-inner.result ≡ length one.0.inner =
    c.saturating_sub-inner.ensures ∙ (ap (λ n. n - 1) c.saturating_sub.ensures ∙ laws.frame_inner c.args.frames.now ts f one.0 a one.1 one.2) in
    c.if-is_within.ensures.beyond refl ts one.0 one.1 inner
