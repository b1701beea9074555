use Rattle.std.proofs.Common.{◌≡◌, ◌+◌, sym, ◌∙◌, ap}
use Rattle.cx_macro.proofs.SegmentLaws as laws
use Rattle.cx_macro.proofs.buffer.count_up.Goals as goal

pub returns : goal.returns
returns c =
    let old = c.in-Some.ensures in
    let new = laws.replaced c.args.segments.now c.replace.new.self c.in-Some.segment.now _ old.0 c.replace.result old.1 c.replace.ensures in
    let sum : c.in_ok-tokens.tokens ≡ c.in-Some.segment.now.tokens + c.args.more = (rw c.in_ok-tokens.ensures.ok_part at c.checked_add.ensures).1 in
    λ news ts counted.
    laws.counted_up c.args.segments.now c.replace.new.self c.in-Some.segment.now c.in_ok-tokens.tokens old.0 news ts old.1 new (sum ∙ ap (λ n. c.in-Some.segment.now.tokens + n) (sym counted))
