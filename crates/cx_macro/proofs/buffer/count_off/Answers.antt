use Rattle.std.proofs.Common.{arith}
use Rattle.cx_macro.proofs.SegmentLaws as laws
use Rattle.cx_macro.proofs.buffer.count_off.Goals as goal

pub returns : goal.returns
returns c =
    let top = c.in-Some.ensures in
    let new = laws.replaced c.args.segments.now c.replace.new.self c.in-Some.segment.now _ top.0 c.replace.result top.1 c.replace.ensures in
    let n = c.saturating_sub-tokens.result in
    λ front t behind ts ahead counted. laws.counted_off c.args.segments.now c.replace.new.self c.in-Some.segment.now n top.0 front t behind ts top.1 new (omega arith) ahead
