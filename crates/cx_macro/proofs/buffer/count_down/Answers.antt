use Rattle.std.proofs.Common.{◌∙◌, sym, ap, []}
use Rattle.cx_macro.specs.Shapes.Segments.{more_of}
use Rattle.cx_macro.proofs.SegmentLaws as laws
use Rattle.cx_macro.proofs.buffer.count_down.Goals as goal

pub returns-clause-end : goal.returns-clause-end
returns-clause-end c =
    let old = c.in-Some.ensures in
    let new = laws.replaced c.args.segments.now c.replace.new.self c.in-Some.segment.now _ old.0 c.replace.result old.1 c.replace.ensures in
    λ _. ap (λ x. more_of x []) new ∙ (laws.more_none _ c.in-Some.segment.now old.0 ∙ ap (λ x. more_of x []) (sym old.1))
