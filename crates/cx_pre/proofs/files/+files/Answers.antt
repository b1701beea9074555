use Rattle.std.proofs.Common.{◌≡◌, ◌∙◌, ap, arith, suc, sym}
use Rattle.cx_lines.specs.Lines.{lines_of}
use Rattle.cx_lines.specs.Nesting.{Extent, extent_of}
use Rattle.cx_shelf.specs.Searches.{found}
use Rattle.cx_shelf.specs.Shelves.{path_of, pieces_of}
use Rattle.cx_pre.proofs.EnterLaws.{is_left, is_passed, leads_nowhere, left_after_include, left_at_stop, left_ends, named_by_line}
use Rattle.cx_pre.proofs.files.+files.Goals as goal

pub go_through-returns : goal.go_through-returns
go_through-returns t c =
    left_ends c.args.context.now.shelf.now c.args.depth c.args.file c.args.stage.now c.loop-line.stage c.end_of.new.stage c.loop-line.lines.now
    c.in_ok-extent.extent.fault c.end_of.result c.in_default.ensures.lines c.loop-line.invariant
    (sym (ap (λ (e : Extent). e.fault) (ap (λ p. extent_of (lines_of p)) (sym (c.pieces_of.ensures ∙ ap (λ s. pieces_of s c.args.file) c.shelf.ensures)) ∙ c.in_ok-extent.ensures)))
    c.end_of.ensures

pub include-returns-in_default-2 : goal.include-returns-in_default-2
include-returns-in_default-2 t c =
    let deeper : c.args.depth ≡ suc c.in-Some-checked_sub.left = omega (arith, c.in-Some-checked_sub.ensures) in
    leads_nowhere c.args.context.now.shelf.now c.args.depth c.args.file c.args.stage.now c.args.line.now c.in-Some-checked_sub.left deeper c.in-Some.target
    c.requires.kind
    (sym (named_by_line c.args.line.now c.operands.result.now c.in_ok-target.field-0 c.operands.ensures c.in_ok-target.ensures) ∙ c.in-Some.is)
    c.miss.new.self
    (ap (λ p. found c.args.context.now.shelf.now p c.in-Some.target) (sym (c.path_of-includer.ensures ∙ ap (λ s. path_of s c.args.file) c.shelf.ensures)) ∙ sym c.in_ok-other.ensures ∙ c.in_default-2.is)
    c.in_ok-miss.ensures

pub include-returns-then-is_once : goal.include-returns-then-is_once
include-returns-then-is_once t c =
    let deeper : c.args.depth ≡ suc c.in-Some-checked_sub.left = omega (arith, c.in-Some-checked_sub.ensures) in
    is_passed c.args.context.now.shelf.now c.args.depth c.args.file c.args.stage.now c.args.line.now c.in-Some-checked_sub.left deeper c.in-Some.target
    c.requires.kind
    (sym (named_by_line c.args.line.now c.operands.result.now c.in_ok-target.field-0 c.operands.ensures c.in_ok-target.ensures) ∙ c.in-Some.is)
    c.in-Some-2.other
    (ap (λ p. found c.args.context.now.shelf.now p c.in-Some.target) (sym (c.path_of-includer.ensures ∙ ap (λ s. path_of s c.args.file) c.shelf.ensures)) ∙ sym c.in_ok-other.ensures ∙ c.in-Some-2.is)
    (sym c.is_once.ensures ∙ c.if-is_once.true)

pub go_through-loop-line-preserved-in-Ok : goal.go_through-loop-line-preserved-in-Ok
go_through-loop-line-preserved-in-Ok t c =
    left_after_include c.args.context.now.shelf.now c.args.depth c.args.file c.args.stage.now c.loop-line.stage c.include.new.stage c.in-Some.line.now
    (lines_of c.in-Some.rest.now) (lines_of c.loop-line.lines.now) c.in-Some.ensures.lines c.loop-line.invariant c.in-Ok.ensures

pub go_through-returns-in-Err : goal.go_through-returns-in-Err
go_through-returns-in-Err t c =
    left_at_stop c.args.context.now.shelf.now c.args.depth c.args.file c.args.stage.now c.loop-line.stage c.include.new.stage c.in-Err.stop c.in-Some.line.now
    (lines_of c.in-Some.rest.now) (lines_of c.loop-line.lines.now) c.in-Some.ensures.lines c.loop-line.invariant c.in-Err.ensures

pub include-returns : goal.include-returns
include-returns t c =
    let deeper : c.args.depth ≡ suc c.in-Some-checked_sub.left = omega (arith, c.in-Some-checked_sub.ensures) in
    is_left c.args.context.now.shelf.now c.args.depth c.args.file c.args.stage.now c.args.line.now c.in-Some-checked_sub.left deeper c.in-Some.target
    c.requires.kind
    (sym (named_by_line c.args.line.now c.operands.result.now c.in_ok-target.field-0 c.operands.ensures c.in_ok-target.ensures) ∙ c.in-Some.is)
    c.in-Some-2.other c.go_through.new.stage c.in-Err.stop
    (ap (λ p. found c.args.context.now.shelf.now p c.in-Some.target) (sym (c.path_of-includer.ensures ∙ ap (λ s. path_of s c.args.file) c.shelf.ensures)) ∙ sym c.in_ok-other.ensures ∙ c.in-Some-2.is)
    (sym c.is_once.ensures ∙ c.if-is_once.false) c.in-Err.ensures
