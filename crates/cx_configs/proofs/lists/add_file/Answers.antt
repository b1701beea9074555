use Rattle.std.proofs.Common.{◌≡◌, true, false, rules}
use Rattle.cx_configs.specs.Shapes.Lists.{is_full}
use Rattle.cx_configs.proofs.AskingLaws.{asks_end, asks_full, asks_next}
use Rattle.cx_configs.proofs.lists.add_file.Goals as goal

pub returns-then-are_full : goal.returns-then-are_full
returns-then-are_full c =
    let full : is_full c.args.most c.loop-line.lists ≡ true = search rules in
    asks_full c.args.most c.args.settled.now c.args.pieces.now c.args.lists.now c.loop-line.rest.now c.loop-line.groups
    c.loop-line.lists c.loop-line.invariant full

pub loop-line-preserved : goal.loop-line-preserved
loop-line-preserved c =
    let room : is_full c.args.most c.loop-line.lists ≡ false = search rules in
    asks_next c.args.most c.args.settled.now c.args.pieces.now c.args.lists.now c.loop-line.rest.now c.in-Some.more.now
    c.loop-line.groups c.pass.new.self c.loop-line.lists c.pass.new.lists c.in-Some.line.now c.loop-line.invariant
    c.in-Some.ensures.lines room c.in_ok-pass.ensures.groups c.in_ok-pass.ensures.lists

pub returns : goal.returns
returns c =
    asks_end c.args.most c.args.settled.now c.args.pieces.now c.args.lists.now c.loop-line.rest.now c.loop-line.groups
    c.loop-line.lists c.loop-line.invariant c.in_default.ensures.lines
