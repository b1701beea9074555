use Rattle.std.proofs.Common.{◌<◌, length, subst, sym}
use Rattle.cx_tokens.specs.Shapes.Links.{rest_from}
use Rattle.cx_tokens.proofs.GoneLaws.{gone_less, gone_live, skip_end, skip_live, skip_more, skip_start, skip_stop}
use Rattle.cx_tokens.proofs.simplify.string_after.Goals as goal

pub loop-next-init : goal.loop-next-init
loop-next-init c = skip_start c.args.at c.args.list.now.nodes c.next-next.result c.next-next.ensures.node

pub word_end-requires-clause-live : goal.word_end-requires-clause-live
word_end-requires-clause-live c =
    skip_live c.args.at c.in-Some.node c.args.list.now.nodes c.loop-next.next c.requires.live c.are_numbered.ensures.distinct c.in-Some.is c.loop-next.invariant

pub next-next-requires-in-Some-word_end : goal.next-next-requires-in-Some-word_end
next-next-requires-in-Some-word_end c =
    let l = skip_live c.args.at c.in-Some.node c.args.list.now.nodes c.loop-next.next c.requires.live c.are_numbered.ensures.distinct c.in-Some.is c.loop-next.invariant in
    record { live = gone_live c.in-Some.node c.in-Some-word_end.end c.args.list.now.nodes l c.in-Some-word_end.ensures }

pub loop-next-smaller : goal.loop-next-smaller
loop-next-smaller c =
    let nodes = c.args.list.now.nodes in
    let l = skip_live c.args.at c.in-Some.node nodes c.loop-next.next c.requires.live c.are_numbered.ensures.distinct c.in-Some.is c.loop-next.invariant in
    subst (λ o. length (rest_from c.next-next-in-Some-word_end.result nodes) < length (rest_from o nodes)) (sym c.in-Some.is)
    (gone_less c.in-Some.node c.in-Some-word_end.end nodes c.next-next-in-Some-word_end.result l c.are_numbered.ensures.distinct c.in-Some-word_end.ensures c.next-next-in-Some-word_end.ensures.node)

pub loop-next-preserved : goal.loop-next-preserved
loop-next-preserved c =
    skip_more c.args.at c.in-Some.node c.in-Some-word_end.end c.args.list.now.nodes c.loop-next.next c.next-next-in-Some-word_end.result c.requires.live c.are_numbered.ensures.distinct c.in-Some.is c.loop-next.invariant
    c.in-Some-word_end.ensures c.next-next-in-Some-word_end.ensures.node

pub string_at-requires : goal.string_at-requires
string_at-requires c =
    skip_live c.args.at c.in-Some.node c.args.list.now.nodes c.loop-next.next c.requires.live c.are_numbered.ensures.distinct c.in-Some.is c.loop-next.invariant

pub returns-in-None : goal.returns-in-None
returns-in-None c =
    skip_stop c.args.at c.in-Some.node c.args.list.now.nodes c.loop-next.next c.string_at.result c.requires.live c.are_numbered.ensures.distinct c.in-Some.is c.loop-next.invariant c.in-None.ensures c.string_at.ensures

pub returns : goal.returns
returns c = skip_end c.args.at c.args.list.now.nodes c.loop-next.next c.in_default.is c.loop-next.invariant
