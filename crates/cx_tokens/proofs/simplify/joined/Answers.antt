use Rattle.std.proofs.Common.{◌<◌, ◌++◌, ◌∙◌, MatchOption, ap, length, subst, sym}
use Rattle.cx_tokens.specs.Simplified.{parts_of}
use Rattle.cx_tokens.specs.Shapes.Links.{rest_from}
use Rattle.cx_tokens.specs.Shapes.Sweeping.{HasNoString, IsJoined, IsNextString}
use Rattle.cx_tokens.proofs.GoneLaws.{joined_live, next_live, next_smaller}
use Rattle.cx_tokens.proofs.SweepSteps.{first_joined, more_joined}
use Rattle.cx_tokens.proofs.simplify.joined.Goals as goal

pub token-requires : goal.token-requires
token-requires c = record { live = next_live c.args.first c.args.second c.args.list.now.nodes c.requires.live c.requires.next }

pub string_after-at-requires-clause-live : goal.string_after-at-requires-clause-live
string_after-at-requires-clause-live c = next_live c.args.first c.args.second c.args.list.now.nodes c.requires.live c.requires.next

pub loop-at-init : goal.loop-at-init
loop-at-init c =
    let t = c.token-token.result.now in
    record {
      joined = first_joined c.args.list.now.nodes c.args.first c.args.second t c.token.result.now c.in_ok-text.text c.push_parts.new.parts c.join.new.text c.join.new.parts c.are_numbered.ensures.distinct c.requires.live c.requires.next
          c.token-token.ensures c.token.ensures c.in_ok-text.ensures (c.in_ok-push_parts.ensures ∙ ap (λ i. i ++ parts_of t.text t.parts) c.new-parts.ensures) c.in_ok-join.ensures.text c.in_ok-join.ensures.parts;
      next = c.string_after-at.ensures;
    }

pub token-requires-in-Some : goal.token-requires-in-Some
token-requires-in-Some c =
    let nodes = c.args.list.now.nodes in
    let i = c.loop-at.invariant in
    let next : IsNextString nodes c.loop-at.last c.in-Some.node = subst (λ o. MatchOption o (HasNoString nodes c.loop-at.last) (IsNextString nodes c.loop-at.last)) c.in-Some.is i.next in
    record { live = next_live c.loop-at.last c.in-Some.node nodes (joined_live c.args.first c.loop-at.last nodes c.loop-at.text c.loop-at.parts c.requires.live i.joined) next }

pub string_after-at-requires-in-Some-clause-live : goal.string_after-at-requires-in-Some-clause-live
string_after-at-requires-in-Some-clause-live c =
    let nodes = c.args.list.now.nodes in
    let i = c.loop-at.invariant in
    let next : IsNextString nodes c.loop-at.last c.in-Some.node = subst (λ o. MatchOption o (HasNoString nodes c.loop-at.last) (IsNextString nodes c.loop-at.last)) c.in-Some.is i.next in
    next_live c.loop-at.last c.in-Some.node nodes (joined_live c.args.first c.loop-at.last nodes c.loop-at.text c.loop-at.parts c.requires.live i.joined) next

pub loop-at-smaller : goal.loop-at-smaller
loop-at-smaller c =
    let nodes = c.args.list.now.nodes in
    let i = c.loop-at.invariant in
    let next : IsNextString nodes c.loop-at.last c.in-Some.node = subst (λ o. MatchOption o (HasNoString nodes c.loop-at.last) (IsNextString nodes c.loop-at.last)) c.in-Some.is i.next in
    let l = next_live c.loop-at.last c.in-Some.node nodes (joined_live c.args.first c.loop-at.last nodes c.loop-at.text c.loop-at.parts c.requires.live i.joined) next in
    subst (λ o. length (rest_from c.string_after-at-in-Some.result nodes) < length (rest_from o nodes)) (sym c.in-Some.is)
    (next_smaller c.in-Some.node nodes c.string_after-at-in-Some.result l c.are_numbered.ensures.distinct c.string_after-at-in-Some.ensures)

pub loop-at-preserved : goal.loop-at-preserved
loop-at-preserved c =
    let nodes = c.args.list.now.nodes in
    let i = c.loop-at.invariant in
    let next : IsNextString nodes c.loop-at.last c.in-Some.node = subst (λ o. MatchOption o (HasNoString nodes c.loop-at.last) (IsNextString nodes c.loop-at.last)) c.in-Some.is i.next in
    record {
      joined = more_joined nodes c.args.first c.loop-at.last c.in-Some.node c.token-in-Some.result.now c.loop-at.text c.loop-at.parts c.join-in-Some.new.text c.join-in-Some.new.parts c.are_numbered.ensures.distinct c.requires.live next
          c.token-in-Some.ensures c.in_ok-join-2.ensures.text c.in_ok-join-2.ensures.parts i.joined;
      next = c.string_after-at-in-Some.ensures;
    }

pub returns : goal.returns
returns c =
    let nodes = c.args.list.now.nodes in
    let i = c.loop-at.invariant in (
      subst (λ p. IsJoined nodes c.args.first c.loop-at.text p c.loop-at.last) (sym c.in_ok-parts.ensures) i.joined,
      subst (λ o. MatchOption o (HasNoString nodes c.loop-at.last) (IsNextString nodes c.loop-at.last)) c.in_default.is i.next,
    )
