use Rattle.std.proofs.Common.{◌∙◌, sym, ap, subst, arith}
use Rattle.cx_tokens.specs.Nodes.{tokens, numbers}
use Rattle.cx_tokens.specs.Brackets.{IsNested, IsPaired, IsUnpaired}
use Rattle.cx_tokens.specs.Shapes.Pairing.{IsChain}
use Rattle.cx_tokens.proofs.BalanceLaws.{named_parts}
use Rattle.cx_tokens.proofs.BracketLaws.{nested_not_unpaired}
use Rattle.cx_tokens.proofs.LinkSteps.{view_nodes}
use Rattle.cx_tokens.proofs.MateLaws.{chain_of, kept_paired}
use Rattle.cx_tokens.proofs.token_list.TokenList.pair_brackets.Goals as goal

pub returns-in-Some-clause-unpaired : goal.returns-in-Some-clause-unpaired
returns-in-Some-clause-unpaired c =
    let i = c.self.inside in
    let l = c.self.invariant.links in
    let nodes = sym (view_nodes i.slots.items i.first i.len i.free i.spare l) ∙ ap (λ v. v.nodes) c.self.view_is in
    let place = subst (λ s. (h : IsChain s i.first) → IsUnpaired (tokens h.nodes) c.in-Some.at) c.as_slice.ensures.value c.in-Some.ensures.place in
    subst (λ t. IsUnpaired (tokens t) c.in-Some.at) nodes (place (chain_of i.slots.items i.first i.len i.free i.spare l))

pub returns-in-Some-clause-nested : goal.returns-in-Some-clause-nested
returns-in-Some-clause-nested c = λ n.
    let i = c.self.inside in
    let l = c.self.invariant.links in
    let nodes = sym (view_nodes i.slots.items i.first i.len i.free i.spare l) ∙ ap (λ v. v.nodes) c.self.view_is in
    let place = subst (λ s. (h : IsChain s i.first) → IsUnpaired (tokens h.nodes) c.in-Some.at) c.as_slice.ensures.value c.in-Some.ensures.place in
    absurd (nested_not_unpaired n (subst (λ t. IsUnpaired (tokens t) c.in-Some.at) nodes (place (chain_of i.slots.items i.first i.len i.free i.spare l))))

pub pair-requires-clause-nested : goal.pair-requires-clause-nested
pair-requires-clause-nested c =
    let i = c.self.inside in
    subst (λ s. (h : IsChain s i.first) → IsNested (tokens h.nodes)) c.as_slice.ensures.value c.in_default.ensures.place

pub invariant_of-self-2 : goal.invariant_of-self-2
invariant_of-self-2 c =
    let i = c.self.inside in
    let l = c.self.invariant.links in
    let m = c.pair.ensures.paired (chain_of i.slots.items i.first i.len i.free i.spare l) in
    record {
      links = (kept_paired i.slots.items c.pair.new.slots.items i.first i.len i.free i.spare l m).links;
      enough = (let a = c.pair.ensures.room in let b = c.unpaired_place.ensures.room in let d = c.self.invariant.enough in let k = m.long in omega (arith, a, b, d, k));
      none_open = c.pair.ensures.emptied;
    }

pub returns-clause-paired : goal.returns-clause-paired
returns-clause-paired c =
    let i = c.self.inside in
    let l = c.self.invariant.links in
    let m = c.pair.ensures.paired (chain_of i.slots.items i.first i.len i.free i.spare l) in
    let p = kept_paired i.slots.items c.pair.new.slots.items i.first i.len i.free i.spare l m in
    subst IsPaired (sym (view_nodes c.pair.new.slots.items i.first i.len i.free i.spare p.links ∙ p.nodes_are)) m.paired

pub returns-clause-numbers : goal.returns-clause-numbers
returns-clause-numbers c =
    let i = c.self.inside in
    let l = c.self.invariant.links in
    let m = c.pair.ensures.paired (chain_of i.slots.items i.first i.len i.free i.spare l) in
    let p = kept_paired i.slots.items c.pair.new.slots.items i.first i.len i.free i.spare l m in
    ap numbers (view_nodes c.pair.new.slots.items i.first i.len i.free i.spare p.links ∙ p.nodes_are) ∙ (named_parts m.mated l.nodes m.named).0
    ∙ ap numbers (sym (view_nodes i.slots.items i.first i.len i.free i.spare l) ∙ ap (λ v. v.nodes) c.self.view_is)

pub returns-clause-tokens : goal.returns-clause-tokens
returns-clause-tokens c =
    let i = c.self.inside in
    let l = c.self.invariant.links in
    let m = c.pair.ensures.paired (chain_of i.slots.items i.first i.len i.free i.spare l) in
    let p = kept_paired i.slots.items c.pair.new.slots.items i.first i.len i.free i.spare l m in
    ap tokens (view_nodes c.pair.new.slots.items i.first i.len i.free i.spare p.links ∙ p.nodes_are) ∙ (named_parts m.mated l.nodes m.named).1
    ∙ ap tokens (sym (view_nodes i.slots.items i.first i.len i.free i.spare l) ∙ ap (λ v. v.nodes) c.self.view_is)
