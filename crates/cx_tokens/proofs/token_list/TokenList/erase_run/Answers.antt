use Rattle.std.proofs.Common.{◌≡◌, ◌<◌, ◌∙◌, length, refl, subst, sym, true}
use Rattle.std.specs.Prelude.{IsSome}
use Rattle.cx_tokens.specs.Nodes.{is_live}
use Rattle.cx_tokens.proofs.LinkSteps.{some_same}
use Rattle.cx_tokens.proofs.LinkRuns.{IsErasing, eq_numbers, erased_shorter, erasing_end, erasing_live, erasing_start, erasing_step, ne_numbers}
use Rattle.cx_tokens.proofs.token_list.TokenList.erase_run.Goals as goal

pub loop-at-init : goal.loop-at-init
loop-at-init c = erasing_start c.args.from c.args.to c.args.self.now.nodes c.are_numbered.ensures c.requires.from_live c.requires.order

pub next-requires : goal.next-requires
next-requires c = record { live = erasing_live c.args.from c.args.to c.loop-at.at c.args.self.now.nodes c.loop-at.self.nodes c.loop-at.invariant }

pub unwrap-next-requires : goal.unwrap-next-requires
unwrap-next-requires c =
    let s = erasing_step c.args.from c.args.to c.loop-at.at c.args.self.now.nodes c.loop-at.self.nodes c.loop-at.invariant (ne_numbers c.loop-at.at c.args.to c.ne.result c.ne.ensures c.loop-at-test.true) in
    subst IsSome (sym (c.next.ensures.node ∙ s.is_next)) refl

pub erase-token-requires : goal.erase-token-requires
erase-token-requires c = record { live = erasing_live c.args.from c.args.to c.loop-at.at c.args.self.now.nodes c.loop-at.self.nodes c.loop-at.invariant }

pub loop-at-smaller-in-loop-at : goal.loop-at-smaller-in-loop-at
loop-at-smaller-in-loop-at c =
    subst (λ t. length t < length c.loop-at.self.nodes) (sym c.erase-token.ensures.rest)
    (erased_shorter c.args.from c.args.to c.loop-at.at c.args.self.now.nodes c.loop-at.self.nodes c.loop-at.invariant)

pub loop-at-preserved-in-loop-at : goal.loop-at-preserved-in-loop-at
loop-at-preserved-in-loop-at c =
    let s = erasing_step c.args.from c.args.to c.loop-at.at c.args.self.now.nodes c.loop-at.self.nodes c.loop-at.invariant (ne_numbers c.loop-at.at c.args.to c.ne.result c.ne.ensures c.loop-at-test.true) in
    let e : s.next ≡ c.unwrap-next.result = some_same (sym s.is_next ∙ sym c.next.ensures.node ∙ c.unwrap-next.ensures) in
    subst (λ n. IsErasing c.args.from c.args.to n c.args.self.now.nodes c.erase-token.new.self.nodes) e
    (subst (IsErasing c.args.from c.args.to s.next c.args.self.now.nodes) (sym c.erase-token.ensures.rest) s.then)

pub loop-at-smaller : goal.loop-at-smaller
loop-at-smaller c =
    subst (λ t. length t < length c.loop-at.self.nodes) (sym c.erase-token.ensures.rest)
    (erased_shorter c.args.from c.args.to c.loop-at.at c.args.self.now.nodes c.loop-at.self.nodes c.loop-at.invariant)

pub loop-at-preserved : goal.loop-at-preserved
loop-at-preserved c =
    let s = erasing_step c.args.from c.args.to c.loop-at.at c.args.self.now.nodes c.loop-at.self.nodes c.loop-at.invariant (ne_numbers c.loop-at.at c.args.to c.ne.result c.ne.ensures c.loop-at-test.true) in
    let e : s.next ≡ c.unwrap-next.result = some_same (sym s.is_next ∙ sym c.next.ensures.node ∙ c.unwrap-next.ensures) in
    subst (λ n. IsErasing c.args.from c.args.to n c.args.self.now.nodes c.erase-token.new.self.nodes) e
    (subst (IsErasing c.args.from c.args.to s.next c.args.self.now.nodes) (sym c.erase-token.ensures.rest) s.then)

pub erase-token-requires-2 : goal.erase-token-requires-2
erase-token-requires-2 c =
    record { live = subst (λ n. is_live n c.loop-at.self.nodes ≡ true) (eq_numbers c.loop-at.at c.args.to c.ne.result c.ne.ensures c.loop-at-test.false) (erasing_live c.args.from c.args.to c.loop-at.at c.args.self.now.nodes c.loop-at.self.nodes c.loop-at.invariant) }

pub returns : goal.returns
returns c =
    let p = subst (λ n. IsErasing c.args.from c.args.to n c.args.self.now.nodes c.loop-at.self.nodes) (eq_numbers c.loop-at.at c.args.to c.ne.result c.ne.ensures c.loop-at-test.false) c.loop-at.invariant in
    c.erase-token-2.ensures.rest ∙ erasing_end c.args.from c.args.to c.args.self.now.nodes c.loop-at.self.nodes p
