use Rattle.std.proofs.Common.{◌≡◌, [], ◌∷◌, sym, ◌∙◌, ap, subst}
use Rattle.cx_first.specs.Terminals.{terminal}
use Rattle.cx_first.specs.Grammar.{Reads}
use Rattle.cx_first.proofs.ExpressionLaws.{expression_counted, parts_of, expression_made, counted_within, empty_is, full_is}
use Rattle.cx_first.proofs.statements.expression.Goals as goal

pub returns-in_default-clause-only : goal.returns-in_default-clause-only
returns-in_default-clause-only c = λ t mark rest e m.
    let k = expression_counted _ _ _ _ _ _ e m in let h = c.in_default.ensures in absurd cc

pub split_at-requires : goal.split_at-requires
split_at-requires c = counted_within _ _ _ c.in-Some.ensures

pub returns-in_default-first-clause-only : goal.returns-in_default-first-clause-only
returns-in_default-first-clause-only c = λ t mark rest e m.
    let p = parts_of _ _ _ _ _ _ _ _ _ e m c.in-Some.ensures c.split_at.ensures.front c.split_at.ensures.back in
    let h = c.in_default-first.ensures in let k = p.1 in absurd cc

pub returns-in-None-clause-only : goal.returns-in-None-clause-only
returns-in-None-clause-only c = λ t mark rest e m.
    let p = parts_of _ _ _ _ _ _ _ _ _ e m c.in-Some.ensures c.split_at.ensures.front c.split_at.ensures.back in
    rw c.in-None.is at (c.in_ok-chain.ensures.only t [] (subst (λ x. Reads c.args.names.now 2 x t []) (sym p.0) e.reads) tt)

pub returns-then-is_empty-clause-found : goal.returns-then-is_empty-clause-found
returns-then-is_empty-clause-found c =
    expression_made _ _ _ _ _ _ _ _ _ _ _ c.in-Some.ensures c.split_at.ensures.front c.split_at.ensures.back c.in-Some-first.ensures
    c.terminal_of.ensures (rw c.in-Some-2.is at c.in_ok-chain.ensures.found) (empty_is _ c.if-is_empty.ensures)

pub returns-then-is_empty-clause-only : goal.returns-then-is_empty-clause-only
returns-then-is_empty-clause-only c = λ t mark rest e m.
    let p = parts_of _ _ _ _ _ _ _ _ _ e m c.in-Some.ensures c.split_at.ensures.front c.split_at.ensures.back in
    let same = rw c.in-Some-2.is at (c.in_ok-chain.ensures.only t [] (subst (λ x. Reads c.args.names.now 2 x t []) (sym p.0) e.reads) tt) in
    let behind : c.in-Some-first.last.now ∷ c.in-Some-first.rest.now ≡ e.last ∷ rest = sym c.in-Some-first.ensures ∙ p.1 in
    let last : c.in-Some-first.last.now ≡ e.last = cc in
    (same.0, c.terminal_of.ensures ∙ (ap terminal last ∙ e.marked), cc)

pub returns-else-is_empty-clause-only : goal.returns-else-is_empty-clause-only
returns-else-is_empty-clause-only c = λ t mark rest e m.
    let p = parts_of _ _ _ _ _ _ _ _ _ e m c.in-Some.ensures c.split_at.ensures.front c.split_at.ensures.back in
    let same = rw c.in-Some-2.is at (c.in_ok-chain.ensures.only t [] (subst (λ x. Reads c.args.names.now 2 x t []) (sym p.0) e.reads) tt) in
    full_is _ c.if-is_empty.ensures same.1
