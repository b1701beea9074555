use Rattle.std.proofs.Common.{◌≡◌, ◌<◌, ◌≤◌, List, None, Some, length, sym, subst, arith}
use Rattle.std.proofs.lemmas.Bool.Decides.{nat_tests}
use Rattle.cx_tokens.specs.declared.token.Token.{Token}
use Rattle.cx_macro.specs.Shapes.Counting.{bracketed}
use Rattle.cx_macro.specs.Shapes.Segments.{ahead_of}
use Rattle.cx_macro.proofs.FrameLaws as laws
use Rattle.cx_macro.proofs.buffer.is_within.Goals as goal

pub returns-in-None-clause-within : goal.returns-in-None-clause-within
returns-in-None-clause-within c = λ _ ts b e l.
    subst (λ ss. (after : List Token) × (bracketed 0 (ahead_of ss ts) ≡ Some (record { inner = b.inner; closing = b.closing; after = after }))) (sym c.in-None.ensures)
    (laws.within_all ts b e)

pub returns-in-Some-clause-within : goal.returns-in-Some-clause-within
returns-in-Some-clause-within c = λ t ts b e l.
    let less : length b.inner < c.in-Some.segment.now.tokens = grind (arith, nat_tests, t, l) in
    subst (λ ss. (after : List Token) × (bracketed 0 (ahead_of ss ts) ≡ Some (record { inner = b.inner; closing = b.closing; after = after }))) (sym c.in-Some.ensures.1)
    (laws.within_first c.in-Some.segment.now c.in-Some.ensures.0 ts b e less)

pub returns-in-Some-clause-beyond : goal.returns-in-Some-clause-beyond
returns-in-Some-clause-beyond c = λ t ts b e l.
    let less : c.in-Some.segment.now.tokens ≤ length b.inner = grind (arith, nat_tests, t, l) in
    subst (λ ss. bracketed 0 (ahead_of ss ts) ≡ None) (sym c.in-Some.ensures.1) (laws.beyond_first c.in-Some.segment.now c.in-Some.ensures.0 ts b e less)
