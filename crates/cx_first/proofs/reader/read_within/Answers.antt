use Rattle.std.proofs.lemmas.Result.{IfOk-weaker}
use Rattle.std.proofs.lemmas.Option.{IfSome_then}
use Rattle.cx_first.specs.Grammar.{nothing}
use Rattle.cx_first.proofs.ExpressionLaws.{empty_is, full_is}
use Rattle.cx_first.proofs.ReaderLaws.{text_made, text_parts}
use Rattle.cx_first.proofs.reader.read_within.Goals as goal

pub returns-then-is_empty-clause-found : goal.returns-then-is_empty-clause-found
returns-then-is_empty-clause-found c = rw (empty_is _ c.if-is_empty.ensures, c.new.ensures, c.new-then-is_empty.ensures) nothing

pub returns-in-None-clause-only : goal.returns-in-None-clause-only
returns-in-None-clause-only c = λ source r.
    let p = text_parts (full_is _ c.if-is_empty.ensures) r in c.in-None.ensures.none p.name p.rest p.header

pub returns-in-Some-clause-found : goal.returns-in-Some-clause-found
returns-in-Some-clause-found c =
    IfOk-weaker c.function.result _ _ (λ f h. IfSome_then f h (λ x b. text_made _ _ _ _ _ _ c.in-Some.ensures.some (rw c.as_slice.ensures at b)))
    c.function.ensures.found
