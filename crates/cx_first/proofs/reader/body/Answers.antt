use Rattle.std.proofs.Common.{List, [], ◌∷◌, ◌++◌, map, sym, ◌∙◌, ap, arith, append-nil}
use Rattle.cx_first.specs.Tree.{Form, form_of}
use Rattle.cx_first.specs.Grammar.{more}
use Rattle.cx_first.proofs.ReaderLaws.{body_parts, body_ends, body_ended, forms_on}
use Rattle.cx_first.proofs.reader.body.Goals as goal

pub returns-in-None-clause-only : goal.returns-in-None-clause-only
returns-in-None-clause-only c = λ forms all b.
    let m = c.loop-rest.invariant.only forms all b in
    let p = body_parts (sym c.loop-rest-test.ensures) m.2 in
    rw c.in-None.is at (c.in_ok-statement.ensures.only p.form p.next p.then p.rest p.reading)

pub loop-rest-preserved : goal.loop-rest-preserved
loop-rest-preserved c =
    let f = rw c.in-Some.is at c.in_ok-statement.ensures.found in
    let on : (forms : List Form) → _ = λ forms. forms_on c.loop-rest.statements c.push.new.self c.in-Some.form forms c.in_ok-push-in-Some.ensures.ok in
    record {
      few = omega (arith, c.in_ok-statement.ensures.grown, rw c.in-Some.is at c.in_ok-statement.ensures.shorter);
      found = λ forms all b. rw (on forms) (c.loop-rest.invariant.found (form_of c.in-Some.form ∷ forms) all (more f b));
      only = λ forms all b.
          let m = c.loop-rest.invariant.only forms all b in
          let p = body_parts (sym c.loop-rest-test.ensures) m.2 in
          let same = rw c.in-Some.is at (c.in_ok-statement.ensures.only p.form p.next p.then p.rest p.reading) in (
            p.others,
            m.1 ∙ (ap (λ x. map form_of c.loop-rest.statements ++ x) p.forms_are
                ∙ (ap (λ x. map form_of c.loop-rest.statements ++ x ∷ p.others) (sym same.0) ∙ sym (on p.others))),
            rw (same.1, same.2, same.3) p.body,
          );
    }

pub returns-clause-found : goal.returns-clause-found
returns-clause-found c =
    rw (append-nil (map form_of c.loop-rest.statements)) at (c.loop-rest.invariant.found [] c.loop-rest.names (body_ends _ _ _ _ _ (sym c.loop-rest-test.ensures)))

pub returns-clause-only : goal.returns-clause-only
returns-clause-only c = λ forms all b.
    let m = c.loop-rest.invariant.only forms all b in
    let e = body_ended _ _ _ _ _ _ _ (sym c.loop-rest-test.ensures) m.2 in
    (sym (m.1 ∙ (ap (λ x. map form_of c.loop-rest.statements ++ x) e.0 ∙ append-nil (map form_of c.loop-rest.statements))), sym e.1)
