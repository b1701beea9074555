use Rattle.std.proofs.Common.{refl}
use Rattle.std.proofs.lemmas.Result.{IfErr-weaker, IfOk-weaker}
use Rattle.cx_macro.proofs.ProgressLaws.{call_fails, call_miscounted, call_unclosed, hides, takes_call}
use Rattle.cx_macro.proofs.steps.call.Goals as goal

pub returns-in-Unclosed-clause-fault : goal.returns-in-Unclosed-clause-fault
returns-in-Unclosed-clause-fault c = λ table def ps open'.
    call_unclosed table c.args.bound c.args.name c.args.state _ c.args.parameters.now (c.in_ok-pass_bracket.ensures.ahead open').0 c.pass_bracket.new.buffer.ahead def
    (record { parameters = ps; begins = open'; opened = (c.in_ok-pass_bracket.ensures.ahead open').1 })
    (rw c.in-Unclosed.is at c.in_ok-cut.ensures)

pub returns-in-Miscounted-clause-fault : goal.returns-in-Miscounted-clause-fault
returns-in-Miscounted-clause-fault c = λ table def ps open'.
    let cut = rw (c.is_variadic.ensures, c.in-Miscounted.is) at c.in_ok-cut.ensures in
    call_miscounted table c.args.bound c.args.name c.args.state _ c.args.parameters.now (c.in_ok-pass_bracket.ensures.ahead open').0 c.pass_bracket.new.buffer.ahead cut.0 def
    (record { parameters = ps; begins = open'; opened = (c.in_ok-pass_bracket.ensures.ahead open').1 }) cut.1 cut.2

pub returns-clause-new : goal.returns-clause-new
returns-clause-new c = IfOk-weaker c.proceed.result _ _ (λ new h. λ table def ps open'.
    takes_call table c.args.bound c.args.name c.args.state new c.args.parameters.now (c.in_ok-pass_bracket.ensures.ahead open').0 c.pass_bracket.new.buffer c.cut.new.self c.in-Called.closing _ def
    (record {
      begun = record { parameters = ps; begins = open'; opened = (c.in_ok-pass_bracket.ensures.ahead open').1 };
      outermost = c.in_ok-pass_bracket.ensures.done;
      more = c.in_ok-pass_bracket.ensures.more;
      is_cut = rw (c.is_variadic.ensures, c.in-Called.is) at c.in_ok-cut.ensures;
      name = refl;
      hides = hides _ _ _ _ _ _ _ c.in_ok-hide-in-Called.ensures c.in_ok-both-in-Called.ensures refl refl;
      raw = c.new.ensures;
      expanded = c.new-in-Called.ensures;
      done = refl;
    }) (h table)) c.proceed.ensures.new

pub returns-clause-fault : goal.returns-clause-fault
returns-clause-fault c = IfErr-weaker c.proceed.result _ _ (λ fault h. λ table def ps open'.
    call_fails table c.args.bound c.args.name c.args.state fault c.args.parameters.now (c.in_ok-pass_bracket.ensures.ahead open').0 c.pass_bracket.new.buffer c.cut.new.self c.in-Called.closing _ def
    (record {
      begun = record { parameters = ps; begins = open'; opened = (c.in_ok-pass_bracket.ensures.ahead open').1 };
      outermost = c.in_ok-pass_bracket.ensures.done;
      more = c.in_ok-pass_bracket.ensures.more;
      is_cut = rw (c.is_variadic.ensures, c.in-Called.is) at c.in_ok-cut.ensures;
      name = refl;
      hides = hides _ _ _ _ _ _ _ c.in_ok-hide-in-Called.ensures c.in_ok-both-in-Called.ensures refl refl;
      raw = c.new.ensures;
      expanded = c.new-in-Called.ensures;
      done = refl;
    }) (h table)) c.proceed.ensures.fault
