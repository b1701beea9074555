use Rattle.std.proofs.Common.{◌≡◌, Some, ap, ◌∙◌}
use Rattle.std.proofs.lemmas.Option.{MatchOption-at_none, MatchOption-at_some}
use Rattle.std.proofs.lemmas.Result.{IfOk-weaker}
use Rattle.cx_macro.specs.Shapes.Counting.{arguments_of, with_variable}
use Rattle.cx_macro.proofs.CallLaws.{answer_weaker, arguments_named}
use Rattle.cx_macro.proofs.arguments.arguments_of.Goals as goal

pub returns-in-None : goal.returns-in-None
returns-in-None c = λ ts end i.
    arguments_named c.args.count c.args.variadic ts _ (c.is_nothing-nothing.ensures ts end i) c.requires
    ∙ ap (with_variable c.args.variadic c.is_nothing-nothing.result) (MatchOption-at_none _ _ c.in-None.is (c.in_ok-named_arguments.ensures ts end i))

pub returns-in-Some : goal.returns-in-Some
returns-in-Some c =
    IfOk-weaker c.with_variable.result _ _
    (λ o h. λ ts end i.
    let found = MatchOption-at_some _ _ c.in-Some.named c.in-Some.is (c.in_ok-named_arguments.ensures ts end i) in
    let all : arguments_of c.args.count c.args.variadic ts ≡ with_variable c.args.variadic c.is_nothing-nothing.result (Some (record { arguments = found.0; after = found.1 })) =
    arguments_named c.args.count c.args.variadic ts _ (c.is_nothing-nothing.ensures ts end i) c.requires ∙ ap (with_variable c.args.variadic c.is_nothing-nothing.result) found.2 in
    answer_weaker o _ _ _ _ (λ none. all ∙ none found.0) (λ segments some. let s = some ts found.0 found.3 in (s.0, all ∙ s.1, s.2)) (h found.1 end found.4))
    c.with_variable.ensures
