use Rattle.std.proofs.Common.{◌∙◌, ap, option_map, sym}
use Rattle.cx_macro.specs.Made.{definition_by}
use Rattle.cx_directive.specs.Operands.{tokens_of}
use Rattle.cx_directive.proofs.DefineLaws.{named_there, no_name_there, not_defined, nothing_there}
use Rattle.cx_directive.proofs.define.defined_by.Goals as goal

pub returns-in_default-clause-meaning : goal.returns-in_default-clause-meaning
returns-in_default-clause-meaning c = nothing_there (tokens_of c.args.operands.now) (ap tokens_of c.in_default.ensures)

pub returns-then-not-is_name-clause-meaning : goal.returns-then-not-is_name-clause-meaning
returns-then-not-is_name-clause-meaning c =
    no_name_there (tokens_of c.args.operands.now) (tokens_of c.in-Some.after.now) c.in-Some.piece.now.token c.is_name.result (ap tokens_of c.in-Some.ensures) c.is_name.ensures
    c.if-not-is_name.true

pub returns-in_default-2-clause-meaning : goal.returns-in_default-2-clause-meaning
returns-in_default-2-clause-meaning c =
    not_defined (tokens_of c.args.operands.now) (tokens_of c.in-Some.after.now) c.in-Some.piece.now.token c.is_name.result (ap tokens_of c.in-Some.ensures) c.is_name.ensures
    c.if-not-is_name.false (ap (option_map definition_by) (sym c.in_default-2.is) ∙ c.in_ok-made.ensures.meaning)

pub returns-clause-meaning : goal.returns-clause-meaning
returns-clause-meaning c =
    named_there (tokens_of c.args.operands.now) (tokens_of c.in-Some.after.now) c.in-Some.piece.now.token c.is_name.result c.in_ok-name.name (definition_by c.in-Some-2.made)
    (ap tokens_of c.in-Some.ensures) c.is_name.ensures c.if-not-is_name.false c.in_ok-name.ensures (ap (option_map definition_by) (sym c.in-Some-2.is) ∙ c.in_ok-made.ensures.meaning)
