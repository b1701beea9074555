use Rattle.std.proofs.Common.{◌≡◌, None, length, arith}
use Rattle.std.specs.List.{position_or_len}
use Rattle.std.proofs.lemmas.Str.Pattern.{split_once_first}
use Rattle.cx_options.specs.Arguments.{definition, is_equals}
use Rattle.cx_options.proofs.NameLaws.{list_any_past}
use Rattle.cx_options.proofs.name.parts.Goals as goal

pub returns-in-None-clause-value : goal.returns-in-None-clause-value
unfolding definition
returns-in-None-clause-value c =
    let past : position_or_len is_equals c.args.text.now ≡ length c.args.text.now = split_once_first 61 _ None c.in-None.ensures.cases (omega arith) in
    rw (list_any_past is_equals c.args.text.now past)
