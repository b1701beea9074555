use Rattle.std.proofs.Common.{None, Some, arith, sym, ◌∙◌}
use Rattle.std.proofs.lemmas.Str.Pattern.{rfind_char}
use Rattle.cx_shelf.proofs.SearchLaws.{no_slash, up_to_last}
use Rattle.cx_shelf.proofs.search.folder_part.Goals as goal

pub returns-in-Some : goal.returns-in-Some
returns-in-Some c =
    let h = rfind_char 47 c.args.path.now (Some c.in-Some.at) c.in-Some.ensures.cases (omega arith) in
    c.range.ensures.value ∙ up_to_last c.args.path.now c.in-Some.at h.0 h.1 h.2

pub returns-in-None : goal.returns-in-None
returns-in-None c = sym (no_slash c.args.path.now (rfind_char 47 c.args.path.now None c.in-None.ensures.cases (omega arith)))
