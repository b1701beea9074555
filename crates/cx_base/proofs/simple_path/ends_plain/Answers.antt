use Rattle.std.proofs.Common.{◌∙◌, ap, sym}
use Rattle.std.specs.Option.{option_copied}
use Rattle.cx_base.proofs.SimplePathLaws.{ends_is}
use Rattle.cx_base.proofs.simple_path.ends_plain.Goals as goal

pub returns-in-Some : goal.returns-in-Some
returns-in-Some c =
    rw c.is_parent.ensures
    (ends_is c.args.left.now c.in-Some.last.now (ap option_copied (sym c.in-Some.is) ∙ c.last.ensures.value))
