use Rattle.cx_macro.proofs.RoleLaws.{without_gnu_comma}
use Rattle.cx_macro.proofs.replacement_laws.standard_rules_alone.Goals as goal

pub returns : goal.returns
returns c = λ d arguments expanded none. without_gnu_comma d arguments expanded none
