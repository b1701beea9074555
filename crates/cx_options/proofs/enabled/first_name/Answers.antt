use Rattle.std.proofs.Common.{None, Some}
use Rattle.cx_options.proofs.EnabledLaws.{split_once_names}
use Rattle.cx_options.proofs.enabled.first_name.Goals as goal

pub returns-in-None-clause-names : goal.returns-in-None-clause-names
returns-in-None-clause-names c = split_once_names _ None c.in-None.ensures.cases

pub returns-in-Some-clause-names : goal.returns-in-Some-clause-names
returns-in-Some-clause-names c = split_once_names _ (Some (c.in-Some.name, c.in-Some.others)) c.in-Some.ensures.cases
