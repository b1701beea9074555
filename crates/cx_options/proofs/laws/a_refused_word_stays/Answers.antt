use Rattle.cx_options.proofs.CommandLaws.{command_missing, command_stays, command_within}
use Rattle.cx_options.proofs.laws.a_refused_word_stays.Goals as goal

pub returns-clause-within : goal.returns-clause-within
returns-clause-within c = command_within

pub returns-clause-stays : goal.returns-clause-stays
returns-clause-stays c = command_stays

pub returns-clause-missing : goal.returns-clause-missing
returns-clause-missing c = command_missing
