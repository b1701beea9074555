use Rattle.cx_base.proofs.FolderLaws.{cuts}
use Rattle.cx_base.proofs.simple_form.split_first.Goals as goal

pub returns-clause-components : goal.returns-clause-components
returns-clause-components c = cuts c.args.path.now c.split_once.result c.split_once.ensures.cases
