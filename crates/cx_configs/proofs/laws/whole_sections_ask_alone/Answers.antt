use Rattle.cx_configs.proofs.QuestionLaws.{whole_ask_apart}
use Rattle.cx_configs.proofs.laws.whole_sections_ask_alone.Goals as goal

pub returns : goal.returns
returns c = λ groups lines rest whole. whole_ask_apart lines rest whole groups
