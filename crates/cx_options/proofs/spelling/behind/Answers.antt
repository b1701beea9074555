use Rattle.cx_options.proofs.SpellingLaws.{strip_prefix_text}
use Rattle.cx_options.proofs.spelling.behind.Goals as goal

pub returns : goal.returns
returns c = strip_prefix_text _ _ _ c.strip_prefix.ensures.cases
