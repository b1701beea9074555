use Rattle.std.proofs.Common.{◌∙◌}
use Rattle.cx_configs.proofs.HoldLaws.{holds_seen}
use Rattle.cx_configs.proofs.name_set.holds.Goals as goal

pub returns : goal.returns
returns c = c.contains.ensures ∙ holds_seen (λ n. n.now) c.args.tree.now.keys c.args.name.now
