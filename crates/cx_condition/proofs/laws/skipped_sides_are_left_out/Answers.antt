use Rattle.cx_condition.proofs.TreeLaws.{and_skips, first_skips, or_skips, second_skips}
use Rattle.cx_condition.proofs.laws.skipped_sides_are_left_out.Goals as goal

pub returns : goal.returns
returns c = record { and = and_skips; or = or_skips; second = second_skips; first = first_skips }
