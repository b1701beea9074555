use Rattle.cx_input.proofs.AskingLaws.{shelf_of_answers}
use Rattle.cx_input.proofs.laws.shelf_is_of_answers.Goals as goal

pub returns : goal.returns
returns c = shelf_of_answers
