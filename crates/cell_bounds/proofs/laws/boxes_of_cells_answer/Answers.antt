use Rattle.cell_bounds.proofs.WalkLemmas.{boxes_answer}
use Rattle.cell_bounds.proofs.laws.boxes_of_cells_answer.Goals as goal

pub returns : goal.returns
returns c = boxes_answer c.tight_answers_are_near.ensures c.answers_on_cells_are_near.ensures
