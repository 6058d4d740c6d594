use Rattle.cell_bounds.proofs.ClaimLemmas.{claims_near}
use Rattle.cell_bounds.proofs.laws.claim_answers_are_near.Goals as goal

pub returns : goal.returns
returns c = claims_near c.answers_are_near.ensures c.tight_answers_are_near.ensures c.boxes_of_cells_answer.ensures
