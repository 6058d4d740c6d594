use Rattle.cert_check.proofs.AcceptedLemmas.{accepted_near}
use Rattle.cert_check.proofs.laws.accepted_answers_are_near.Goals as goal

pub returns : goal.returns
returns c = accepted_near c.numbers_lie_in_their_cells.ensures c.claim_answers_are_near.ensures
