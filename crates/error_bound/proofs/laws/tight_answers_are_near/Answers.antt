use Rattle.error_bound.proofs.AnswerLemmas.{tight_answers_near}
use Rattle.error_bound.proofs.laws.tight_answers_are_near.Goals as goal

pub returns : goal.returns
returns c = tight_answers_near c.numbers_have_their_degrees.ensures c.nearest_is_byte.ensures
