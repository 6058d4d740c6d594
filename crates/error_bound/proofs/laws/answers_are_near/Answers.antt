use Rattle.error_bound.proofs.AnswerLemmas.{answers_near}
use Rattle.error_bound.proofs.laws.answers_are_near.Goals as goal

pub returns : goal.returns
returns c = answers_near c.numbers_have_their_degrees.ensures c.nearest_is_byte.ensures
    c.means_have_errors.ensures
