use Rattle.error_bound.proofs.AnswerLemmas.{answers_to_masses}
use Rattle.error_bound.proofs.laws.answers_to_masses_are_near.Goals as goal

pub returns : goal.returns
returns c = answers_to_masses c.numbers_have_their_degrees.ensures c.nearest_is_byte.ensures
