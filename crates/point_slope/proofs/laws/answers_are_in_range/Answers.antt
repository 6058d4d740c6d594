use Rattle.point_slope.proofs.AnswerLemmas.{answer_in-le}
use Rattle.point_slope.proofs.laws.answers_are_in_range.Goals as goal

pub returns : goal.returns
returns c = answer_in-le c.nearest_is_byte.ensures
