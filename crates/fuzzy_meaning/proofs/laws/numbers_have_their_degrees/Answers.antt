use Rattle.fuzzy_meaning.proofs.PlaceLemmas.{degree_at-number}
use Rattle.fuzzy_meaning.proofs.laws.numbers_have_their_degrees.Goals as goal

pub returns : goal.returns
returns c = degree_at-number
