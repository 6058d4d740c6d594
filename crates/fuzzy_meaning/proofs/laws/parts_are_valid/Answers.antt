use Rattle.fuzzy_meaning.proofs.ConditionLemmas.{parts_valid}
use Rattle.fuzzy_meaning.proofs.laws.parts_are_valid.Goals as goal

pub returns : goal.returns
returns c = parts_valid
