use Rattle.fuzzy_meaning.proofs.ExampleLemmas.{examples_are_valid}
use Rattle.fuzzy_meaning.proofs.laws.examples_are_valid.Goals as goal

pub returns : goal.returns
returns c = examples_are_valid
