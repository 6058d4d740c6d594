use Rattle.cert_check.proofs.ExampleLemmas.{examples_accepted}
use Rattle.cert_check.proofs.laws.examples_are_accepted.Goals as goal

pub returns : goal.returns
returns c = examples_accepted c.examples_are_valid.ensures c.term_errors_are.ensures
