use Rattle.std.proofs.Common.{sym, subst}
use Rattle.fuzzy_meaning.specs.Blocks.{IsValid}
use Rattle.fuzzy_meaning.proofs.ExampleLemmas.{heater_valid}
use Rattle.fuzzy_meaning.proofs.examples.heater.Goals as goal

pub returns-clause-valid : goal.returns-clause-valid
returns-clause-valid c = subst IsValid (sym c.in_ok-block.ensures) heater_valid
