use Rattle.handler_check.proofs.OneAnswer.{faults_are_one, counts_are_one}
use Rattle.handler_check.proofs.laws.answers_are_one.Goals as goal

pub returns-clause-faults : goal.returns-clause-faults
returns-clause-faults c = faults_are_one c.decodes_encoded.ensures c.holds_image.ensures

pub returns-clause-counts : goal.returns-clause-counts
returns-clause-counts c = counts_are_one c.decodes_encoded.ensures c.holds_image.ensures
