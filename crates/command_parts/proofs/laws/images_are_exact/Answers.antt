use Rattle.command_parts.proofs.ReadingLemmas.{images_exact}
use Rattle.command_parts.proofs.laws.images_are_exact.Goals as goal

pub returns : goal.returns
returns c = images_exact c.faults_are_one.ensures c.images_are_one.ensures.one c.images_are_one.ensures.no_fault
