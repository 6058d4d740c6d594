use Rattle.srecord.proofs.FaultLemmas.{faults_one}
use Rattle.srecord.proofs.laws.faults_are_one.Goals as goal

pub returns : goal.returns
returns c = faults_one
