use Rattle.fcl_check.proofs.JudgedTexts.{one_load_fault}
use Rattle.fcl_check.proofs.laws.load_faults_are_one.Goals as goal

pub returns : goal.returns
returns c = one_load_fault c.trees_are_one.ensures
