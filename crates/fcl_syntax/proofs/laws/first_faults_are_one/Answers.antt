use Rattle.fcl_syntax.proofs.Theorem.{first_faults_are_one_lem}
use Rattle.fcl_syntax.proofs.laws.first_faults_are_one.Goals as goal

pub returns : goal.returns
returns c = first_faults_are_one_lem c.cuts_are_tokens.ensures
