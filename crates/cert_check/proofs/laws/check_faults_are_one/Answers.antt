use Rattle.cert_check.proofs.FaultLemmas as lemmas
use Rattle.cert_check.proofs.laws.check_faults_are_one.Goals as goal

pub returns : goal.returns
returns c = lemmas.check_faults_are_one c.leaf_faults_are_one.ensures c.faulty_leaves_fail.ensures
    c.claim_bounds_are_one.ensures
