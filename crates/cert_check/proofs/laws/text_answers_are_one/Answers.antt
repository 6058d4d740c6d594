use Rattle.cert_check.proofs.FaultLemmas as lemmas
use Rattle.cert_check.proofs.laws.text_answers_are_one.Goals as goal

pub returns : goal.returns
returns c = lemmas.text_answers_are_one c.faulty_leaves_fail.ensures c.claim_bounds_are_one.ensures
    c.certs_are_one.ensures c.faults_are_one.ensures c.cert_texts_have_no_fault.ensures c.check_faults_are_one.ensures
