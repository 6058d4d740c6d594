use Rattle.error_bound.proofs.LeafLemmas as lemmas
use Rattle.error_bound.proofs.laws.leaf_faults_are_one.Goals as goal

pub returns : goal.returns
returns c = lemmas.faults_are_one
