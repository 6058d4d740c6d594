use Rattle.box_tree.proofs.StopLemmas as lemmas
use Rattle.box_tree.proofs.laws.faults_are_one.Goals as goal

pub returns : goal.returns
returns c = lemmas.faults_are_one
