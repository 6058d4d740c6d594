use Rattle.box_tree.proofs.LawLemmas as lemmas
use Rattle.box_tree.proofs.laws.certs_are_one.Goals as goal

pub returns : goal.returns
returns c = lemmas.certs_are_one
