use Rattle.box_tree.proofs.StopLemmas as lemmas
use Rattle.box_tree.proofs.laws.cert_texts_have_no_fault.Goals as goal

pub returns : goal.returns
returns c = lemmas.cert_texts_have_no_fault
