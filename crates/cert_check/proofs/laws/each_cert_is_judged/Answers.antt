use Rattle.cert_check.proofs.JudgedTrees.{certs_judged}
use Rattle.cert_check.proofs.laws.each_cert_is_judged.Goals as goal

pub returns : goal.returns
returns c = certs_judged c.each_leaf_is_judged.ensures c.term_errors_are.ensures
    c.each_box_has_a_tight_count.ensures c.each_box_has_a_cells_bound.ensures
