use Rattle.eval_code.proofs.Words.{◌*◌, ◌≡◌, ◌≤◌, sum_by, take, term_count}
use Rattle.eval_code.proofs.bounds.input_terms.Given as goal

abbrev pub invariant-loop-input : goal.invariant-loop-input
invariant-loop-input l = (l.terms ≡ sum_by term_count (take l.input-index l.inputs)) × (l.terms ≤ 15 * l.input-index)
