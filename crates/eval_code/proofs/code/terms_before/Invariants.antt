use Rattle.eval_code.proofs.Words.{◌≡◌, sum_by, take, term_count}
use Rattle.eval_code.proofs.code.terms_before.Given as goal

abbrev pub invariant-loop-input : goal.invariant-loop-input
invariant-loop-input l = l.terms ≡ sum_by term_count (take l.input-index l.inputs)
