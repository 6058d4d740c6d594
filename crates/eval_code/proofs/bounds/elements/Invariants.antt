use Rattle.eval_code.proofs.Words.{◌≡◌, entry_count, sum_by, take}
use Rattle.eval_code.proofs.bounds.elements.Given as goal

abbrev pub invariant-loop-conjunction : goal.invariant-loop-conjunction
invariant-loop-conjunction l = l.count ≡ sum_by entry_count (take l.conjunction-index l.conjunctions)
