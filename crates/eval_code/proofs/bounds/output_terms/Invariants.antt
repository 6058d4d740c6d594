use Rattle.eval_code.proofs.Words.{◌*◌, ◌≡◌, ◌≤◌, singleton_count, sum_by, take}
use Rattle.eval_code.proofs.bounds.output_terms.Given as goal

abbrev pub invariant-loop-output : goal.invariant-loop-output
invariant-loop-output l =
    (l.terms ≡ sum_by singleton_count (take l.output-index l.outputs)) × (l.terms ≤ 15 * l.output-index)
