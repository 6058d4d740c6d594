use Rattle.eval_code.proofs.Words.{◌*◌, ◌≡◌, ◌≤◌, output_bound, sum_by, take}
use Rattle.eval_code.proofs.bounds.output_bounds.Given as goal

abbrev pub invariant-loop-output : goal.invariant-loop-output
invariant-loop-output l =
    (l.bound ≡ sum_by (output_bound l.width) (take l.output-index l.outputs)) × (l.bound ≤ 13 * l.output-index)
