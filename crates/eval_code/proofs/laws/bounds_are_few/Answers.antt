use Rattle.eval_code.proofs.Few.{bounds_are_few}
use Rattle.eval_code.proofs.laws.bounds_are_few.Goals as goal

pub returns : goal.returns
returns c = bounds_are_few c.layout_law.ensures
