use Rattle.run_law.proofs.Moments.{taken_at_once}
use Rattle.run_law.proofs.laws.taken_at_once.Goals as goal

pub returns : goal.returns
returns c = taken_at_once
