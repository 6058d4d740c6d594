use Rattle.run_law.proofs.Moments.{taken_at_first_open}
use Rattle.run_law.proofs.laws.taken_at_first_open.Goals as goal

pub returns : goal.returns
returns c = taken_at_first_open
