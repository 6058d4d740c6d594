use Rattle.run_law.proofs.Handlers.{sums_fit_below}
use Rattle.run_law.proofs.laws.sums_fit_below.Goals as goal

pub returns : goal.returns
returns c = sums_fit_below
