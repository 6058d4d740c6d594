use Rattle.two_level_runs.proofs.Entering.{outer_enters}
use Rattle.two_level_runs.proofs.laws.outer_enters.Goals as goal

pub returns : goal.returns
returns c = outer_enters c.writes_stay.ensures c.bytes_stay.ensures
