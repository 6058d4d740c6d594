use Rattle.two_level_runs.proofs.Serving.{outer_serves}
use Rattle.two_level_runs.proofs.laws.outer_serves.Goals as goal

pub returns : goal.returns
returns c = outer_serves c.writes_are_quiet.ensures c.outer_is_quiet.ensures
