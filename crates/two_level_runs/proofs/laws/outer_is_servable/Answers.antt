use Rattle.two_level_runs.proofs.Servable.{outer_is_servable}
use Rattle.two_level_runs.proofs.laws.outer_is_servable.Goals as goal

pub returns : goal.returns
returns c = outer_is_servable c.outer_enters.ensures c.fast_runs_exist.ensures
