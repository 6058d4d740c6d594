use Rattle.two_level_runs.proofs.Existing.{fast_runs_exist}
use Rattle.two_level_runs.proofs.laws.fast_runs_exist.Goals as goal

pub returns : goal.returns
returns c = fast_runs_exist c.fast_answers_entered.ensures c.fast_steps_return.ensures
