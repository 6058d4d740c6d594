use Rattle.two_level_runs.proofs.LevelPlans.{plan_good}
use Rattle.two_level_runs.proofs.laws.levels_make_a_plan.Goals as goal

pub returns : goal.returns
returns c = plan_good
