use Rattle.eval_code.proofs.steps.Leaving.{runs_leave}
use Rattle.eval_code.proofs.laws.frames_leave.Goals as goal

pub returns : goal.returns
returns c = runs_leave c.writes_stay.ensures
