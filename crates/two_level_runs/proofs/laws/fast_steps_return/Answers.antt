use Rattle.two_level_runs.proofs.Returning.{fast_steps_return}
use Rattle.two_level_runs.proofs.laws.fast_steps_return.Goals as goal

pub returns : goal.returns
returns c = fast_steps_return c.instruction_stays_within.ensures c.frames_leave.ensures
