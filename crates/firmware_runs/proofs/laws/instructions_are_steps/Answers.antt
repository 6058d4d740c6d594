use Rattle.firmware_runs.proofs.Serving.{instructions_are_steps}
use Rattle.firmware_runs.proofs.laws.instructions_are_steps.Goals as goal

pub returns : goal.returns
returns c = instructions_are_steps c.step_laws.ensures c.plain_is_one_step.ensures
