use Rattle.firmware_runs.proofs.Within.{instruction_stays_within}
use Rattle.firmware_runs.proofs.laws.instruction_stays_within.Goals as goal

pub returns : goal.returns
returns c = instruction_stays_within c.step_laws.ensures
