use Rattle.firmware_code.proofs.runs.Uninterrupted.{uninterrupted_are_one}
use Rattle.firmware_code.proofs.laws.uninterrupted_are_one.Goals as goal

pub returns : goal.returns
returns c = uninterrupted_are_one c.executions_are_one.ensures
