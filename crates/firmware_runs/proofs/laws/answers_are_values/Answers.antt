use Rattle.firmware_runs.proofs.PortBytes.{answers_are_values}
use Rattle.firmware_runs.proofs.laws.answers_are_values.Goals as goal

pub returns : goal.returns
returns c = answers_are_values
