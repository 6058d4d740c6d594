use Rattle.firmware_runs.proofs.PortBytes.{given_is_put}
use Rattle.firmware_runs.proofs.laws.given_is_put.Goals as goal

pub returns : goal.returns
returns c = given_is_put
