use Rattle.alone_code.proofs.runs.Law.{firmware_arrives_alike}
use Rattle.alone_code.proofs.laws.firmware_arrives_alike.Goals as goal

pub returns : goal.returns
returns c = firmware_arrives_alike c.lower_laws.ensures
