use Rattle.alone_code.proofs.runs.Law.{firmware_is_bytes}
use Rattle.alone_code.proofs.laws.firmware_is_bytes.Goals as goal

pub returns : goal.returns
returns c = firmware_is_bytes c.lower_laws.ensures
