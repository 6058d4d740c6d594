use Rattle.firmware_code.proofs.runs.Standing.{has_firmware}
use Rattle.firmware_code.proofs.laws.image_has_firmware.Goals as goal

pub returns : goal.returns
returns c = has_firmware c.lower_laws.ensures
