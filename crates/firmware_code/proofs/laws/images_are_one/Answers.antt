use Rattle.firmware_code.proofs.AlikeLemmas.{images_are_one}
use Rattle.firmware_code.proofs.laws.images_are_one.Goals as goal

pub returns : goal.returns
returns c = images_are_one c.ascending_bytes_are_one.ensures
