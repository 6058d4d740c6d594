use Rattle.alone_code.proofs.AlikeLemmas.{one_firmware}
use Rattle.alone_code.proofs.laws.firmwares_are_one.Goals as goal

pub returns : goal.returns
returns c = one_firmware c.images_are_one.ensures
