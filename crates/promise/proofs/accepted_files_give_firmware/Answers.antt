use Rattle.promise.proofs.AcceptedLemmas.{give_firmware}
use Rattle.promise.proofs.accepted_files_give_firmware.Goals as goal

pub returns : goal.returns
returns c = give_firmware
