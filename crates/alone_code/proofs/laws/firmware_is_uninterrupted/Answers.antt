use Rattle.alone_code.proofs.runs.Uninterrupted.{firmware_is_uninterrupted}
use Rattle.alone_code.proofs.laws.firmware_is_uninterrupted.Goals as goal

pub returns : goal.returns
returns c = firmware_is_uninterrupted c.firmware_answers.ensures
