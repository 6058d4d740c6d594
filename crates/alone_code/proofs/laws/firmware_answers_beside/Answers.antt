use Rattle.alone_code.proofs.runs.Law.{firmware_answers_beside}
use Rattle.alone_code.proofs.laws.firmware_answers_beside.Goals as goal

pub returns : goal.returns
returns c = firmware_answers_beside c.lower_laws.ensures
