use Rattle.alone_code.proofs.runs.Law.{firmware_answers}
use Rattle.alone_code.proofs.laws.firmware_answers.Goals as goal

pub returns : goal.returns
returns c = firmware_answers c.free_bytes_leave.ensures c.firmware_answers_beside.ensures
