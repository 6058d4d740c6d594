use Rattle.firmware_code.proofs.runs.Calling.{called}
use Rattle.firmware_code.proofs.laws.called_eval_returns.Goals as goal

pub returns : goal.returns
returns c = called c.eval_answers.ensures c.frames_leave.ensures
