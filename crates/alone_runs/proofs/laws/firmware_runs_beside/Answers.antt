use Rattle.alone_runs.proofs.AnsweredRows.{runs_beside}
use Rattle.alone_runs.proofs.laws.firmware_runs_beside.Goals as goal

pub returns : goal.returns
returns c = runs_beside (record {
  steps = c.instructions_are_steps.ensures;
  given_is_put = c.given_is_put.ensures;
  arrives_plainly = c.arrives_plainly.ensures;
}) c.firmware_answers_beside.ensures
