use Rattle.alone_runs.proofs.AnsweredRows.{first_states_alike}
use Rattle.alone_runs.proofs.laws.first_states_alike.Goals as goal

pub returns : goal.returns
returns c = first_states_alike c.arrives_plainly.ensures c.firmware_arrives_alike.ensures
