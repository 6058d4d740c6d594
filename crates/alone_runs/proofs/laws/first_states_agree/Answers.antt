use Rattle.alone_runs.proofs.AnsweredRows.{first_states_agree}
use Rattle.alone_runs.proofs.laws.first_states_agree.Goals as goal

pub returns : goal.returns
returns c = first_states_agree
