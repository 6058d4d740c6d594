use Rattle.mailbox_runs.proofs.LastOnes.{last_is_answered}
use Rattle.mailbox_runs.proofs.laws.last_is_answered.Goals as goal

pub returns : goal.returns
returns c = last_is_answered
