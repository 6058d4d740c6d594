use Rattle.mailbox_runs.proofs.Shifting.{runs_count_on}
use Rattle.mailbox_runs.proofs.laws.turns_count_on.Goals as goal

pub returns : goal.returns
returns c = runs_count_on _ _ _
