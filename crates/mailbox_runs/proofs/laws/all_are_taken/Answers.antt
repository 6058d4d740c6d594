use Rattle.mailbox_runs.proofs.LastOnes.{all_are_taken}
use Rattle.mailbox_runs.proofs.laws.all_are_taken.Goals as goal

pub returns : goal.returns
returns c = all_are_taken
