use Rattle.mailbox_runs.proofs.OneList.{one_list}
use Rattle.mailbox_runs.proofs.laws.turns_are_one.Goals as goal

pub returns : goal.returns
returns c = one_list
