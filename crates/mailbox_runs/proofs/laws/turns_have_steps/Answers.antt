use Rattle.mailbox_runs.proofs.HavingSteps.{turns_have_steps}
use Rattle.mailbox_runs.proofs.laws.turns_have_steps.Goals as goal

pub returns : goal.returns
returns c = turns_have_steps
