use Rattle.mailbox_code.proofs.turns.FewSteps.{steps_are_few}
use Rattle.mailbox_code.proofs.laws.mailbox_steps_are_few.Goals as goal

pub returns : goal.returns
returns c = steps_are_few c.bounds_are_few.ensures
