use Rattle.run_forms.proofs.Arrivals.{arrives_plainly}
use Rattle.run_forms.proofs.laws.arrives_plainly.Goals as goal

pub returns : goal.returns
returns c = arrives_plainly c.plain_is_step.ensures
