use Rattle.run_forms.proofs.Arrivals.{plain_next}
use Rattle.run_forms.proofs.laws.plain_is_one_step.Goals as goal

pub returns : goal.returns
returns c = plain_next c.plain_is_step.ensures
