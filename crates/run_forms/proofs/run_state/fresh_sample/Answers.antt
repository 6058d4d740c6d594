use Rattle.std.proofs.Common.{refl}
use Rattle.run_forms.proofs.run_state.fresh_sample.Goals as goal

pub returns-clause-counts : goal.returns-clause-counts
returns-clause-counts g c = refl

pub returns-clause-left : goal.returns-clause-left
returns-clause-left g c = refl

pub returns-clause-on : goal.returns-clause-on
returns-clause-on g c = refl
