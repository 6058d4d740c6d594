use Rattle.run_forms.proofs.RowSteps.{rows_are_shown}
use Rattle.run_forms.proofs.laws.rows_are_shown.Goals as goal

pub returns : goal.returns
returns g c = rows_are_shown
