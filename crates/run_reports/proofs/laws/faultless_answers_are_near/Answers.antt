use Rattle.run_reports.proofs.FaultlessRows.{faultless_near}
use Rattle.run_reports.proofs.laws.faultless_answers_are_near.Goals as goal

pub returns : goal.returns
returns c = faultless_near c.accepted_answers_are_near.ensures
