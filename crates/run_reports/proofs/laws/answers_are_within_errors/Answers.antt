use Rattle.run_reports.proofs.NearRows.{within_errors}
use Rattle.run_reports.proofs.laws.answers_are_within_errors.Goals as goal

pub returns : goal.returns
returns c = within_errors c.accepted_answers_are_near.ensures
