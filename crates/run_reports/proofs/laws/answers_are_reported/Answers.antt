use Rattle.run_reports.proofs.ReportLemmas.{reports}
use Rattle.run_reports.proofs.laws.answers_are_reported.Goals as goal

pub returns : goal.returns
returns c = reports c.answers_are_within_errors.ensures
