use Rattle.run_reports.proofs.ReportLemmas.{instructions_within}
use Rattle.run_reports.proofs.laws.answers_keep_the_bound.Goals as goal

pub returns : goal.returns
returns c = instructions_within
