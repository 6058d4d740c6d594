use Rattle.run_reports.proofs.ReportLemmas.{input_bytes_fit}
use Rattle.run_reports.proofs.laws.spelled_bytes_fit.Goals as goal

pub returns : goal.returns
returns c = λ block trace samples in_range. input_bytes_fit block in_range.rows samples in_range.spelled
