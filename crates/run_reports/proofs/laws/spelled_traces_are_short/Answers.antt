use Rattle.std.proofs.Common.{arith}
use Rattle.run_reports.proofs.ReportLemmas.{spelled_count}
use Rattle.run_reports.proofs.laws.spelled_traces_are_short.Goals as goal

pub returns : goal.returns
returns c = λ inputs trace samples spells.
    omega (arith, spells.few, spelled_count inputs spells.rows samples spells.spelled)
