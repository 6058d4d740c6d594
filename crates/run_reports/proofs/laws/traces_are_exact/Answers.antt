use Rattle.run_reports.proofs.InputLemmas.{traces_exact}
use Rattle.run_reports.proofs.laws.traces_are_exact.Goals as goal

pub returns : goal.returns
returns c = traces_exact c.first_rows_are_one.ensures c.spelled_traces_have_no_fault.ensures
    c.first_faults_are_one.ensures
