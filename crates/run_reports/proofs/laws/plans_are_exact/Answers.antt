use Rattle.run_reports.proofs.InputLemmas.{plans_exact}
use Rattle.run_reports.proofs.laws.plans_are_exact.Goals as goal

pub returns : goal.returns
returns c = plans_exact c.spelled_entries_are_one.ensures.plans c.spelled_plans_have_no_fault.ensures
    c.first_faults_are_one.ensures.plans
