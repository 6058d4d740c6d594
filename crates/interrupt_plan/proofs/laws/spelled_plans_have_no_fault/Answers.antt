use Rattle.interrupt_plan.proofs.ApartLemmas.{plans_apart}
use Rattle.interrupt_plan.proofs.laws.spelled_plans_have_no_fault.Goals as goal

pub returns : goal.returns
returns c = plans_apart c.first_rows_are_one.ensures
