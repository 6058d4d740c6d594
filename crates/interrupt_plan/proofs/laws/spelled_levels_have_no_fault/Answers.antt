use Rattle.interrupt_plan.proofs.ApartLemmas.{levels_apart}
use Rattle.interrupt_plan.proofs.laws.spelled_levels_have_no_fault.Goals as goal

pub returns : goal.returns
returns c = levels_apart c.first_rows_are_one.ensures
