use Rattle.interrupt_plan.proofs.UpsetLemmas.{upsets_apart}
use Rattle.interrupt_plan.proofs.laws.spelled_upsets_have_no_fault.Goals as goal

pub returns : goal.returns
returns c = upsets_apart c.first_rows_are_one.ensures
