use Rattle.interrupt_plan.proofs.ApartLemmas.{posts_apart}
use Rattle.interrupt_plan.proofs.laws.spelled_posts_have_no_fault.Goals as goal

pub returns : goal.returns
returns c = posts_apart c.first_rows_are_one.ensures
