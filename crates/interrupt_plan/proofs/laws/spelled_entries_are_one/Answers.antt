use Rattle.interrupt_plan.proofs.ApartLemmas.{one_list_of_levels, one_list_of_posts, one_plan}
use Rattle.interrupt_plan.proofs.UpsetLemmas.{one_list_of_upsets}
use Rattle.interrupt_plan.proofs.laws.spelled_entries_are_one.Goals as goal

pub returns-clause-plans : goal.returns-clause-plans
returns-clause-plans c = one_plan c.first_rows_are_one.ensures

pub returns-clause-posts : goal.returns-clause-posts
returns-clause-posts c = one_list_of_posts c.first_rows_are_one.ensures

pub returns-clause-levels : goal.returns-clause-levels
returns-clause-levels c = one_list_of_levels c.first_rows_are_one.ensures

pub returns-clause-upsets : goal.returns-clause-upsets
returns-clause-upsets c = one_list_of_upsets c.first_rows_are_one.ensures
