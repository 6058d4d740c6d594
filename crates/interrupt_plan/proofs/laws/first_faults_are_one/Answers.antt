use Rattle.interrupt_plan.proofs.ApartLemmas.{one_level_fault, one_plan_fault, one_post_fault}
use Rattle.interrupt_plan.proofs.UpsetLemmas.{one_upset_fault}
use Rattle.interrupt_plan.proofs.laws.first_faults_are_one.Goals as goal

pub returns-clause-plans : goal.returns-clause-plans
returns-clause-plans c = one_plan_fault c.first_rows_are_one.ensures

pub returns-clause-posts : goal.returns-clause-posts
returns-clause-posts c = one_post_fault c.first_rows_are_one.ensures

pub returns-clause-levels : goal.returns-clause-levels
returns-clause-levels c = one_level_fault c.first_rows_are_one.ensures

pub returns-clause-upsets : goal.returns-clause-upsets
returns-clause-upsets c = one_upset_fault c.first_rows_are_one.ensures
