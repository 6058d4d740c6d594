use Rattle.interrupt_plan.proofs.JudgedLemmas.{levels_text_judged, plan_text_judged, posts_text_judged}
use Rattle.interrupt_plan.proofs.JudgedUpsets.{upsets_text_judged}
use Rattle.interrupt_plan.proofs.laws.each_text_is_judged.Goals as goal

pub returns-clause-plans : goal.returns-clause-plans
returns-clause-plans c = plan_text_judged c.each_text_has_first_rows.ensures

pub returns-clause-posts : goal.returns-clause-posts
returns-clause-posts c = posts_text_judged c.each_text_has_first_rows.ensures

pub returns-clause-levels : goal.returns-clause-levels
returns-clause-levels c = levels_text_judged c.each_text_has_first_rows.ensures

pub returns-clause-upsets : goal.returns-clause-upsets
returns-clause-upsets c = upsets_text_judged c.each_text_has_first_rows.ensures
