use Rattle.run_reports.proofs.JudgedLemmas.{plan_judged}
use Rattle.run_reports.proofs.laws.plans_are_judged.Goals as goal

pub returns : goal.returns
returns c = plan_judged c.each_text_is_judged.ensures.plans
