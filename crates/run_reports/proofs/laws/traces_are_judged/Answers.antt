use Rattle.run_reports.proofs.JudgedLemmas.{trace_judged}
use Rattle.run_reports.proofs.laws.traces_are_judged.Goals as goal

pub returns : goal.returns
returns c = trace_judged c.each_text_is_judged.ensures
