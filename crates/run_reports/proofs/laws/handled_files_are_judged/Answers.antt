use Rattle.run_reports.proofs.JudgedLemmas.{handled_judged}
use Rattle.run_reports.proofs.laws.handled_files_are_judged.Goals as goal

pub returns : goal.returns
returns c = handled_judged c.firmwares_are_judged.ensures c.handlers_are_judged.ensures c.certs_are_judged.ensures
    c.each_text_is_judged.ensures c.each_text_is_judged-2.ensures.plans
