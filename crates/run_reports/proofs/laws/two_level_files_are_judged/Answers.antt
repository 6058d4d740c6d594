use Rattle.run_reports.proofs.JudgedLemmas.{level_judged}
use Rattle.run_reports.proofs.laws.two_level_files_are_judged.Goals as goal

pub returns : goal.returns
returns c = level_judged c.twos_are_judged.ensures c.images_are_judged.ensures c.certs_are_judged.ensures
    c.each_text_is_judged.ensures c.each_text_is_judged-2.ensures.levels
