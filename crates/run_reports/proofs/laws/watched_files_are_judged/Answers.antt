use Rattle.run_reports.proofs.JudgedLemmas.{watched_judged}
use Rattle.run_reports.proofs.laws.watched_files_are_judged.Goals as goal

pub returns : goal.returns
returns c = watched_judged c.firmwares_are_judged.ensures c.images_are_judged.ensures c.certs_are_judged.ensures
    c.each_text_is_judged.ensures c.each_text_is_judged-2.ensures.plans c.each_text_is_judged-2.ensures.upsets
