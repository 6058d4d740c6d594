use Rattle.run_reports.proofs.JudgedLemmas.{mailbox_judged}
use Rattle.run_reports.proofs.laws.mailbox_files_are_judged.Goals as goal

pub returns : goal.returns
returns c = mailbox_judged c.firmwares_are_judged.ensures c.images_are_judged.ensures c.certs_are_judged.ensures
    c.each_text_is_judged.ensures c.each_text_is_judged-2.ensures.posts
