use Rattle.form_commands.proofs.WatchedLemmas.{srun_settled, watched_exact}
use Rattle.form_commands.proofs.laws.srun_is_settled.Goals as goal

pub returns : goal.returns
returns c = srun_settled
    (watched_exact c.firmwares_are_exact.ensures c.images_are_exact.ensures
    c.certs_are_exact.ensures c.traces_are_exact.ensures c.plans_are_exact.ensures
    c.spelled_entries_are_one.ensures.upsets c.spelled_upsets_have_no_fault.ensures
    c.first_faults_are_one.ensures.upsets)
    c.faultless_answers_are_near.ensures
    c.spelled_bytes_fit.ensures c.answers_under_all_upsets.ensures
