use Rattle.form_commands.proofs.TwoLevelLemmas.{levels_exact, lrun_settled}
use Rattle.form_commands.proofs.laws.lrun_is_settled.Goals as goal

pub returns : goal.returns
returns c = lrun_settled
    (levels_exact c.twos_are_exact.ensures c.images_are_exact.ensures c.certs_are_exact.ensures
    c.traces_are_exact.ensures c.spelled_entries_are_one.ensures.levels
    c.spelled_levels_have_no_fault.ensures c.first_faults_are_one.ensures.levels)
    c.answers_are_reported.ensures c.answers_keep_the_bound.ensures
    c.spelled_bytes_fit.ensures c.mailbox_answers_are_near.ensures c.answers_under_plans.ensures
    c.levels_make_a_plan.ensures c.rows_are_seen.ensures c.alone_has_byte_bounds.ensures
    c.answers_under_levels.ensures
