use Rattle.form_commands.proofs.HandledLemmas.{handled_exact, hrun_settled}
use Rattle.form_commands.proofs.laws.hrun_is_settled.Goals as goal

pub returns : goal.returns
returns c = hrun_settled
    (handled_exact c.firmwares_are_exact.ensures c.handlers_are_exact.ensures
    c.certs_are_exact.ensures c.traces_are_exact.ensures c.plans_are_exact.ensures)
    c.answers_are_reported.ensures
    c.spelled_bytes_fit.ensures c.answers_under_plans.ensures c.handled_answers.ensures
    c.handlers_run_alike.ensures
