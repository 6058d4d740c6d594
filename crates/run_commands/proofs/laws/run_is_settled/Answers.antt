use Rattle.run_commands.proofs.AnswerLemmas.{run_exact, run_settled}
use Rattle.run_commands.proofs.laws.run_is_settled.Goals as goal

pub returns : goal.returns
returns c = run_settled
    (run_exact c.firmwares_are_exact.ensures c.images_are_exact.ensures c.certs_are_exact.ensures
    c.traces_are_exact.ensures c.plans_are_exact.ensures)
    c.answers_are_reported.ensures c.answers_under_plans.ensures
