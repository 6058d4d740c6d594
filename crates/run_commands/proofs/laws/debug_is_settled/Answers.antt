use Rattle.run_commands.proofs.DebugLemmas.{debug_exact, debug_settled}
use Rattle.run_commands.proofs.laws.debug_is_settled.Goals as goal

pub returns : goal.returns
returns c = debug_settled
    (debug_exact c.firmwares_are_exact.ensures c.images_are_exact.ensures c.traces_are_exact.ensures
    c.plans_are_exact.ensures)
    c.spelled_bytes_fit.ensures c.answers_under_plans.ensures
