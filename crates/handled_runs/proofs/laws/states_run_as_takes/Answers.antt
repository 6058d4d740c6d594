use Rattle.handled_runs.proofs.States.{states_run_as_takes}
use Rattle.handled_runs.proofs.laws.states_run_as_takes.Goals as goal

pub returns : goal.returns
returns c =
    states_run_as_takes c.handlers_begin.ensures c.sums_fit_below.ensures c.handlers_run_as_takes.ensures
