use Rattle.two_level_runs.proofs.Following.{fast_runs_follow}
use Rattle.two_level_runs.proofs.laws.fast_runs_follow.Goals as goal

pub returns : goal.returns
returns c = fast_runs_follow (record {
  bytes_stay = c.bytes_stay.ensures;
  step_fits = c.step_fits.ensures;
  step_keeps = c.step_keeps.ensures;
  pushes_running = c.wav_suspends.ensures.running;
  pushes_none = c.wav_suspends.ensures.none;
  sums_fit_below = c.sums_fit_below.ensures;
}) c.run_follows.ensures
