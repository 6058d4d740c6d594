use Rattle.two_level_runs.proofs.LevelAnswers.{answers_under_levels}
use Rattle.two_level_runs.proofs.laws.answers_under_levels.Goals as goal

pub returns : goal.returns
returns c = answers_under_levels (record {
  levels = record {
    bytes = record {
      bytes_stay = c.bytes_stay.ensures;
      step_fits = c.step_fits.ensures;
      step_keeps = c.step_keeps.ensures;
      pushes_running = c.wav_suspends.ensures.running;
      pushes_none = c.wav_suspends.ensures.none;
      sums_fit_below = c.sums_fit_below.ensures;
    };
    steps_leave_open = c.steps_leave_open.ensures;
    given_leaves_open = c.given_leaves_open.ensures;
    takes_quietly = c.takes_quietly.ensures;
    follow = c.fast_runs_follow.ensures;
    is_quiet = c.outer_is_quiet.ensures;
    serves = c.outer_serves.ensures;
    servable = c.outer_is_servable.ensures;
    enters = c.outer_enters.ensures;
  };
  two_stand_beside = c.two_stand_beside.ensures;
  firmware_runs_beside = c.firmware_runs_beside.ensures;
  first_states_alike = c.first_states_alike.ensures;
  first_states_agree = c.first_states_agree.ensures;
  taken_at_once = c.taken_at_once.ensures;
  answers_under_plans = c.answers_under_plans.ensures;
  requests_are_good = c.requests_are_good.ensures;
  firmware_is_uninterrupted = c.firmware_is_uninterrupted.ensures;
  runs_follow = c.runs_follow.ensures;
})
