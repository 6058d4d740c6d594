use Rattle.handled_runs.proofs.HandledAnswers.{handled_answers}
use Rattle.handled_runs.proofs.laws.handled_answers.Goals as goal

pub returns : goal.returns
returns c = handled_answers (record {
  code = record {
    steps_leave_open = c.steps_leave_open.ensures;
    handlers_are_quiet = c.handlers_are_quiet.ensures;
    sums_fit_below = c.sums_fit_below.ensures;
  };
  given_leaves_open = c.given_leaves_open.ensures;
  holds_image = c.holds_image.ensures;
  firmware_runs_beside = c.firmware_runs_beside.ensures;
  first_states_alike = c.first_states_alike.ensures;
  first_states_agree = c.first_states_agree.ensures;
  runs_follow_beside = c.runs_follow_beside.ensures;
  requests_are_good = c.requests_are_good.ensures;
  rows_are_shown = c.rows_are_shown.ensures;
  runs_follow = c.runs_follow.ensures;
})
