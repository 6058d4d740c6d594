use Rattle.alone_runs.proofs.AnsweredRows.{answers_under_plans}
use Rattle.alone_runs.proofs.laws.answers_under_plans.Goals as goal

pub returns : goal.returns
returns c = answers_under_plans (record {
  executions = record {
    steps = c.instructions_are_steps.ensures;
    given_is_put = c.given_is_put.ensures;
    arrives_plainly = c.arrives_plainly.ensures;
  };
  answers_are_values = c.answers_are_values.ensures;
  firmware_answers = c.firmware_answers.ensures;
  answered_are_uninterrupted = c.answered_are_uninterrupted.ensures;
  runs_follow = c.runs_follow_alone.ensures;
})
