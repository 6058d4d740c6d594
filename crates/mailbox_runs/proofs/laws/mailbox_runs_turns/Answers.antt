use Rattle.mailbox_runs.proofs.RunsOfTurns.{mailbox_runs_turns}
use Rattle.mailbox_runs.proofs.laws.mailbox_runs_turns.Goals as goal

pub returns : goal.returns
returns c = mailbox_runs_turns (record {
  plain_is_one_step = c.plain_is_one_step.ensures;
  instructions_are_steps = c.instructions_are_steps.ensures;
  takes_posts = c.mailbox_takes_posts.ensures;
  takes_samples = c.mailbox_takes_samples.ensures;
  is_uninterrupted = c.mailbox_is_uninterrupted.ensures;
  uninterrupted_are_one = c.uninterrupted_are_one.ensures;
})
