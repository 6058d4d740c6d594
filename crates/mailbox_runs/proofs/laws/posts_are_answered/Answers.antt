use Rattle.mailbox_runs.proofs.WholeAnswers.{answers_under}
use Rattle.mailbox_runs.proofs.laws.posts_are_answered.Goals as goal

pub returns : goal.returns
returns c =
    answers_under c.posts_have_turns.ensures c.turns_have_steps.ensures c.mailbox_runs_turns.ensures
    c.runs_are_turns.ensures c.mailbox_steps_are_few.ensures
