use Rattle.mailbox_runs.proofs.AnswerRuns.{posted_turns_follow}
use Rattle.mailbox_runs.proofs.laws.posted_turns_follow.Goals as goal

pub returns : goal.returns
returns c = posted_turns_follow c.turn_laws.ensures
