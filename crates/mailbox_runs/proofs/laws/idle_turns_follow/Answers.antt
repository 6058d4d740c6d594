use Rattle.mailbox_runs.proofs.IdleRuns.{idle_turns_follow}
use Rattle.mailbox_runs.proofs.laws.idle_turns_follow.Goals as goal

pub returns : goal.returns
returns c = let laws = c.posting_laws.ensures in idle_turns_follow laws.steps laws.taking
