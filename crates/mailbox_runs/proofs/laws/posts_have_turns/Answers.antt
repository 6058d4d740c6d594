use Rattle.mailbox_runs.proofs.Existing.{posts_have_turns}
use Rattle.mailbox_runs.proofs.laws.posts_have_turns.Goals as goal

pub returns : goal.returns
returns c = posts_have_turns
