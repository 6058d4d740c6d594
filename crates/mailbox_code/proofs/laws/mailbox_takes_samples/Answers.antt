use Rattle.mailbox_code.proofs.turns.Answering.{mailbox_takes_samples}
use Rattle.mailbox_code.proofs.laws.mailbox_takes_samples.Goals as goal

pub returns : goal.returns
returns c = mailbox_takes_samples c.lower_laws.ensures c.mailbox_takes_posts.ensures
