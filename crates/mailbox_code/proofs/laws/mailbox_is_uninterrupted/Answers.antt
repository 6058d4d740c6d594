use Rattle.mailbox_code.proofs.turns.Answering.{mailbox_is_uninterrupted}
use Rattle.mailbox_code.proofs.laws.mailbox_is_uninterrupted.Goals as goal

pub returns : goal.returns
returns c = mailbox_is_uninterrupted c.mailbox_takes_samples.ensures
