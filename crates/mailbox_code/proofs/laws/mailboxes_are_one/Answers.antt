use Rattle.mailbox_code.proofs.AlikeLemmas.{one_mailbox}
use Rattle.mailbox_code.proofs.laws.mailboxes_are_one.Goals as goal

pub returns : goal.returns
returns c = one_mailbox c.images_are_one.ensures
