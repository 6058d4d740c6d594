use Rattle.mailbox_code.proofs.turns.Law.{mailbox_is_bytes}
use Rattle.mailbox_code.proofs.laws.mailbox_is_bytes.Goals as goal

pub returns : goal.returns
returns c = mailbox_is_bytes c.lower_laws.ensures
