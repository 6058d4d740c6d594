use Rattle.mailbox_code.proofs.turns.Law.{mailbox_takes_posts}
use Rattle.mailbox_code.proofs.laws.mailbox_takes_posts.Goals as goal

pub returns : goal.returns
returns c = mailbox_takes_posts c.lower_laws.ensures
