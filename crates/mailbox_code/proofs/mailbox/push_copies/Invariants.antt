use Rattle.mailbox_code.proofs.Words.{◌++◌, ◌≡◌, copy_code}
use Rattle.mailbox_code.proofs.mailbox.push_copies.Given as goal

abbrev pub invariant-loop-at : goal.invariant-loop-at
invariant-loop-at l = l.code.items ≡ l.fn.code.items ++ copy_code l.from l.to l.at
