-- How many steps a sample takes the mailbox firmware at most.
use Rattle.mailbox_code.proofs.Words.{arith, mailbox_bound}
use Rattle.mailbox_code.specs.Mailboxes.{MailboxStepsAreFew}
use Rattle.eval_code.specs.Bounds.{BoundsAreFew}

pub steps_are_few : BoundsAreFew → MailboxStepsAreFew
steps_are_few few b f valid limits h =
    let w = f.width in
    let bound = few b w (mailbox_bound w b) valid limits in
    let steps = h.steps in
    let inputs = valid.few_inputs in
    (omega (arith, bound.0, bound.2), omega (arith, bound.1, bound.3))
