use Rattle.run_reports.proofs.MailboxAnswers.{mailbox_near}
use Rattle.run_reports.proofs.laws.mailbox_answers_are_near.Goals as goal

pub returns : goal.returns
returns c = mailbox_near c.accepted_answers_are_near.ensures
