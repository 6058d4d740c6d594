use Rattle.form_commands.proofs.MailboxLemmas.{mrun_settled, mailbox_exact}
use Rattle.form_commands.proofs.laws.mrun_is_settled.Goals as goal

pub returns : goal.returns
returns c = mrun_settled
    (mailbox_exact c.firmwares_are_exact.ensures c.images_are_exact.ensures
    c.certs_are_exact.ensures c.traces_are_exact.ensures c.spelled_entries_are_one.ensures.posts
    c.spelled_posts_have_no_fault.ensures c.first_faults_are_one.ensures.posts)
    c.answers_keep_the_bound.ensures c.spelled_bytes_fit.ensures
    c.mailbox_answers_are_near.ensures c.last_is_answered.ensures c.posts_are_answered.ensures
