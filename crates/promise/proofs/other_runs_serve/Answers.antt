use Rattle.promise.proofs.{OtherLemmas.others_serve, PromiseLemmas.answers_serve}
use Rattle.promise.proofs.other_runs_serve.Goals as goal

pub returns : goal.returns
returns c = others_serve c.taken_at_once.ensures c.plain_is_one_step.ensures c.mailbox_takes_posts.ensures
    c.mailbox_runs_turns.ensures c.turns_have_steps.ensures c.spelled_bytes_fit.ensures
    (answers_serve c.firmware_answers.ensures c.plain_is_one_step.ensures c.arrives_plainly.ensures)
