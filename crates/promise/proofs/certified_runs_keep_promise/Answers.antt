use Rattle.promise.proofs.PromiseLemmas.{certified_keep}
use Rattle.promise.proofs.certified_runs_keep_promise.Goals as goal

pub returns : goal.returns
returns c = certified_keep c.firmware_answers.ensures c.plain_is_one_step.ensures c.arrives_plainly.ensures
    c.bounds_are_few.ensures
