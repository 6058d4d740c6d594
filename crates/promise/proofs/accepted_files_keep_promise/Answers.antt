use Rattle.promise.proofs.AcceptedLemmas.{accepted_keep}
use Rattle.promise.proofs.accepted_files_keep_promise.Goals as goal

pub returns : goal.returns
returns c = accepted_keep c.certified_runs_keep_promise.ensures c.accepted_runs_make_output.ensures
