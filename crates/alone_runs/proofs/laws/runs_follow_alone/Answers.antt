use Rattle.alone_runs.proofs.StandAlone.{runs_follow_alone}
use Rattle.alone_runs.proofs.laws.runs_follow_alone.Goals as goal

pub returns : goal.returns
returns c = runs_follow_alone c.runs_follow_beside.ensures c.requests_are_good.ensures c.taken_at_once.ensures
