use Rattle.alone_runs.proofs.Requests.{requests_are_good}
use Rattle.alone_runs.proofs.laws.requests_are_good.Goals as goal

pub returns : goal.returns
returns c = requests_are_good
