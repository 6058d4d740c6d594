use Rattle.alone_runs.proofs.OpenBytes.{given_leaves_open}
use Rattle.alone_runs.proofs.laws.given_leaves_open.Goals as goal

pub returns : goal.returns
returns c = given_leaves_open c.writes_stay.ensures
