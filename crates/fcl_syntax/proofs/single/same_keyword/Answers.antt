use Rattle.fcl_syntax.proofs.Tags.{same_class, same_key}
use Rattle.fcl_syntax.proofs.single.same_keyword.Goals as goal

pub returns-clause-same : goal.returns-clause-same
returns-clause-same c = same_class _ _ _ c.eq.ensures

pub returns-clause-among : goal.returns-clause-among
returns-clause-among c = same_key _ _ _ c.eq.ensures
