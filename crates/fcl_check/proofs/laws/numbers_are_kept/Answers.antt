use Rattle.fcl_check.proofs.Ranges.{all_kept}
use Rattle.fcl_check.proofs.laws.numbers_are_kept.Goals as goal

pub returns : goal.returns
returns c = all_kept c.numbers_in_scale.ensures
