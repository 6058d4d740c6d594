use Rattle.two_level_runs.proofs.Entered.{fast_is_entered}
use Rattle.two_level_runs.proofs.laws.fast_is_entered.Goals as goal

pub returns : goal.returns
returns c = fast_is_entered c.holds_image.ensures c.two_stand_beside.ensures c.outer_enters.ensures
