use Rattle.fcl_check.proofs.TreePlaces.{places_ascend}
use Rattle.fcl_check.proofs.laws.places_ascend.Goals as goal

pub returns : goal.returns
returns c = places_ascend c.offsets_ascend.ensures
