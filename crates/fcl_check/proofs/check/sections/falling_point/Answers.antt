use Rattle.fcl_check.proofs.Words.{rules}
use Rattle.fcl_check.proofs.Places.{flat_map-filter_map}
use Rattle.fcl_check.proofs.check.sections.falling_point.Goals as goal

pub returns : goal.returns
returns c = rw (c.in-Fuzzify.is, flat_map-filter_map) (search rules)
