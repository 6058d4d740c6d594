use Rattle.fcl_check.proofs.Words.{rules}
use Rattle.fcl_check.proofs.Places.{flat_map-filter_map}
use Rattle.fcl_check.proofs.check.sections.number_outside.Goals as goal

pub returns : goal.returns
returns c = rw (c.in-Defuzzify.is, ← c.defuzzy_range.ensures, c.in_ok-defuzzy_range.was, flat_map-filter_map)
    (search rules)
