use Rattle.fcl_check.proofs.Words.{rules}
use Rattle.fcl_check.proofs.Places.{flat_map-filter_map}
use Rattle.fcl_check.proofs.check.sections.point_outside.Goals as goal

pub returns : goal.returns
returns c = rw (
  c.in-Fuzzify.is,
  ← c.fuzzy_range.ensures,
  c.in_ok-fuzzy_range.was,
  ← c.of-span.ensures,
  flat_map-filter_map,
) (search rules)
