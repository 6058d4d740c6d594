use Rattle.fcl_check.proofs.Words.{◌≡◌, abscissas, drop, ends_in, extended, filter_map, flat_map, hull_of, map}
use Rattle.fcl_check.proofs.Words.{points_of, term_of, x_of}
use Rattle.std.specs.Prelude.{option_map}
use Rattle.fcl_check.proofs.parts.hull.Given as goal

abbrev pub invariant-loop-line : goal.invariant-loop-line
invariant-loop-line l = extended (option_map ends_in l.hull) (map x_of (flat_map points_of
    (filter_map term_of (drop l.line-index l.section.lines)))) ≡ hull_of (abscissas l.section)
