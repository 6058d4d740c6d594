use Rattle.fcl_check.proofs.Words.{◌≡◌, ends_in, filter_map, hull_of, map, number_line, option_map, take}
use Rattle.fcl_check.proofs.build.outputs.hull.Given as goal

abbrev pub invariant-loop-line : goal.invariant-loop-line
invariant-loop-line l =
    option_map ends_in l.hull ≡ hull_of (map (λ n. n.0) (filter_map number_line (take l.line-index l.section.lines)))
