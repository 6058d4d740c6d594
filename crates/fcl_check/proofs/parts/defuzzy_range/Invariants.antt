use Rattle.fcl_check.proofs.Words.{◌≡◌, defuzzy_range, drop, filter_map, first, output_range_line}
use Rattle.fcl_check.proofs.parts.defuzzy_range.Given as goal

abbrev pub invariant-loop-line : goal.invariant-loop-line
invariant-loop-line l =
    first (filter_map output_range_line (drop l.line-index l.section.lines)) ≡ defuzzy_range l.section
