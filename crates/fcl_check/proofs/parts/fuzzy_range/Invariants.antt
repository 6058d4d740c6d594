use Rattle.fcl_check.proofs.Words.{◌≡◌, drop, filter_map, first, fuzzy_range, range_line}
use Rattle.fcl_check.proofs.parts.fuzzy_range.Given as goal

abbrev pub invariant-loop-line : goal.invariant-loop-line
invariant-loop-line l = first (filter_map range_line (drop l.line-index l.section.lines)) ≡ fuzzy_range l.section
