use Rattle.fcl_check.proofs.Words.{◌≡◌, default_line, default_of, drop, filter_map, first}
use Rattle.fcl_check.proofs.parts.fallback.Given as goal

abbrev pub invariant-loop-line : goal.invariant-loop-line
invariant-loop-line l = first (filter_map default_line (drop l.line-index l.section.lines)) ≡ default_of l.section
