use Rattle.fcl_check.proofs.Words.{◌≡◌, drop, filter_map, first, method_line}
use Rattle.fcl_check.proofs.check.sections.has_method.Given as goal

abbrev pub invariant-loop-line : goal.invariant-loop-line
invariant-loop-line l =
    first (filter_map method_line (drop l.line-index l.section.lines)) ≡ first
    (filter_map method_line l.section.lines)
