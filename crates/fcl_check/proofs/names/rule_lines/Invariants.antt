use Rattle.fcl_check.proofs.Words.{◌≡◌, first, None, repeated, rule_line_at, same_rule_line, take}
use Rattle.fcl_check.proofs.names.rule_lines.Given as goal

abbrev pub invariant-loop-index : goal.invariant-loop-index
invariant-loop-index l = first (repeated same_rule_line rule_line_at (take l.index l.lines)) ≡ None
