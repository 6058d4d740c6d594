use Rattle.fcl_check.proofs.Words.{refl, rule_line_at, same_rule_line, sym, take_more}
use Rattle.fcl_check.proofs.Places.{repeated_here}
use Rattle.fcl_check.proofs.names.rule_lines.Goals as goal

pub returns-then-has_rule_line : goal.returns-then-has_rule_line
returns-then-has_rule_line c =
    let here = repeated_here same_rule_line rule_line_at c.args.lines.now c.loop-index.index _
    (take_more c.args.lines.now c.loop-index.index _ c.loop-index-test.true) c.loop-index.invariant (sym c.if-has_rule_line.ensures) in
    λ h. rw (here, c.rule_line_at.ensures) refl
