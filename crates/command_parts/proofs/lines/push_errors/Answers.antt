use Rattle.std.proofs.Common.{◌∷◌, []}
use Rattle.command_parts.specs.Lines.{error_line}
use Rattle.command_parts.proofs.Algebra.{lines_more}
use Rattle.command_parts.proofs.lines.push_errors.Goals as goal

pub loop-at-preserved : goal.loop-at-preserved
loop-at-preserved c = lines_more (λ o e. error_line c.args.label.now o e ∷ []) c.args.errors.now c.loop-at.at _ _ _ _
    c.loop-at-test.true c.loop-at.invariant (rw c.in_ok-line_of_error.ensures at c.in_ok-push.ensures.items)
