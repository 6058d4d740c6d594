use Rattle.std.proofs.Common.{◌≡◌, ◌++◌, take}
use Rattle.command_parts.specs.Lines.{error_lines}
use Rattle.command_parts.proofs.lines.push_errors.Given as goal

abbrev pub invariant-loop-at : goal.invariant-loop-at
invariant-loop-at l = l.lines.items ≡ l.initial.lines.items ++ error_lines l.label (take l.at l.errors)
