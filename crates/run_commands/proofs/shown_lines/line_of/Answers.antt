use Rattle.command_parts.proofs.Algebra.{bare-registers}
use Rattle.run_commands.proofs.shown_lines.line_of.Goals as goal

pub of-requires : goal.of-requires
of-requires c = rw c.in_ok-told_registers-in-Registers.ensures (bare-registers _)
