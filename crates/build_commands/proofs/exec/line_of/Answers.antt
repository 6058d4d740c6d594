use Rattle.std.specs.Prelude.{codes, decimal, ◌++◌}
use Rattle.fz_shelf.proofs.Algebra.{bare-append, bare-decimal}
use Rattle.command_parts.proofs.Algebra.{bare-registers}
use Rattle.command_parts.specs.Lines.{registers_told}
use Rattle.build_commands.proofs.exec.line_of.Goals as goal

pub of-requires : goal.of-requires
of-requires c = rw (c.in_ok-write.ensures.bytes, c.in_ok-text.ensures) (bare-append (registers_told c.args.regs.now)
    (codes " steps " ++ decimal c.args.steps) (bare-registers c.args.regs.now) (bare-decimal c.args.steps))
