use Rattle.fz_shelf.proofs.Algebra.{bare-address, bare-append, bare-decimal}
use Rattle.run_commands.proofs.shown_lines.line_of_stop.Goals as goal

pub of-requires : goal.of-requires
of-requires c = rw (c.in_ok-push_address.ensures, c.in_ok-write.ensures.bytes, c.in_ok-text.ensures.ok)
    (search (bare-append, bare-decimal, bare-address))
