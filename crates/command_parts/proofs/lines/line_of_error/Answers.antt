use Rattle.fz_shelf.proofs.Algebra.{bare-append, bare-decimal}
use Rattle.command_parts.proofs.lines.line_of_error.Goals as goal

pub of-requires : goal.of-requires
of-requires c = rw (c.in_ok-write.ensures.bytes, c.in_ok-text.ensures.ok)
    (bare-append c.args.label.now _ c.requires (search (bare-append, bare-decimal)))
