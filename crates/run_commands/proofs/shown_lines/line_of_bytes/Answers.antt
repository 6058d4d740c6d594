use Rattle.run_commands.proofs.Words.{bare-address, bare-append}
use Rattle.run_commands.proofs.DebugLemmas.{bare-bytes}
use Rattle.run_commands.proofs.shown_lines.line_of_bytes.Goals as goal

pub of-requires : goal.of-requires
of-requires c = rw (c.in_ok-push_bytes.ensures, c.in_ok-push_address.ensures, c.new-text.ensures.bytes)
    (search (bare-append, bare-address, bare-bytes))
