use Rattle.std.proofs.Common.{◌≡◌, length, ◌+◌}
use Rattle.fcl_tokens.specs.Lexing.{comment_end, shifted}
use Rattle.fcl_tokens.proofs.lexer.comment_end.Given as goal

abbrev pub invariant-each : goal.invariant-each
invariant-each l = record
    { so_far : shifted l.n (comment_end l.rest) ≡ comment_end l.bytes; len : l.n + length l.rest ≡ length l.bytes }

abbrev pub decreases-each : goal.decreases-each
decreases-each l = length l.rest
