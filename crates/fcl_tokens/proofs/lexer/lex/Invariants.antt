use Rattle.std.proofs.Common.{◌≡◌, length, ◌+◌}
use Rattle.fcl_tokens.specs.Lexing.{tokenization}
use Rattle.fcl_tokens.proofs.Cutting.{Cutting}
use Rattle.fcl_tokens.proofs.lexer.lex.Given as goal

abbrev pub invariant-each : goal.invariant-each
invariant-each l = record {
  cutting : Cutting l.tokens.items l.places.items l.at l.rest (tokenization l.text);
  len : l.at + length l.rest
      ≡ length l.text;
}

abbrev pub decreases-each : goal.decreases-each
decreases-each l = length l.rest
