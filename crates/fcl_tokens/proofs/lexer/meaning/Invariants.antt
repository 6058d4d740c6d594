use Rattle.std.proofs.Common.{◌≡◌, length, map}
use Rattle.fcl_tokens.specs.Tokens.{meaning_in}
use Rattle.fcl_tokens.proofs.lexer.meaning.Given as goal

abbrev pub invariant-loop-table : goal.invariant-loop-table
invariant-loop-table l =
    meaning_in (map (λ m. (m.0.now, m.1)) l.table) l.text ≡ meaning_in
    (map (λ m. (m.0.now, m.1)) l.initial.table) l.text

abbrev pub decreases-loop-table : goal.decreases-loop-table
decreases-loop-table l = length l.table
