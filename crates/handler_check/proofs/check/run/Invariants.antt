use Rattle.handler_check.proofs.Words.{◌&&◌, ◌-◌, ◌<◌, ◌≡◌, ◌≤◌, byte_at, code_limit, code_start, if◌then◌else◌}
use Rattle.handler_check.proofs.Words.{IsSome, nat_le, nat_lt, None, ℕ}
use Rattle.handler_check.proofs.check.run.Given as goal

abbrev pub invariant-loop-at : goal.invariant-loop-at
invariant-loop-at l = record {
  low : code_start ≤ l.at;
  high : l.at ≤ code_limit;
  bytes : (q : ℕ) → byte_at l.inside q ≡ (if nat_le code_start q && nat_lt q l.at then byte_at l.bytes q else None);
  some : (q : ℕ) → code_start ≤ q → q < l.at → IsSome (byte_at l.bytes q);
}

abbrev pub decreases-loop-at : goal.decreases-loop-at
decreases-loop-at l = 20480 - l.at
