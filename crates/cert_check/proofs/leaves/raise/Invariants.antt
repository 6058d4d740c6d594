use Rattle.std.proofs.Common.{◌≡◌, ℕ, ◌<◌, ◌≤◌, max, length, get_or}
use Rattle.cert_check.proofs.leaves.raise.Given as goal

abbrev pub invariant-loop-o : goal.invariant-loop-o
invariant-loop-o l = record {
  count : length l.errors ≡ length l.fn.errors;
  raised : (k : ℕ) → k < l.o → get_or l.errors k 0 ≡ max (get_or l.fn.errors k 0) (get_or l.bounds k 0);
  same : (k : ℕ) → l.o ≤ k → get_or l.errors k 0 ≡ get_or l.fn.errors k 0;
}
