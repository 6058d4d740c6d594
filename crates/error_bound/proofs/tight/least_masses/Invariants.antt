use Rattle.std.proofs.Common.{◌≡◌, ℕ, ◌+◌, ◌<◌, ◌≤◌, true, List, drop}
use Rattle.std.specs.Prelude.{slice_index}
use Rattle.error_bound.proofs.LeafLemmas.{concludes_among}
use Rattle.error_bound.proofs.tight.least_masses.Given as goal

-- values that are not below the least so far, of the terms concluded from place k on
abbrev pub IsLeast : ℕ → ℕ → List (ℕ × ℕ) → List ℕ → Type 0
IsLeast o least cs values = (t : ℕ) → t < 15 → concludes_among o (t + 1) cs ≡ true → least ≤ slice_index values t

abbrev pub invariant-loop-k : goal.invariant-loop-k
invariant-loop-k l = record {
  low : IsLeast l.out l.low (drop l.k l.rule.concl) l.lows;
  high : IsLeast l.out l.high (drop l.k l.rule.concl) l.highs;
  byte_low : IsLeast l.out l.byte_low (drop l.k l.rule.concl) l.byte_lows;
  byte_high : IsLeast l.out l.byte_high (drop l.k l.rule.concl) l.byte_highs;
}
