-- The best leaf of a box for an output.
-- Beside the promise.
use Rattle.std.specs.Prelude.{◌≡◌, ◌⊎◌, ℕ, ◌*◌, ◌/◌, ◌<◌, ◌≤◌, List, Option, Some, None, IsTrue}
use Rattle.fuzzy_meaning.specs.declared.{block.Block.Block, block.Rule.Rule}
use Rattle.error_bound.specs.declared.{boxes.Interval.Interval, boxes.Leaf.Leaf}
use Rattle.error_bound.specs.Boxes.{rule_span, rule_byte_span}
use Rattle.error_bound.specs.Leaves.{rule_at, concludes_some, Holds}

-- rule number n concludes a term of output o, k/255 is the greatest such part of its strength all over the box, and
-- over bytes it has one too
pub record IsCandidate (b : Block) (box : List Interval) (o n k : ℕ) : Type 0 where
  pub from : 1 ≤ n
  pub rule : Rule
  pub rule_is : rule_at b n ≡ Some rule
  pub concludes_one : IsTrue (concludes_some rule o)
  pub part : k ≡ 255 * (rule_span b box rule).low.num / (rule_span b box rule).low.den
  pub some : 1 ≤ k
  pub byte_low : 1 ≤ (rule_byte_span b box rule).low

-- of numbers k of rules n: the greatest, and of those the first
abbrev pub IsFirstGreatest : (ℕ → ℕ → Type 0) → ℕ → ℕ → Type 0
IsFirstGreatest P n k = (m j : ℕ) → P m j → (j < k) ⊎ ((j ≡ k) × (n ≤ m))

abbrev pub silent_leaf : Leaf
silent_leaf = record { rule = 0; k = 0 }

-- the silent leaf where it holds, else the strongest one, else none
pub data IsBest (b : Block) (box : List Interval) (o : ℕ) : Option Leaf → Type 0 where
  silent : Holds b box o silent_leaf → IsBest b box o (Some silent_leaf)
  strong : (n k : ℕ) → (Holds b box o silent_leaf → ⊥) → IsCandidate b box o n k
      → IsFirstGreatest (IsCandidate b box o) n k → IsBest b box o (Some (record { rule = n; k = k }))
  nothing : (Holds b box o silent_leaf → ⊥) → ((n k : ℕ) → IsCandidate b box o n k → ⊥) → IsBest b box o None
