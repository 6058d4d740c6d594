-- Where a leaf's pair for an output holds.
-- Beside the promise.
use Rattle.std.specs.Prelude.{◌≡◌, ℕ, ◌-◌, ◌≤◌, List, All, Option, Some, IsSomeAnd, Bool, IsTrue, slice_get, ◌==◌}
use Rattle.std.specs.List.{list_any}
use Rattle.fz_num.specs.Fractions.{over, AtMost}
use Rattle.fuzzy_meaning.specs.{declared.block.Block.Block, declared.block.Rule.Rule, Meaning.concludes}
use Rattle.error_bound.specs.declared.{boxes.Interval.Interval, boxes.Leaf.Leaf}
use Rattle.error_bound.specs.Boxes.{rule_span, rule_byte_span}

-- rules count from 1
abbrev pub rule_at : Block → ℕ → Option Rule
rule_at b n = slice_get b.rules (n - 1)

-- the rule concludes a term of output o, and all over the box it has a strength of at least k/255, and over bytes of at
-- least 1
pub record IsStrong (b : Block) (box : List Interval) (o : ℕ) (r : Rule) (k : ℕ) : Type 0 where
  pub term : ℕ
  pub concludes_it : IsTrue (concludes r o term)
  pub low : AtMost (over k 255) (rule_span b box r).low
  pub byte_low : 1 ≤ (rule_byte_span b box r).low

-- nowhere on the box has the rule a strength
pub record IsStill (b : Block) (box : List Interval) (r : Rule) : Type 0 where
  pub high : (rule_span b box r).high.num ≡ 0
  pub byte_high : (rule_byte_span b box r).high ≡ 0

-- a strong leaf names a rule and a number from 1 to 255; a silent one has 0 and 0
pub data Holds (b : Block) (box : List Interval) (o : ℕ) : Leaf → Type 0 where
  strong : {leaf : Leaf} (r : Rule) → 1 ≤ leaf.rule → 1 ≤ leaf.k → leaf.k ≤ 255 → rule_at b leaf.rule ≡ Some r
      → IsStrong b box o r leaf.k → Holds b box o leaf
  silent : {leaf : Leaf} → leaf.rule ≡ 0 → leaf.k ≡ 0
      → All (λ r. (t : ℕ) → IsTrue (concludes r o t) → IsStill b box r) b.rules → Holds b box o leaf

-- whether a rule concludes some term of output o
abbrev pub concludes_some : Rule → ℕ → Bool
concludes_some r o = list_any (λ c. c.0 == o) r.concl

-- a pair of a certificate: both numbers are 0 or neither, and a strong one names a rule that concludes a term of output
-- o
pub record IsPairFor (b : Block) (o : ℕ) (leaf : Leaf) : Type 0 where
  pub silent : leaf.k ≡ 0 → leaf.rule ≡ 0
  pub strong : 1 ≤ leaf.k → 1 ≤ leaf.rule
  pub part : leaf.k ≤ 255
  pub concludes_one : 1 ≤ leaf.k → IsSomeAnd (rule_at b leaf.rule) (λ r. IsTrue (concludes_some r o))
