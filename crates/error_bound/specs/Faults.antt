-- Why a leaf does not hold on a box.
-- Beside the promise.
use Rattle.std.specs.Prelude.{◌≡◌, ◌⊎◌, ℕ, ◌*◌, ◌/◌, ◌<◌, ◌≤◌, List, Some, IsTrue}
use Rattle.fz_num.specs.Fractions.{Fraction, over, AtMost, IsBelow, up_div}
use Rattle.fuzzy_meaning.specs.{declared.block.Block.Block, declared.block.Rule.Rule, Meaning.concludes}
use Rattle.error_bound.specs.declared.boxes.Interval.{Interval}
use Rattle.error_bound.specs.declared.boxes.Leaf as the
use Rattle.error_bound.specs.declared.boxes.LeafFault.{LeafFault}
use Rattle.error_bound.specs.declared.boxes.LeafFault.TheVariants.{Weak, Still, Silent, Loud}
use Rattle.error_bound.specs.Leaves.{rule_at, concludes_some, IsStill, Holds, IsPairFor}
use Rattle.error_bound.specs.{Boxes.rule_span, Boxes.rule_byte_span, Spans.Span, Errors.billion}

-- in parts of 10^9, rounded down or up
abbrev pub parts_down : Fraction → ℕ
parts_down f = f.num * billion / f.den

abbrev pub parts_up : Fraction → ℕ
parts_up f = up_div (f.num * billion) f.den

-- rule number n concludes a term of output o, and those before it that do have no strength on the box
pub record IsFirstFiring (b : Block) (box : List Interval) (o n : ℕ) (r : Rule) : Type 0 where
  pub from : 1 ≤ n
  pub rule_is : rule_at b n ≡ Some r
  pub concludes_one : IsTrue (concludes_some r o)
  pub still_before : (m : ℕ) (q : Rule) → 1 ≤ m → m < n → rule_at b m ≡ Some q → (t : ℕ) → IsTrue (concludes q o t)
      → IsStill b box q

-- from s and over bytes from m on, a strength goes below k/255, or else over bytes to 0
pub data IsStrongFault (leaf : the.Leaf) (s : Span Fraction) (m : Span ℕ) : LeafFault → Type 0 where
  weak : IsBelow s.low (over leaf.k 255)
      → IsStrongFault leaf s m (Weak leaf.rule leaf.k (record { 0 = parts_down s.low }))
  still : AtMost (over leaf.k 255) s.low → m.low ≡ 0 → IsStrongFault leaf s m (Still leaf.rule)

-- up to s and over bytes up to m, rule number n has a strength, or else one over bytes
pub data IsSilentFault (n : ℕ) (s : Span Fraction) (m : Span ℕ) : LeafFault → Type 0 where
  silent : 0 < s.high.num → IsSilentFault n s m (Silent n (record { 0 = parts_up s.high }))
  loud : s.high.num ≡ 0 → 0 < m.high → IsSilentFault n s m (Loud n m.high)

-- of the rule that a strong leaf names; of a silent leaf, of the first rule that has one
pub data HasLeafFault (b : Block) (box : List Interval) (o : ℕ) (leaf : the.Leaf) (f : LeafFault) : Type 0 where
  of_strong : (r : Rule) → 1 ≤ leaf.k → rule_at b leaf.rule ≡ Some r
      → IsStrongFault leaf (rule_span b box r) (rule_byte_span b box r) f → HasLeafFault b box o leaf f
  of_silent : (n : ℕ) (r : Rule) → leaf.k ≡ 0 → IsFirstFiring b box o n r
      → IsSilentFault n (rule_span b box r) (rule_byte_span b box r) f → HasLeafFault b box o leaf f

-- a leaf with a fault doesn't hold
abbrev pub FaultyLeavesFail : Type 0
FaultyLeavesFail =
    (b : Block) (box : List Interval) (o : ℕ) (leaf : the.Leaf) (f : LeafFault) → HasLeafFault b box o leaf f
    → Holds b box o leaf → ⊥

-- a leaf has at most one first fault
abbrev pub LeafFaultsAreOne : Type 0
LeafFaultsAreOne =
    (b : Block) (box : List Interval) (o : ℕ) (leaf : the.Leaf) (f g : LeafFault) → HasLeafFault b box o leaf f
    → HasLeafFault b box o leaf g → f ≡ g

-- and each pair for an output holds or has one
abbrev pub EachLeafIsJudged : Type 0
EachLeafIsJudged =
    (b : Block) (box : List Interval) (o : ℕ) (leaf : the.Leaf) → IsPairFor b o leaf
    → Holds b box o leaf ⊎ ((f : LeafFault) × HasLeafFault b box o leaf f)
