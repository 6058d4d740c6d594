-- What a box's tight Bound says of the answers there, and of other Bounds.
-- Beside the promise.
use Rattle.std.specs.Prelude.{◌≡◌, ℕ, ◌≤◌, List, length, Some, None}
use Rattle.fz_num.specs.{declared.dec.Dec.Dec, Decimals.distance, Fractions.Quotient, Fractions.IsClose}
use Rattle.fuzzy_meaning.specs.declared.{block.Block.Block, block.Output.Output}
use Rattle.fuzzy_meaning.specs.{Blocks.output_at, Blocks.IsValid, Meaning.answer_after}
use Rattle.byte_scaling.specs.Cells.{value_in}
use Rattle.point_slope.specs.Bytes.{answer_in}
use Rattle.error_bound.specs.declared.{boxes.Interval.Interval, boxes.Leaf.Leaf}
use Rattle.error_bound.specs.Boxes.{IsBox, LieIn, LieInCells}
use Rattle.error_bound.specs.{Leaves.Holds, Bounds.IsBound, Laws.IsInside, Tight.IsTightBound, Tight.IsTightCount}

-- answer q' with the value p' follows answer q, and the exact answer `after` follows `before`: both are those before,
-- as NC keeps them, or p' is near `after`
pub data IsAnsweredWithin (x : Output) (n q q' : ℕ) (p' before after : Quotient) : Type 0 where
  kept : x.default ≡ None → q' ≡ q → after ≡ before → IsAnsweredWithin x n q q' p' before after
  near : IsClose (distance x.lo x.hi) n p' after → IsAnsweredWithin x n q q' p' before after

-- the box has the tight Bound n; the numbers lie in the cells of their bytes, and these lie in the box
pub record IsOnBox (b : Block) (box : List Interval) (o : ℕ) (x : Output) (h n : ℕ) (bytes : List ℕ) (xs : List Dec)
    : Type 0 where
  pub valid : IsValid b
  pub output_is : output_at b o ≡ Some x
  pub parts : 1 ≤ h
  pub cells : LieInCells b bytes xs
  pub box_is : LieIn box bytes
  pub bound_is : IsTightBound b box o x h n

-- an answer over bytes, in one part or in 256, is within the tight Bound of the exact answer
abbrev pub TightAnswersAreNear : Type 0
TightAnswersAreNear =
    (b : Block) (box : List Interval) (o : ℕ) (x : Output) (h n : ℕ) (bytes : List ℕ) (xs : List Dec)
    (before : Quotient) (q : ℕ) → IsOnBox b box o x h n bytes xs
    → IsAnsweredWithin x n q (answer_in h b o bytes q) (value_in h x (answer_in h b o bytes q)) before
    (answer_after b o before xs)

-- a box has one tight Bound for an output, or none
abbrev pub TightBoundsAreOne : Type 0
TightBoundsAreOne =
    (b : Block) (box : List Interval) (o : ℕ) (x : Output) (h n m : ℕ) → IsValid b → length box ≡ length b.inputs
    → IsTightCount b box o x h n → IsTightCount b box o x h m → n ≡ m

-- and each has the one or the other
abbrev pub EachBoxHasATightCount : Type 0
EachBoxHasATightCount =
    (b : Block) (box : List Interval) (o : ℕ) (x : Output) (h : ℕ) → IsValid b → IsBox box → output_at b o ≡ Some x
    → 1 ≤ h → (n : ℕ) × IsTightCount b box o x h n

-- it is at most the whole range
abbrev pub TightBoundsAreSmall : Type 0
TightBoundsAreSmall =
    (b : Block) (box : List Interval) (o : ℕ) (x : Output) (h n : ℕ) → IsTightBound b box o x h n → n ≤ 1000000

-- where a leaf holds there is one, and it is at most the leaf's Bound
abbrev pub TightBoundsAreLeast : Type 0
TightBoundsAreLeast =
    (b : Block) (box : List Interval) (o : ℕ) (x : Output) (h : ℕ) (leaf : Leaf) (m : ℕ) → IsValid b
    → output_at b o ≡ Some x → 1 ≤ h → Holds b box o leaf → IsBound b box o x h leaf m
    → (n : ℕ) × IsTightBound b box o x h n × (n ≤ m)

-- on a box inside it is no greater
abbrev pub TightBoundsFallInside : Type 0
TightBoundsFallInside =
    (b : Block) (small box : List Interval) (o : ℕ) (x : Output) (h n m : ℕ) → IsValid b → output_at b o ≡ Some x
    → 1 ≤ h → length box ≡ length b.inputs → IsInside small box → IsBox small → IsTightCount b small o x h n
    → IsTightCount b box o x h m → n ≤ m

-- and where the box has one, that has one
abbrev pub TightBoundsHoldInside : Type 0
TightBoundsHoldInside =
    (b : Block) (small box : List Interval) (o : ℕ) (x : Output) (h m : ℕ) → IsValid b → output_at b o ≡ Some x → 1 ≤ h
    → length box ≡ length b.inputs → IsInside small box → IsBox small → IsTightBound b box o x h m
    → (n : ℕ) × IsTightBound b small o x h n × (n ≤ m)

-- nor is it for answers in more parts to a byte than one
abbrev pub TightBoundsFallWithParts : Type 0
TightBoundsFallWithParts =
    (b : Block) (box : List Interval) (o : ℕ) (x : Output) (h n : ℕ) → IsValid b → output_at b o ≡ Some x → 1 ≤ h
    → IsTightBound b box o x 1 n → (m : ℕ) × IsTightBound b box o x h m × (m ≤ n)
