-- What the best leaf of a box says of every leaf there.
-- Beside the promise.
use Rattle.std.specs.Prelude.{◌≡◌, ℕ, ◌≤◌, List, length, Option, Some, None}
use Rattle.fuzzy_meaning.specs.declared.{block.Block.Block, block.Output.Output}
use Rattle.fuzzy_meaning.specs.Blocks.{IsValid, output_at}
use Rattle.error_bound.specs.declared.{boxes.Interval.Interval, boxes.Leaf.Leaf}
use Rattle.error_bound.specs.{Boxes.IsBox, Leaves.Holds, Leaves.IsPairFor, Best.IsBest, Bounds.IsBound, Laws.IsInside}

-- n is the Bound of the box's best leaf; where no leaf holds it counts as 1000001
pub data IsBestBound (b : Block) (box : List Interval) (o : ℕ) (x : Output) (h : ℕ) : ℕ → Type 0 where
  of_leaf : (leaf : Leaf) (n : ℕ) → IsBest b box o (Some leaf) → IsBound b box o x h leaf n → IsBestBound b box o x h n
  of_none : IsBest b box o None → IsBestBound b box o x h 1000001

-- a box has one best leaf for an output, or none
abbrev pub BestLeavesAreOne : Type 0
BestLeavesAreOne =
    (b : Block) (box : List Interval) (o : ℕ) (p q : Option Leaf) → IsBest b box o p → IsBest b box o q → p ≡ q

-- and each has a best leaf's Bound, or the count where there is none
abbrev pub EachBoxHasABestBound : Type 0
EachBoxHasABestBound =
    (b : Block) (box : List Interval) (o : ℕ) (x : Output) (h : ℕ) → IsValid b → IsBox box
    → (n : ℕ) × IsBestBound b box o x h n

-- the best leaf counts on at most the whole truth
abbrev pub BestPartsAreSmall : Type 0
BestPartsAreSmall =
    (b : Block) (box : List Interval) (o : ℕ) (leaf : Leaf) → IsValid b → IsBest b box o (Some leaf) → leaf.k ≤ 255

-- it holds, and is a pair of a certificate
abbrev pub BestLeavesHold : Type 0
BestLeavesHold =
    (b : Block) (box : List Interval) (o : ℕ) (leaf : Leaf) → leaf.k ≤ 255 → IsBest b box o (Some leaf)
    → Holds b box o leaf × IsPairFor b o leaf

-- its Bound is at most that of each leaf that holds on the box, or on one around it
abbrev pub BestBoundsAreLeast : Type 0
BestBoundsAreLeast =
    (b : Block) (small box : List Interval) (o : ℕ) (x : Output) (h : ℕ) (leaf : Leaf) (n m : ℕ) → IsValid b
    → output_at b o ≡ Some x → 1 ≤ h → length box ≡ length b.inputs → IsInside small box → IsBox small
    → IsBestBound b small o x h n → Holds b box o leaf → IsBound b box o x h leaf m → n ≤ m
