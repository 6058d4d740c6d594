-- The Bound of a cell, and of a leaf of cells.
-- Beside the promise.
use Rattle.std.specs.Prelude.{◌≡◌, ◌≢◌, ℕ, ◌+◌, ◌-◌, ◌*◌, ◌<◌, ◌≤◌, ◌⊎◌, List, [], ◌∷◌, length, IfSome, Some, None}
use Rattle.std.specs.Prelude.{true, slice_get, slice_index}
use Rattle.fz_num.specs.{declared.dec.Dec.Dec, Fractions.Quotient}
use Rattle.fuzzy_meaning.specs.declared.{block.Block.Block, block.Output.Output}
use Rattle.fuzzy_meaning.specs.{Blocks.output_at, Blocks.IsValid, Meaning.answer_after}
use Rattle.byte_scaling.specs.Cells.{value_in}
use Rattle.point_slope.specs.Bytes.{answer_in}
use Rattle.error_bound.specs.{declared.boxes.Interval.Interval, Boxes.LieIn, Laws.IsInside, MassRanges.AreOverBox}
use Rattle.error_bound.specs.{Boxes.IsBoxOf, Matters.matters, Matters.narrowed}
use Rattle.error_bound.specs.{Tight.IsTightBound, TightLaws.IsAnsweredWithin}
use Rattle.cell_bounds.specs.Cells.{cell_of, IsErrorOnCell}

-- n is the tight Bound of the cell, or its error
pub data HasCellBound (b : Block) (cell : List Interval) (o : ℕ) (x : Output) (h n : ℕ) : Type 0 where
  of_tight : IsTightBound b cell o x h n → HasCellBound b cell o x h n
  of_error : IsErrorOnCell b cell o x h n → HasCellBound b cell o x h n

-- n is the less of the two
pub record IsCellBound (b : Block) (cell : List Interval) (o : ℕ) (x : Output) (h n : ℕ) : Type 0 where
  pub bound : HasCellBound b cell o x h n
  pub least : (m : ℕ) → HasCellBound b cell o x h m → n ≤ m

-- it is at most the whole range; where there is neither it counts as 1000001
pub data IsCellCount (b : Block) (cell : List Interval) (o : ℕ) (x : Output) (h n : ℕ) : Type 0 where
  of_bound : IsCellBound b cell o x h n → n ≤ 1000000 → IsCellCount b cell o x h n
  of_none : ((m : ℕ) → HasCellBound b cell o x h m → ⊥) → n ≡ 1000001 → IsCellCount b cell o x h n

-- ---- of a box of cells

-- each cell has a Bound of at most n
abbrev pub IsCellWithin : Block → List ℕ → ℕ → Output → ℕ → ℕ → Type 0
IsCellWithin b bytes o x h n = (m : ℕ) × HasCellBound b (cell_of bytes) o x h m × (m ≤ n)

abbrev pub CellsAreWithin : Block → List Interval → ℕ → Output → ℕ → ℕ → Type 0
CellsAreWithin b box o x h n = (bytes : List ℕ) → LieIn box bytes → IsCellWithin b bytes o x h n

-- n is the greatest of its cells' Bounds: the least number that none of them is above
pub record IsCellsBound (b : Block) (box : List Interval) (o : ℕ) (x : Output) (h n : ℕ) : Type 0 where
  pub within : CellsAreWithin b box o x h n
  pub least : (m : ℕ) → CellsAreWithin b box o x h m → n ≤ m

-- the first input's byte rises slowest
abbrev pub IsBefore : List ℕ → List ℕ → Type 0
IsBefore [] ns = ⊥
IsBefore (m ∷ ms) [] = ⊥
IsBefore (m ∷ ms) (n ∷ ns) = (m < n) ⊎ ((m ≡ n) × IsBefore ms ns)

-- of numbers for each output, in order, that of output o
abbrev pub number_of : List ℕ → ℕ → ℕ
number_of numbers o = slice_index numbers (o - 1)

-- of the outputs from number p to q, the cell of these bytes is the first in the box where one is above its limit, o is
-- the first that is, and n is its count there
pub record IsFirstCellAbove (b : Block) (h : ℕ) (limits : List ℕ) (p q : ℕ) (box : List Interval) (bytes : List ℕ)
    (o n : ℕ) : Type 0 where
  pub inside : LieIn box bytes
  pub from : p ≤ o
  pub to : o ≤ q
  pub count : IfSome (output_at b o) (λ x. IsCellCount b (cell_of bytes) o x h n)
  pub above : number_of limits o < n
  pub outputs_before : (j : ℕ) → p ≤ j → j < o
      → IfSome (output_at b j) (λ x. IsCellWithin b bytes j x h (number_of limits j))
  pub cells_before : (ms : List ℕ) → LieIn box ms → IsBefore ms bytes → (j : ℕ) → p ≤ j → j ≤ q
      → IfSome (output_at b j) (λ x. IsCellWithin b ms j x h (number_of limits j))

-- on some cell of the box output o has no Bound
abbrev pub IsUnsureOn : Block → ℕ → List Interval → ℕ → Type 0
IsUnsureOn b h box o =
    (bytes : List ℕ) × LieIn box bytes
    × IfSome (output_at b o) (λ x. (n : ℕ) → HasCellBound b (cell_of bytes) o x h n → ⊥)

-- o is the first such output
pub record IsFirstUnsure (b : Block) (h : ℕ) (box : List Interval) (o : ℕ) : Type 0 where
  pub from : 1 ≤ o
  pub to : o ≤ length b.outputs
  pub unsure : IsUnsureOn b h box o
  pub before : (j : ℕ) → 1 ≤ j → j < o → IfSome (output_at b j) (λ x. CellsAreWithin b box j x h 1000000)

-- how many cells a box has; those of a narrowed box are what a leaf of cells has few of
abbrev pub cell_count : List Interval → ℕ
cell_count [] = 1
cell_count (v ∷ vs) = (v.to - v.from + 1) * cell_count vs

-- ---- laws

-- each answer over the box is within n
abbrev pub BoxesOfCellsAnswer : Type 0
BoxesOfCellsAnswer =
    (b : Block) (box : List Interval) (o : ℕ) (x : Output) (h : ℕ) (bytes : List ℕ) (xs : List Dec) (n q : ℕ)
    (before : Quotient) → AreOverBox b box o x h bytes xs → CellsAreWithin b box o x h n
    → IsAnsweredWithin x n q (answer_in h b o bytes q) (value_in h x (answer_in h b o bytes q)) before
    (answer_after b o before xs)

-- bytes are the same for the inputs that matter on a box
abbrev pub AreSameWhereItMatters : Block → List Interval → List ℕ → List ℕ → Type 0
AreSameWhereItMatters b box ms ns =
    (i : ℕ) → 1 ≤ i → matters b box i ≡ true → slice_get ms (i - 1) ≡ slice_get ns (i - 1)

-- cells of such bytes in a box have one Bound
abbrev pub AlikeCellsHaveOneBound : Type 0
AlikeCellsHaveOneBound =
    (b : Block) (box : List Interval) (ms ns : List ℕ) (o : ℕ) (x : Output) (h n : ℕ) → IsValid b
    → output_at b o ≡ Some x → IsBoxOf b box → LieIn box ms → LieIn box ns → AreSameWhereItMatters b box ms ns
    → HasCellBound b (cell_of ms) o x h n → HasCellBound b (cell_of ns) o x h n

-- so those of the narrowed box stand for all: their greatest Bound is the box's, the first above its limit is, and so
-- is the first output that is unsure
pub record StandForAll (b : Block) (h : ℕ) (box : List Interval) : Type 0 where
  pub bound : (o : ℕ) (x : Output) (n : ℕ) → output_at b o ≡ Some x → IsCellsBound b (narrowed b box) o x h n
      → IsCellsBound b box o x h n
  pub first : (limits : List ℕ) (p q : ℕ) (bytes : List ℕ) (o n : ℕ)
      → IsFirstCellAbove b h limits p q (narrowed b box) bytes o n → IsFirstCellAbove b h limits p q box bytes o n
  pub unsure : (o : ℕ) → IsFirstUnsure b h (narrowed b box) o → IsFirstUnsure b h box o

abbrev pub NarrowedBoxesStandForAll : Type 0
NarrowedBoxesStandForAll = (b : Block) (h : ℕ) (box : List Interval) → IsValid b → IsBoxOf b box → StandForAll b h box

-- they are no more than all
abbrev pub NarrowedBoxesHaveFewerCells : Type 0
NarrowedBoxesHaveFewerCells = (b : Block) (box : List Interval) → cell_count (narrowed b box) ≤ cell_count box

-- each cell has a count
abbrev pub EachCellHasACount : Type 0
EachCellHasACount =
    (b : Block) (bytes : List ℕ) (o : ℕ) (x : Output) (h : ℕ) → IsValid b → IsBoxOf b (cell_of bytes)
    → output_at b o ≡ Some x → 1 ≤ h → (n : ℕ) × IsCellCount b (cell_of bytes) o x h n

-- and a Bound, where the output has a number as DEFAULT
abbrev pub DefaultsHaveCellBounds : Type 0
DefaultsHaveCellBounds =
    (b : Block) (bytes : List ℕ) (o : ℕ) (x : Output) (h : ℕ) → IsValid b → IsBoxOf b (cell_of bytes)
    → output_at b o ≡ Some x → 1 ≤ h → x.default ≢ None → (n : ℕ) × IsCellBound b (cell_of bytes) o x h n

-- so each box has a greatest Bound of its cells, or is unsure
abbrev pub EachBoxHasACellsBound : Type 0
EachBoxHasACellsBound =
    (b : Block) (h : ℕ) (box : List Interval) (o : ℕ) (x : Output) → IsValid b → IsBoxOf b box → 1 ≤ h
    → output_at b o ≡ Some x → ((n : ℕ) × IsCellsBound b box o x h n) ⊎ IsUnsureOn b h box o

-- the greatest Bounds of the outputs from number p to q are within their limits
abbrev pub AreCellsBoundsWithin : Block → ℕ → List ℕ → ℕ → ℕ → List Interval → Type 0
AreCellsBoundsWithin b h limits p q box =
    (j : ℕ) (x : Output) → p ≤ j → j ≤ q → output_at b j ≡ Some x
    → (n : ℕ) × IsCellsBound b box j x h n × (n ≤ number_of limits j)

-- or some cell is the first that is above one
abbrev pub EachBoxIsWithinOrAbove : Type 0
EachBoxIsWithinOrAbove =
    (b : Block) (h : ℕ) (limits : List ℕ) (p q : ℕ) (box : List Interval) → IsValid b → IsBoxOf b box → 1 ≤ h
    → ((k : ℕ) → slice_index limits k ≤ 1000000)
    → AreCellsBoundsWithin b h limits p q box
    ⊎ ((bytes : List ℕ) × (o : ℕ) × (n : ℕ) × IsFirstCellAbove b h limits p q box bytes o n)

-- a cell has one count, and a box one greatest Bound
abbrev pub CellCountsAreOne : Type 0
CellCountsAreOne =
    (b : Block) (cell : List Interval) (o : ℕ) (x : Output) (h n m : ℕ) → IsCellCount b cell o x h n
    → IsCellCount b cell o x h m → n ≡ m

abbrev pub CellsBoundsAreOne : Type 0
CellsBoundsAreOne =
    (b : Block) (box : List Interval) (o : ℕ) (x : Output) (h n m : ℕ) → IsCellsBound b box o x h n
    → IsCellsBound b box o x h m → n ≡ m

-- on a part of a box it is no greater
abbrev pub CellsBoundsFallInside : Type 0
CellsBoundsFallInside =
    (b : Block) (small box : List Interval) (o : ℕ) (x : Output) (h n m : ℕ) → IsInside small box
    → IsCellsBound b small o x h n → IsCellsBound b box o x h m → n ≤ m
