-- Halving: a box is a leaf where its best leaves are all within the outputs' targets, and else it is cut in the middle
-- of the widest interval of an input that matters, the lower half first.
-- Beside the promise.
use Rattle.std.specs.Prelude.{◌≡◌, ◌≢◌, ℕ, ◌+◌, ◌-◌, ◌/◌, ◌<◌, ◌≤◌, List, [], ◌∷◌, ◌++◌, length, Some, slice_get}
use Rattle.std.specs.Prelude.{slice_index, replicate}
use Rattle.arrayvec.specs.ArrayVec.{ArrayVec}
use Rattle.fuzzy_meaning.specs.declared.{block.Block.Block, block.Output.Output}
use Rattle.error_bound.specs.declared.boxes.Interval.{Interval}
use Rattle.error_bound.specs.declared.boxes.Leaf as the
use Rattle.error_bound.specs.{Best.IsBest, Bounds.IsBound, Tight.IsTightBound, Matters.narrowed}
use Rattle.box_tree.specs.declared.cert.CertKind.{CertKind}
use Rattle.box_tree.specs.declared.cert.CertKind.TheVariants as kind
use Rattle.box_tree.specs.declared.{cert.LeafLine.LeafLine, cert.Node.Node, cert.Cert.Cert}
use Rattle.box_tree.specs.declared.cert.LeafLine.TheVariants.{Pairs, Tight, Cells}
use Rattle.box_tree.specs.declared.cert.Node.TheVariants.{Split, Leaf}
use Rattle.cell_bounds.specs.{Cells.cell_of, Claims.IsBoxCount}
use Rattle.cell_bounds.specs.CellBounds.{IsCellsBound, IsFirstCellAbove, cell_count}
use Rattle.cert_check.specs.{Trees.whole, Trees.left_of, Trees.right_of, Acceptance.IsAccepted}
use Rattle.error_certifier.specs.{declared.certifier.NotReached.NotReached, Targets.AreTargets}
use Rattle.error_certifier.specs.declared.certifier.NotReached.TheVariants.{Cell, LeafLimit, Outputs}

-- ---- a box and the targets, one for each output in order, in millionths of its range, for answers in h parts to a
-- byte

-- of the outputs the one at place k is the first whose best leaf, not one of cells, counts n on the box, above its
-- target
pub record IsFirstAbove (kind : CertKind) (b : Block) (h : ℕ) (targets : List ℕ) (box : List Interval) (k n : ℕ)
    : Type 0 where
  pub output : Output
  pub output_is : slice_get b.outputs k ≡ Some output
  pub bound : IsBoxCount kind b box (k + 1) output h n
  pub above : slice_index targets k < n
  pub before : (j : ℕ) (x : Output) → j < k → slice_get b.outputs j ≡ Some x
      → (m : ℕ) × IsBoxCount kind b box (j + 1) x h m × (m ≤ slice_index targets j)

-- some output is
abbrev pub IsAbove : CertKind → Block → ℕ → List ℕ → List Interval → Type 0
IsAbove kind b h targets box = (k : ℕ) × (n : ℕ) × IsFirstAbove kind b h targets box k n

-- the leaf is the best one for output o, and its Bound n is at most a target
pub record IsWithinTarget (b : Block) (h target : ℕ) (box : List Interval) (o : ℕ) (x : Output) (leaf : the.Leaf)
    (n : ℕ) : Type 0 where
  pub best : IsBest b box o (Some leaf)
  pub bound : IsBound b box o x h leaf n
  pub within : n ≤ target

-- these are the best leaves of the box, one for each output, each within its target
pub record AreWithinTarget (b : Block) (h : ℕ) (targets : List ℕ) (box : List Interval) (pairs : List (ℕ × ℕ))
    : Type 0 where
  pub count : length pairs ≡ length b.outputs
  pub each : (k : ℕ) (x : Output) → slice_get b.outputs k ≡ Some x
      → (p : ℕ × ℕ) × (n : ℕ) × (slice_get pairs k ≡ Some p)
      × IsWithinTarget b h (slice_index targets k) box (k + 1) x (record { rule = p.0; k = p.1 }) n

-- the tight Bounds of the box are
abbrev pub IsTightWithin : Block → ℕ → List ℕ → List Interval → Type 0
IsTightWithin b h targets box =
    (k : ℕ) (x : Output) → slice_get b.outputs k ≡ Some x
    → (n : ℕ) × IsTightBound b box (k + 1) x h n × (n ≤ slice_index targets k)

-- the Bounds of all its cells are
abbrev pub AreCellsWithin : Block → ℕ → List ℕ → List Interval → Type 0
AreCellsWithin b h targets box =
    (k : ℕ) (x : Output) → slice_get b.outputs k ≡ Some x
    → (n : ℕ) × IsCellsBound b box (k + 1) x h n × (n ≤ slice_index targets k)

-- the box is a leaf with this line: a tight one is one of cells only where it has few, and its tight Bounds are too
-- high
abbrev pub IsSettled : CertKind → Block → ℕ → List ℕ → List Interval → LeafLine → Type 0
IsSettled kind.Named b h targets box (Pairs pairs) = AreWithinTarget b h targets box pairs.items
IsSettled kind.Tight b h targets box Tight = IsTightWithin b h targets box
IsSettled kind.Tight b h targets box Cells =
    IsAbove kind.Tight b h targets box × (cell_count (narrowed b box) ≤ 64) × AreCellsWithin b h targets box
IsSettled kind b h targets box stated = ⊥

-- no leaf of the box serves: this cell is the first, and o the first output there, whose count n is above its target
abbrev pub IsStuck : CertKind → Block → ℕ → List ℕ → List Interval → List ℕ → ℕ → ℕ → Type 0
IsStuck kind.Named b h targets box bytes o n =
    (box ≡ cell_of bytes) × (k : ℕ) × (o ≡ k + 1) × IsFirstAbove kind.Named b h targets box k n
IsStuck kind.Tight b h targets box bytes o n =
    IsAbove kind.Tight b h targets box × (cell_count (narrowed b box) ≤ 64)
    × IsFirstCellAbove b h targets 1 (length b.outputs) box bytes o n

-- ---- cuts

-- the interval v at place k is the first of the widest
pub record IsWidest (box : List Interval) (k : ℕ) (v : Interval) : Type 0 where
  pub is_at : slice_get box k ≡ Some v
  pub most : (j : ℕ) (u : Interval) → slice_get box j ≡ Some u → u.to - u.from ≤ v.to - v.from
  pub first : (j : ℕ) (u : Interval) → j < k → slice_get box j ≡ Some u → u.to - u.from < v.to - v.from

-- n bytes from lo on are cut at lo + n/2
abbrev pub middle_of : Interval → ℕ
middle_of v = v.from + (v.to - v.from + 1) / 2

-- the intervals that count: for a tight leaf those of the inputs that matter
abbrev pub counted : CertKind → Block → List Interval → List Interval
counted kind.Named b box = box
counted kind.Tight b box = narrowed b box

-- the widest interval of those that count, which is at place k, has more bytes than one, and its middle is c
pub record IsHalvedAt (count box : List Interval) (k c : ℕ) : Type 0 where
  pub interval : Interval
  pub is_at : slice_get box k ≡ Some interval
  pub widest : IsWidest count k interval
  pub more : interval.from < interval.to
  pub middle : c ≡ middle_of interval

-- the box is to be cut, in the interval at place k, at c: a tight one only where it has many cells
abbrev pub IsLarge : CertKind → Block → List Interval → Type 0
IsLarge kind.Named b box = Unit {0}
IsLarge kind.Tight b box = 64 < cell_count (narrowed b box)

pub record IsToCut (kind : CertKind) (b : Block) (h : ℕ) (targets : List ℕ) (box : List Interval) (k c : ℕ)
    : Type 0 where
  pub above : IsAbove kind b h targets box
  pub large : IsLarge kind b box
  pub halved : IsHalvedAt (counted kind b box) box k c

-- ---- halving

-- where n leaves stand, the box comes to these nodes, and then m leaves stand
pub data Halves (kind : CertKind) (b : Block) (h : ℕ) (targets : List ℕ) : List Interval → ℕ → List Node → ℕ
    → Type 0 where
  leaf : (box : List Interval) (n : ℕ) (stated : LeafLine) → IsSettled kind b h targets box stated → n < 4096
      → Halves kind b h targets box n (Leaf stated ∷ []) (n + 1)
  split : (box : List Interval) (k c n m r : ℕ) (left right : List Node) → IsToCut kind b h targets box k c
      → Halves kind b h targets (left_of k c box) n left m → Halves kind b h targets (right_of k c box) m right r
      → Halves kind b h targets box n (Split (k + 1) c ∷ (left ++ right)) r

-- or halving it stops: at the first cell that is above a target, or where another leaf would be too many
pub data Stops (kind : CertKind) (b : Block) (h : ℕ) (targets : List ℕ) : List Interval → ℕ → NotReached → Type 0 where
  cell : (box : List Interval) (n : ℕ) (bytes : ArrayVec ℕ) (output above : ℕ)
      → IsStuck kind b h targets box bytes.items output above
      → Stops kind b h targets box n (Cell bytes output above)
  limit : (box : List Interval) (n : ℕ) (stated : LeafLine) → IsSettled kind b h targets box stated → 4096 ≤ n
      → Stops kind b h targets box n LeafLimit
  in_left : (box : List Interval) (k c n : ℕ) (stop : NotReached) → IsToCut kind b h targets box k c
      → Stops kind b h targets (left_of k c box) n stop → Stops kind b h targets box n stop
  in_right : (box : List Interval) (k c n m : ℕ) (left : List Node) (stop : NotReached)
      → IsToCut kind b h targets box k c
      → Halves kind b h targets (left_of k c box) n left m → Stops kind b h targets (right_of k c box) m stop
      → Stops kind b h targets box n stop

-- the certificate of the halving of all bytes: its claims are its errors
pub record IsHalvingFor (kind : CertKind) (b : Block) (h : ℕ) (targets : List ℕ) (cert : Cert) : Type 0 where
  pub targets_are : AreTargets b targets
  pub leaves : ℕ
  pub nodes : Halves kind b h targets (whole b) 0 cert.nodes leaves
  pub claims : IsAccepted b h cert cert.claims

-- why there is none: another count of targets than of outputs comes before all else
pub data StopsFor (kind : CertKind) (b : Block) (h : ℕ) (targets : List ℕ) : NotReached → Type 0 where
  outputs : length targets ≢ length b.outputs
      → StopsFor kind b h targets (Outputs (length targets) (length b.outputs))
  halving : (stop : NotReached) → length targets ≡ length b.outputs → Stops kind b h targets (whole b) 0 stop
      → StopsFor kind b h targets stop

-- ---- with one target for all outputs

abbrev pub one_for_all : Block → ℕ → List ℕ
one_for_all b target = replicate (length b.outputs) target

abbrev pub IsHalving : CertKind → Block → ℕ → ℕ → Cert → Type 0
IsHalving kind b h target cert = IsHalvingFor kind b h (one_for_all b target) cert

abbrev pub StopsAt : CertKind → Block → ℕ → ℕ → NotReached → Type 0
StopsAt kind b h target stop = StopsFor kind b h (one_for_all b target) stop
