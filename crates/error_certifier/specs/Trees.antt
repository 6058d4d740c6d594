-- What a halving keeps while it makes its tree.
-- Beside the promise.
use Rattle.std.specs.Prelude.{◌≡◌, ◌⊎◌, ℕ, ◌+◌, ◌<◌, ◌≤◌, List, ◌++◌, length, All, Some, slice_get, slice_index}
use Rattle.std.specs.List.{Any}
use Rattle.fuzzy_meaning.specs.{declared.block.Block.Block, declared.block.Output.Output}
use Rattle.error_bound.specs.{declared.boxes.Interval.Interval, Reaches.IsBlockTable, Tight.IsTightBound}
use Rattle.box_tree.specs.declared.{cert.CertKind.CertKind, cert.Node.Node}
use Rattle.box_tree.specs.Certificates.{IsPair, IsLeaf, IsNode}
use Rattle.cert_check.specs.{Trees.Part, Trees.part_of, Trees.IsTree, Acceptance.HasBound, Walks.AreBounds}
use Rattle.byte_scaling.specs.Widths.{parts as parts_of}
use Rattle.error_certifier.specs.{Targets.AreTargets, declared.certifier.NotReached.NotReached}
use Rattle.error_certifier.specs.declared.{leaves.FoundLeaf.FoundLeaf, halving.Task.Task, halving.Tree.Tree}
use Rattle.error_certifier.specs.declared.leaves.Piece.{Piece}
use Rattle.error_certifier.specs.declared.leaves.Piece.TheVariants as piece
use Rattle.error_certifier.specs.Halving.{IsWithinTarget, IsSettled, IsAbove, IsLarge, IsWidest, Halves, Stops, counted}

-- the pair and the Bound at a place are those of the output's best leaf, which is within its target
pub record IsBestPair (b : Block) (h : ℕ) (targets : List ℕ) (box : List Interval) (k : ℕ) (x : Output)
    (pairs : List (ℕ × ℕ)) (bounds : List ℕ) : Type 0 where
  pub pair : ℕ × ℕ
  pub bound : ℕ
  pub pair_is : slice_get pairs k ≡ Some pair
  pub bound_is : slice_get bounds k ≡ Some bound
  pub within : IsWithinTarget b h (slice_index targets k) box (k + 1) x (record { rule = pair.0; k = pair.1 }) bound

-- of each output
pub record AreBestPairs (b : Block) (h : ℕ) (targets : List ℕ) (box : List Interval) (pairs : List (ℕ × ℕ))
    (bounds : List ℕ) : Type 0 where
  pub count : length pairs ≡ length b.outputs
  pub each : (k : ℕ) (x : Output) → slice_get b.outputs k ≡ Some x → IsBestPair b h targets box k x pairs bounds
  pub good : All IsPair pairs

-- these are the tight Bounds of the box, each at its output's place, each within its target
abbrev pub AreTightBounds : Block → ℕ → List ℕ → List Interval → List ℕ → Type 0
AreTightBounds b h targets box bounds =
    (k : ℕ) (x : Output) → slice_get b.outputs k ≡ Some x
    → IsTightBound b box (k + 1) x h (slice_index bounds k) × (slice_index bounds k ≤ slice_index targets k)

-- the box is a leaf that states this, with these Bounds, each within its target
pub record IsFoundLeaf (kind : CertKind) (b : Block) (h : ℕ) (targets : List ℕ) (box : List Interval)
    (found : FoundLeaf) : Type 0 where
  pub settled : IsSettled kind b h targets box found.stated
  pub good : IsLeaf kind (length b.outputs) found.stated
  pub bounds : AreBounds b h (part_of box found.stated) found.bounds
  pub within : (k : ℕ) → k < length b.outputs → slice_index found.bounds k ≤ slice_index targets k

-- or it is to be cut in the interval v, which is at place k
pub record IsSplit (kind : CertKind) (b : Block) (h : ℕ) (targets : List ℕ) (box : List Interval) (k : ℕ)
    (v : Interval) : Type 0 where
  pub above : IsAbove kind b h targets box
  pub large : IsLarge kind b box
  pub is_at : slice_get box k ≡ Some v
  pub widest : IsWidest (counted kind b box) k v
  pub wide : v.from < v.to

-- one of the two
abbrev pub IsPiece : CertKind → Block → ℕ → List ℕ → List Interval → Piece → Type 0
IsPiece kind b h targets box (piece.Leaf found) = IsFoundLeaf kind b h targets box found
IsPiece kind b h targets box (piece.Cut place interval) = IsSplit kind b h targets box place interval

pub record IsTask (task : Task) : Type 0 where
  pub table : IsBlockTable task.table
  pub targets : AreTargets task.table.block.now task.targets.items

-- a tree with an error for each output
pub record IsTreeFor (b : Block) (tree : Tree) : Type 0 where
  pub errors : length tree.errors.items ≡ length b.outputs
  pub leaves : tree.leaves ≤ 4096

-- an output's error rises to the greatest Bound of the leaves, each within its target
pub record RisesTo (b : Block) (h target : ℕ) (o : ℕ) (x : Output) (parts : List Part) (old new : ℕ) : Type 0 where
  pub rises : old ≤ new
  pub within : old ≤ target → new ≤ target
  pub each : All (λ p. (n : ℕ) × HasBound b o x h p n × (n ≤ new)) parts
  pub some : (new ≡ old) ⊎ Any (λ p. HasBound b o x h p new) parts

-- the tree grows by a box's nodes, which are a tree over it
pub record Grows (kind : CertKind) (b : Block) (h : ℕ) (targets : List ℕ) (box : List Interval) (old new : Tree)
    : Type 0 where
  pub added : List Node
  pub parts : List Part
  pub nodes : new.nodes.items ≡ old.nodes.items ++ added
  pub halves : Halves kind b h targets box old.leaves added new.leaves
  pub tree : (rest : List Node) → IsTree box (added ++ rest) parts rest
  pub good : All (IsNode kind (length b.outputs)) added
  pub count : length new.errors.items ≡ length old.errors.items
  pub errors : (k : ℕ) (x : Output) → slice_get b.outputs k ≡ Some x
      → RisesTo b h (slice_index targets k) (k + 1) x parts (slice_index old.errors.items k)
      (slice_index new.errors.items k)

-- ---- of a task

abbrev pub IsTaskPiece : Task → List Interval → Piece → Type 0
IsTaskPiece task box piece =
    IsPiece task.kind task.table.block.now (parts_of task.table.width) task.targets.items box piece

abbrev pub StopsTask : Task → List Interval → ℕ → NotReached → Type 0
StopsTask task box n stop =
    Stops task.kind task.table.block.now (parts_of task.table.width) task.targets.items box n stop

abbrev pub GrowsBy : Task → List Interval → Tree → Tree → Type 0
GrowsBy task box old new =
    Grows task.kind task.table.block.now (parts_of task.table.width) task.targets.items box old new
