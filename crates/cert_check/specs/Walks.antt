-- What a walk over the nodes of a tree keeps.
-- Beside the promise.
use Rattle.std.specs.Prelude.{◌≡◌, ◌⊎◌, ℕ, ◌+◌, ◌-◌, ◌<◌, ◌≤◌, max, List, [], ◌∷◌, ◌++◌, length, map, reverse, All}
use Rattle.std.specs.Prelude.{Some}
use Rattle.std.specs.Prelude.{MatchOption, slice_get, slice_index, vec_capacity}
use Rattle.std.specs.List.{Any}
use Rattle.fuzzy_meaning.specs.{declared.block.Block.Block, declared.block.Output.Output}
use Rattle.byte_scaling.specs.Widths.{parts as parts_of}
use Rattle.error_bound.specs.declared.{boxes.Interval.Interval, boxes.ByteBox.ByteBox}
use Rattle.error_bound.specs.{Boxes.IsBoxOf, Reaches.IsBlockTable}
use Rattle.box_tree.specs.declared.{cert.CertKind.CertKind, cert.Node.Node, cert.Cert.Cert}
use Rattle.box_tree.specs.{Certificates.AreClaims, Certificates.IsNode, Trees.open_behind, Trees.leaf_count}
use Rattle.cert_check.specs.{declared.walk.Walk.Walk, Trees.Part, Trees.IsTree, Trees.whole}
use Rattle.cert_check.specs.{Acceptance.HasBound, Acceptance.IsAccepted, declared.checker.CheckFault.CheckFault}
use Rattle.cert_check.specs.Faults.{AllHold, Reaches, HasCheckFault}

-- the boxes of a stack, the next one first
abbrev pub stack_of : List ByteBox → List (List Interval)
stack_of boxes = map (λ x. x.0.items) (reverse boxes)

-- the leaf's Bounds, each at its output's place
abbrev pub AreBounds : Block → ℕ → Part → List ℕ → Type 0
AreBounds b h p bounds =
    (k : ℕ) (x : Output) → slice_get b.outputs k ≡ Some x → HasBound b (k + 1) x h p (slice_index bounds k)

-- each error rises to the Bound at its place
pub record AreRaised (bounds old new : List ℕ) : Type 0 where
  pub count : length new ≡ length old
  pub each : (k : ℕ) → k < length old → slice_index new k ≡ max (slice_index old k) (slice_index bounds k)

-- each output's error rises to its Bound on the leaf
pub record Raises (b : Block) (h : ℕ) (p : Part) (old new : List ℕ) : Type 0 where
  pub bounds : List ℕ
  pub are_bounds : AreBounds b h p bounds
  pub raised : AreRaised bounds old new

-- how often a box can be cut: each interval as often as it has bytes but one
abbrev pub cuts_of : List Interval → ℕ
cuts_of [] = 0
cuts_of (v ∷ vs) = v.to - v.from + cuts_of vs

-- each box of a stack was cut out of all bytes, once for each box below it
abbrev pub AreCutOut : List (List Interval) → Type 0
AreCutOut [] = Unit {0}
AreCutOut (box ∷ boxes) = (cuts_of box + length boxes ≤ 2040) × AreCutOut boxes

-- nodes begin with a tree for each box
abbrev pub AreTrees : List (List Interval) → List Node → List Part → List Node → Type 0
AreTrees [] nodes parts rest = (parts ≡ []) × (nodes ≡ rest)
AreTrees (box ∷ boxes) nodes parts rest =
    (ps : List Part) × (qs : List Part) × (mid : List Node) × IsTree box nodes ps mid
    × AreTrees boxes mid qs rest × (parts ≡ ps ++ qs)

-- in the first tree, or in a later one where the leaves of those before hold
abbrev pub AreReached : Block → ℕ → List (List Interval) → List Node → List Interval → List Node → Type 0
AreReached b h [] nodes found rest = ⊥
AreReached b h (box ∷ boxes) nodes found rest = Reaches b h box nodes found rest ⊎
    ((ps : List Part) × (mid : List Node) × IsTree box nodes ps mid × All (AllHold b h) ps
    × AreReached b h boxes mid found rest)

-- e is the greatest Bound of the leaves, or 0 where there is none
pub record IsGreatestSoFar (b : Block) (o : ℕ) (x : Output) (h : ℕ) (parts : List Part) (e : ℕ) : Type 0 where
  pub each : All (λ p. (n : ℕ) × HasBound b o x h p n × (n ≤ e)) parts
  pub some : 1 ≤ e → Any (λ p. HasBound b o x h p e) parts

-- behind these nodes, whose leaves hold, these boxes are open and these the errors so far: with a tree for each of
-- the boxes the nodes are a tree over all bytes
pub record HasWalked (b : Block) (h : ℕ) (nodes : List Node) (boxes : List (List Interval))
    (errors : List ℕ) : Type 0 where
  pub are_boxes : All (IsBoxOf b) boxes
  pub cut_out : AreCutOut boxes
  pub open_count : open_behind nodes ≡ Some (length boxes)
  pub parts : List Part
  pub trees : (rest : List Node) (ps : List Part) → AreTrees boxes rest ps []
      → AreTrees (whole b ∷ []) (nodes ++ rest) (parts ++ ps) []
  pub reached : (rest : List Node) (found : List Interval) (after : List Node) → AreReached b h boxes rest found after
      → AreReached b h (whole b ∷ []) (nodes ++ rest) found after
  pub count : length errors ≡ length b.outputs
  pub greatest : (k : ℕ) (x : Output) → slice_get b.outputs k ≡ Some x
      → IsGreatestSoFar b (k + 1) x h parts (slice_index errors k)

-- the certificate that a walk is over, if these are its nodes
abbrev pub cert_over : Walk → List Node → Cert
cert_over w nodes = record { claims = w.claims.now; nodes = nodes }

-- its first fault, and the errors that it is accepted with
abbrev pub HasWalkFault : Walk → List Node → CheckFault → Type 0
HasWalkFault w nodes = HasCheckFault w.table.block.now (parts_of w.table.width) (cert_over w nodes)

abbrev pub AreWalkErrors : Walk → List Node → List ℕ → Type 0
AreWalkErrors w nodes = IsAccepted w.table.block.now (parts_of w.table.width) (cert_over w nodes)

-- the walk stands behind these nodes, and has met no fault
pub record IsBehind (nodes : List Node) (w : Walk) : Type 0 where
  pub claims_count : length w.claims.now ≡ length w.table.block.now.outputs
  pub walked : HasWalked w.table.block.now (parts_of w.table.width) nodes (stack_of w.boxes.items) w.errors.items
  pub line : w.line ≡ length nodes + 3
  pub room : 2041 ≤ vec_capacity w.boxes

-- the walk has taken these nodes: it stands behind them, or has met the first fault of each certificate that they begin
pub record HasTaken (nodes : List Node) (w : Walk) : Type 0 where
  pub claims : AreClaims w.claims.now
  pub table : IsBlockTable w.table
  pub so_far : MatchOption w.fault (IsBehind nodes w)
      (λ fault. (rest : List Node) → HasWalkFault w (nodes ++ rest) fault)

-- nodes that a certificate with so many claims may begin with, of one kind or the other
pub record AreFirst (width : ℕ) (nodes : List Node) : Type 0 where
  pub good : All (λ node. (kind : CertKind) × IsNode kind width node) nodes
  pub opens : (n : ℕ) × (open_behind nodes ≡ Some n)
  pub few_leaves : leaf_count nodes ≤ 4096

-- two walks over one certificate
pub record IsSameTask (w v : Walk) : Type 0 where
  pub claims : w.claims ≡ v.claims
  pub table : w.table ≡ v.table
