-- Why a certificate is not accepted: its first fault, in prefix order.
-- Beside the promise.
use Rattle.std.specs.Prelude.{◌≡◌, ◌≢◌, ℕ, ◌+◌, ◌-◌, ◌<◌, ◌≤◌, List, ◌∷◌, length, All, Some, slice_get, IfSome}
use Rattle.fuzzy_meaning.specs.{declared.block.Block.Block, Blocks.output_at}
use Rattle.error_bound.specs.declared.boxes.Interval.{Interval}
use Rattle.error_bound.specs.declared.boxes.Leaf as the
use Rattle.error_bound.specs.declared.boxes.LeafFault.{LeafFault}
use Rattle.error_bound.specs.{Leaves.Holds, Leaves.IsPairFor, Faults.HasLeafFault, Tight.IsTightBound}
use Rattle.error_bound.specs.Matters.{narrowed}
use Rattle.box_tree.specs.declared.{cert.LeafLine.LeafLine, cert.Node.Node, cert.Cert.Cert}
use Rattle.box_tree.specs.declared.cert.Node.TheVariants.{Split, Leaf}
use Rattle.cell_bounds.specs.declared.claims.Claim.{Claim}
use Rattle.cell_bounds.specs.declared.claims.Claim.TheVariants.{Pair, Tight, Cells}
use Rattle.cell_bounds.specs.CellBounds.{CellsAreWithin, IsUnsureOn, cell_count}
use Rattle.cert_check.specs.declared.checker.CheckFault.{CheckFault}
use Rattle.cert_check.specs.declared.checker.CheckFault.TheVariants as fault
use Rattle.cert_check.specs.Trees.{Part, part_of, IsTree, left_of, right_of, IsCut, whole}
use Rattle.cert_check.specs.Acceptance.{claim_at, IsAccepted}

-- what is said of output o holds on the box, for answers in h parts to a byte
abbrev pub ClaimHolds : Block → ℕ → List Interval → ℕ → Claim → Type 0
ClaimHolds b h box o (Pair leaf) = Holds b box o leaf
ClaimHolds b h box o Tight = IfSome (output_at b o) (λ x. (n : ℕ) × IsTightBound b box o x h n)
ClaimHolds b h box o Cells =
    (cell_count (narrowed b box) ≤ 64) × IfSome (output_at b o) (λ x. (n : ℕ) × CellsAreWithin b box o x h n)

-- what a leaf says of the outputs before number o holds
abbrev pub HoldBefore : Block → ℕ → Part → ℕ → Type 0
HoldBefore b h p o =
    (n : ℕ) (claim : Claim) → 1 ≤ n → n < o → claim_at p.stated (n - 1) ≡ Some claim → ClaimHolds b h p.box n claim

abbrev pub AllHold : Block → ℕ → Part → Type 0
AllHold b h p = HoldBefore b h p (length b.outputs + 1)

-- nodes begin with a tree over the box, in which the last of them, rest, begin with a part over the box found,
-- and all leaves before it hold
pub data Reaches (b : Block) (h : ℕ) : List Interval → List Node → List Interval → List Node → Type 0 where
  root : (box : List Interval) (nodes : List Node) → Reaches b h box nodes box nodes
  in_left : (box : List Interval) (i c : ℕ) (nodes : List Node) (found : List Interval) (rest : List Node)
      → 1 ≤ i → IsCut (i - 1) c box
      → Reaches b h (left_of (i - 1) c box) nodes found rest → Reaches b h box (Split i c ∷ nodes) found rest
  in_right : (box : List Interval) (i c : ℕ) (nodes mid : List Node) (parts : List Part) (found : List Interval)
      (rest : List Node) → 1 ≤ i → IsCut (i - 1) c box
      → IsTree (left_of (i - 1) c box) nodes parts mid → All (AllHold b h) parts
      → Reaches b h (right_of (i - 1) c box) mid found rest → Reaches b h box (Split i c ∷ nodes) found rest

-- the line of the first of the nodes that end a certificate's
abbrev pub line_at : List Node → List Node → ℕ
line_at nodes rest = length nodes - length rest + 3

-- why a pair on a line fails for output o
pub data IsPairFault (b : Block) (box : List Interval) (o : ℕ) (leaf : the.Leaf) (line : ℕ)
    : CheckFault → Type 0 where
  bad_rule : (IsPairFor b o leaf → ⊥) → IsPairFault b box o leaf line (fault.BadRule line)
  fails : (f : LeafFault) → IsPairFor b o leaf → HasLeafFault b box o leaf f
      → IsPairFault b box o leaf line (fault.Leaf line f)

-- why a leaf of cells does
pub data IsCellsFault (b : Block) (h : ℕ) (box : List Interval) (o line : ℕ) : CheckFault → Type 0 where
  too_many : 64 < cell_count (narrowed b box) → IsCellsFault b h box o line (fault.TooManyCells line)
  unsure : cell_count (narrowed b box) ≤ 64 → IsUnsureOn b h box o → IsCellsFault b h box o line (fault.Unsure line o)

-- why what a line says of output o does
abbrev pub IsClaimFault : Block → ℕ → List Interval → ℕ → ℕ → Claim → CheckFault → Type 0
IsClaimFault b h box o line (Pair leaf) f = IsPairFault b box o leaf line f
IsClaimFault b h box o line Tight f =
    (f ≡ fault.Unsure line o) × IfSome (output_at b o) (λ x. (n : ℕ) → IsTightBound b box o x h n → ⊥)
IsClaimFault b h box o line Cells f = IsCellsFault b h box o line f

-- of a leaf on a line, the fault for the first output that it has one for
pub record HasPartFault (b : Block) (h : ℕ) (p : Part) (line : ℕ) (f : CheckFault) : Type 0 where
  pub output : ℕ
  pub from : 1 ≤ output
  pub to : output ≤ length b.outputs
  pub claim : Claim
  pub claim_is : claim_at p.stated (output - 1) ≡ Some claim
  pub before : HoldBefore b h p output
  pub is : IsClaimFault b h p.box output line claim f

-- the first fault of a tree over all bytes
pub data HasTreeFault (b : Block) (h : ℕ) (nodes : List Node) : CheckFault → Type 0 where
  bad_cut : (box : List Interval) (i c : ℕ) (rest : List Node) → Reaches b h (whole b) nodes box (Split i c ∷ rest)
      → (IsCut (i - 1) c box → ⊥)
      → HasTreeFault b h nodes (fault.BadCut (line_at nodes (Split i c ∷ rest)))
  bad_leaf : (box : List Interval) (stated : LeafLine) (rest : List Node) (f : CheckFault)
      → Reaches b h (whole b) nodes box (Leaf stated ∷ rest)
      → HasPartFault b h (part_of box stated) (line_at nodes (Leaf stated ∷ rest)) f
      → HasTreeFault b h nodes f

-- no error is greater than its claim
abbrev pub AreClaimed : List ℕ → List ℕ → Type 0
AreClaimed errors claims = (k e c : ℕ) → slice_get errors k ≡ Some e → slice_get claims k ≡ Some c → e ≤ c

-- the error at place k is the first that is greater
pub record IsFirstOver (errors claims : List ℕ) (k : ℕ) : Type 0 where
  pub error : ℕ
  pub claim : ℕ
  pub error_is : slice_get errors k ≡ Some error
  pub claim_is : slice_get claims k ≡ Some claim
  pub over : claim < error
  pub before : (j e c : ℕ) → j < k → slice_get errors j ≡ Some e → slice_get claims j ≡ Some c → e ≤ c

-- the first fault of a certificate, for answers in h parts to a byte: its claims come last, with the errors that
-- it would be accepted with
pub data HasCheckFault (b : Block) (h : ℕ) (cert : Cert) : CheckFault → Type 0 where
  outputs : length cert.claims ≢ length b.outputs
      → HasCheckFault b h cert (fault.Outputs (length cert.claims) (length b.outputs))
  tree : (f : CheckFault) → length cert.claims ≡ length b.outputs → HasTreeFault b h cert.nodes f
      → HasCheckFault b h cert f
  claimed : (errors : List ℕ) (k : ℕ) (over : IsFirstOver errors cert.claims k)
      → length cert.claims ≡ length b.outputs
      → IsAccepted b h (record { claims = errors; nodes = cert.nodes }) errors
      → HasCheckFault b h cert (fault.Claimed (k + 1) over.claim over.error)
