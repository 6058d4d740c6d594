-- The halves of a box, and the leaf around a list of bytes.
-- Beside the promise.
use Rattle.std.specs.Prelude.{◌≡◌, ℕ, ◌-◌, ◌<◌, ◌≤◌, List, length, set, All, Some, slice_get}
use Rattle.fuzzy_meaning.specs.{declared.block.Block.Block, declared.block.Output.Output, Blocks.output_at}
use Rattle.error_bound.specs.{declared.boxes.Interval.Interval, Boxes.IsBox, Boxes.LieIn}
use Rattle.box_tree.specs.declared.{cert.Cert.Cert, cert.LeafLine.LeafLine, cert.CertKind.CertKind}
use Rattle.box_tree.specs.declared.cert.LeafLine.TheVariants.{Pairs, Tight, Cells}
use Rattle.box_tree.specs.declared.cert.CertKind.TheVariants as kind
use Rattle.box_tree.specs.declared.{cert.Node.Node, cert.Node.TheVariants.Split, cert.Node.TheVariants.Leaf}
use Rattle.cell_bounds.specs.{declared.claims.Claim.Claim, Claims.HasClaimBound}
use Rattle.cert_check.specs.{Trees.left_of, Trees.right_of, Trees.IsCut, Acceptance.claim_at, Acceptance.IsAccepted}

-- the box has halves where the interval v at place k is cut at c
pub record HasHalves (box : List Interval) (k c : ℕ) (v : Interval) : Type 0 where
  pub cut : IsCut k c box
  pub left_is : set box k (record { from = v.from; to = c - 1 }) ≡ left_of k c box
  pub right_is : set box k (record { from = c; to = v.to }) ≡ right_of k c box
  pub left_box : IsBox box → IsBox (left_of k c box)
  pub right_box : IsBox box → IsBox (right_of k c box)

abbrev pub CutsHaveHalves : Type 0
CutsHaveHalves =
    (box : List Interval) (k c : ℕ) (v : Interval) → slice_get box k ≡ Some v → v.from < c → c ≤ v.to
    → HasHalves box k c v

-- the lines of leaves in certificates of a kind
abbrev pub IsLineOf : CertKind → LeafLine → Type 0
IsLineOf kind.Named (Pairs pairs) = Unit {0}
IsLineOf kind.Tight Tight = Unit {0}
IsLineOf kind.Tight Cells = Unit {0}
IsLineOf k stated = ⊥

-- and the nodes
abbrev pub IsNodeOf : CertKind → Node → Type 0
IsNodeOf k (Split input cut) = Unit {0}
IsNodeOf k (Leaf stated) = IsLineOf k stated

-- one of the leaves is around the bytes: what it says of output o holds, with a Bound of at most e
pub record IsLeafAround (b : Block) (h : ℕ) (nodes : List Node) (bytes : List ℕ) (o : ℕ) (x : Output) (e : ℕ) : Type 0
  where
    pub box : List Interval
    pub stated : LeafLine
    pub claim : Claim
    pub bound : ℕ
    pub count : length box ≡ length b.inputs
    pub is_box : IsBox box
    pub around : LieIn box bytes
    pub of_kind : (k : CertKind) → All (IsNodeOf k) nodes → IsLineOf k stated
    pub claim_is : claim_at stated (o - 1) ≡ Some claim
    pub bound_is : HasClaimBound b box o x h claim bound
    pub within : bound ≤ e

-- under an accepted certificate each list of bytes, one for each input, has a leaf around it
abbrev pub LeavesAreAround : Type 0
LeavesAreAround =
    (b : Block) (h : ℕ) (cert : Cert) (errors : List ℕ) (o : ℕ) (x : Output) (e : ℕ) (bytes : List ℕ)
    → IsAccepted b h cert errors → 1 ≤ o → output_at b o ≡ Some x → slice_get errors (o - 1) ≡ Some e
    → length bytes ≡ length b.inputs → All (λ n. n ≤ 255) bytes → IsLeafAround b h cert.nodes bytes o x e
