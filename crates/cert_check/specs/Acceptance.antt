-- Which certificates are accepted, with which errors.
-- Beside the promise.
use Rattle.std.specs.Prelude.{◌≡◌, ℕ, ◌-◌, ◌≤◌, List, [], length, All, Option, Some, slice_get}
use Rattle.std.specs.List.{Any}
use Rattle.std.specs.Option.{option_map}
use Rattle.fuzzy_meaning.specs.{declared.block.Block.Block, declared.block.Output.Output, Blocks.output_at}
use Rattle.error_bound.specs.{declared.boxes.Interval.Interval, Matters.narrowed}
use Rattle.box_tree.specs.declared.{cert.Cert.Cert, cert.LeafLine.LeafLine}
use Rattle.box_tree.specs.declared.cert.LeafLine.TheVariants as leaf_line
use Rattle.cell_bounds.specs.{declared.claims.Claim.Claim, CellBounds.cell_count, Claims.HasClaimBound}
use Rattle.cell_bounds.specs.declared.claims.Claim.TheVariants.{Pair, Tight, Cells}
use Rattle.cert_check.specs.Trees.{Part, IsTree, whole}

-- what a leaf's line says of the output at a place
abbrev pub claim_at : LeafLine → ℕ → Option Claim
claim_at (leaf_line.Pairs pairs) k = option_map (λ p. Pair (record { rule = p.0; k = p.1 })) (slice_get pairs.items k)
claim_at leaf_line.Tight k = Some Tight
claim_at leaf_line.Cells k = Some Cells

-- the boxes of which it may be said: a leaf of cells has few of them, by the inputs that matter
abbrev pub IsAllowed : Block → Claim → List Interval → Type 0
IsAllowed b (Pair leaf) box = Unit {0}
IsAllowed b Tight box = Unit {0}
IsAllowed b Cells box = cell_count (narrowed b box) ≤ 64

-- what the leaf says of output o holds on its box, with Bound n for answers in h parts to a byte
pub record HasBound (b : Block) (o : ℕ) (x : Output) (h : ℕ) (p : Part) (n : ℕ) : Type 0 where
  pub claim : Claim
  pub claim_is : claim_at p.stated (o - 1) ≡ Some claim
  pub allowed : IsAllowed b claim p.box
  pub bound_is : HasClaimBound b p.box o x h claim n

-- e is the greatest Bound of the leaves
pub record IsGreatestBound (b : Block) (o : ℕ) (x : Output) (h : ℕ) (parts : List Part) (e : ℕ) : Type 0 where
  pub each : All (λ p. (n : ℕ) × HasBound b o x h p n × (n ≤ e)) parts
  pub some : Any (λ p. HasBound b o x h p e) parts

-- the certificate is accepted, and these are the errors of the outputs
pub record IsAccepted (b : Block) (h : ℕ) (cert : Cert) (errors : List ℕ) : Type 0 where
  pub claims_count : length cert.claims ≡ length b.outputs
  pub errors_count : length errors ≡ length b.outputs
  pub parts : List Part
  pub tree : IsTree (whole b) cert.nodes parts []
  pub greatest : (o : ℕ) (x : Output) (e : ℕ) → 1 ≤ o → output_at b o ≡ Some x → slice_get errors (o - 1) ≡ Some e
      → IsGreatestBound b o x h parts e
  pub claimed : (k e c : ℕ) → slice_get errors k ≡ Some e → slice_get cert.claims k ≡ Some c → e ≤ c
