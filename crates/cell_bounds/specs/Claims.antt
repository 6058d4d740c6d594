-- What a leaf of each sort says of a box: one names a rule or silence, one nothing, and one the box's cells.
-- Beside the promise.
use Rattle.std.specs.Prelude.{◌≡◌, ℕ, ◌≤◌, List, length, Some}
use Rattle.fz_num.specs.{declared.dec.Dec.Dec, Fractions.Quotient}
use Rattle.fuzzy_meaning.specs.declared.{block.Block.Block, block.Output.Output}
use Rattle.fuzzy_meaning.specs.{Blocks.output_at, Blocks.IsValid, Meaning.answer_after}
use Rattle.byte_scaling.specs.Cells.{value_in}
use Rattle.point_slope.specs.Bytes.{answer_in}
use Rattle.error_bound.specs.{declared.boxes.Interval.Interval, BestLeaves.IsBestBound, Boxes.IsBox, Boxes.LieIn}
use Rattle.error_bound.specs.{Bounds.IsBound, Leaves.Holds, MassRanges.AreOverBox, Tight.IsTightBound}
use Rattle.error_bound.specs.{Tight.IsTightCount, TightLaws.IsAnsweredWithin}
use Rattle.cell_bounds.specs.declared.claims.Claim.{Claim}
use Rattle.cell_bounds.specs.declared.claims.Claim.TheVariants.{Pair, Tight, Cells}
use Rattle.box_tree.specs.declared.cert.CertKind.{CertKind}
use Rattle.box_tree.specs.declared.cert.CertKind.TheVariants as kind
use Rattle.cell_bounds.specs.{Cells.cell_of, CellBounds.IsCellCount, CellBounds.IsCellsBound}

-- what a leaf says of output o holds on the box, with Bound n
abbrev pub HasClaimBound : Block → List Interval → ℕ → Output → ℕ → Claim → ℕ → Type 0
HasClaimBound b box o x h (Pair leaf) n = Holds b box o leaf × IsBound b box o x h leaf n
HasClaimBound b box o x h Tight n = IsTightBound b box o x h n
HasClaimBound b box o x h Cells n = IsCellsBound b box o x h n

-- the claims of a certificate of each kind
abbrev pub IsOfKind : CertKind → Claim → Type 0
IsOfKind kind.Named (Pair leaf) = Unit {0}
IsOfKind kind.Named Tight = ⊥
IsOfKind kind.Named Cells = ⊥
IsOfKind kind.Tight (Pair leaf) = ⊥
IsOfKind kind.Tight Tight = Unit {0}
IsOfKind kind.Tight Cells = Unit {0}

-- those that name no cells
abbrev pub NamesNoCells : Claim → Type 0
NamesNoCells (Pair leaf) = Unit {0}
NamesNoCells Tight = Unit {0}
NamesNoCells Cells = ⊥

-- the Bound of the box's best leaf of a kind that is not one of cells; where there is none it counts as 1000001
abbrev pub IsBoxCount : CertKind → Block → List Interval → ℕ → Output → ℕ → ℕ → Type 0
IsBoxCount kind.Named b box o x h n = IsBestBound b box o x h n
IsBoxCount kind.Tight b box o x h n = IsTightCount b box o x h n

-- on the cell of these bytes the best leaf of a kind, one of cells too
abbrev pub IsCountAt : CertKind → Block → List ℕ → ℕ → Output → ℕ → ℕ → Type 0
IsCountAt kind.Named b bytes o x h n = IsBestBound b (cell_of bytes) o x h n
IsCountAt kind.Tight b bytes o x h n = IsCellCount b (cell_of bytes) o x h n

-- the claims that it is compared with: of the tight kind with all
abbrev pub IsCompared : CertKind → Claim → Type 0
IsCompared kind.Named claim = IsOfKind kind.Named claim
IsCompared kind.Tight claim = Unit {0}

-- ---- laws

-- each answer over the box is within the Bound
abbrev pub ClaimAnswersAreNear : Type 0
ClaimAnswersAreNear =
    (b : Block) (box : List Interval) (o : ℕ) (x : Output) (h : ℕ) (claim : Claim) (n : ℕ) (bytes : List ℕ)
    (xs : List Dec) (before : Quotient) (q : ℕ) → AreOverBox b box o x h bytes xs → HasClaimBound b box o x h claim n
    → IsAnsweredWithin x n q (answer_in h b o bytes q) (value_in h x (answer_in h b o bytes q)) before
    (answer_after b o before xs)

-- a claim has one Bound on a box
abbrev pub ClaimBoundsAreOne : Type 0
ClaimBoundsAreOne =
    (b : Block) (box : List Interval) (o : ℕ) (x : Output) (h : ℕ) (claim : Claim) (n m : ℕ) → IsValid b
    → length box ≡ length b.inputs → HasClaimBound b box o x h claim n → HasClaimBound b box o x h claim m → n ≡ m

-- it is no greater for answers in more parts to a byte than one, but for cells
abbrev pub ClaimBoundsFallWithParts : Type 0
ClaimBoundsFallWithParts =
    (b : Block) (box : List Interval) (o : ℕ) (x : Output) (h : ℕ) (claim : Claim) (n : ℕ) → IsValid b
    → output_at b o ≡ Some x → 1 ≤ h → NamesNoCells claim → HasClaimBound b box o x 1 claim n
    → (m : ℕ) × HasClaimBound b box o x h claim m × (m ≤ n)

-- where a claim that names a rule or silence holds, the tight one does, and its Bound is no greater
abbrev pub TightClaimsAreLeast : Type 0
TightClaimsAreLeast =
    (b : Block) (box : List Interval) (o : ℕ) (x : Output) (h : ℕ) (claim : Claim) (m : ℕ) → IsValid b
    → output_at b o ≡ Some x → 1 ≤ h → NamesNoCells claim → HasClaimBound b box o x h claim m
    → (n : ℕ) × HasClaimBound b box o x h Tight n × (n ≤ m)

-- no claim on a box around a cell has a smaller Bound than the cell's count
abbrev pub CountsAreLeast : Type 0
CountsAreLeast =
    (k : CertKind) (b : Block) (bytes : List ℕ) (box : List Interval) (o : ℕ) (x : Output) (h : ℕ) (claim : Claim)
    (n m : ℕ) → IsValid b → output_at b o ≡ Some x → 1 ≤ h → length box ≡ length b.inputs → IsBox box → LieIn box bytes
    → IsCompared k claim → IsCountAt k b bytes o x h n → HasClaimBound b box o x h claim m → n ≤ m

-- each box has a count
abbrev pub EachBoxHasACount : Type 0
EachBoxHasACount =
    (k : CertKind) (b : Block) (box : List Interval) (o : ℕ) (x : Output) (h : ℕ) → IsValid b → IsBox box
    → output_at b o ≡ Some x → 1 ≤ h → (n : ℕ) × IsBoxCount k b box o x h n

-- a box has one count, and a cell
abbrev pub BoxCountsAreOne : Type 0
BoxCountsAreOne =
    (k : CertKind) (b : Block) (box : List Interval) (o : ℕ) (x : Output) (h n m : ℕ) → IsValid b
    → length box ≡ length b.inputs → IsBoxCount k b box o x h n → IsBoxCount k b box o x h m → n ≡ m

abbrev pub CountsAreOne : Type 0
CountsAreOne =
    (k : CertKind) (b : Block) (bytes : List ℕ) (o : ℕ) (x : Output) (h n m : ℕ) → IsValid b
    → length bytes ≡ length b.inputs → IsCountAt k b bytes o x h n → IsCountAt k b bytes o x h m → n ≡ m
