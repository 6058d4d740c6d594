-- What a leaf says of outputs: where it has a Bound it holds, and has no fault.
use Rattle.std.proofs.Common.{◌≡◌, ℕ, ◌+◌, ◌-◌, List, Option, Some, sym, subst, arith, ◌<◌, ◌≤◌, length, get_or, refl}
use Rattle.std.proofs.lemmas.Option.{slice_get_within, slice_get-get_or, get_or_from_slice_get, IfSome_then}
use Rattle.std.proofs.Common.{ap}
use Rattle.std.specs.Prelude.{slice_index, IfSome, IsTrue, ◌==◌, slice_get}
use Rattle.std.specs.Option.{option_map}
use Rattle.fz_list.proofs.Algebra.{some_at, IsSomeAnd-at, list_any-left, AreFilled}
use Rattle.fuzzy_meaning.specs.{declared.block.Output.Output, declared.block.Block.Block, Blocks.output_at}
use Rattle.error_bound.specs.Leaves.{Holds, strong, silent as pair_silent, IsPairFor, rule_at, concludes_some}
use Rattle.error_bound.specs.{Tight.IsTightBound, Tight.IsSure, Tight.silent, Tight.sure, declared.boxes.Leaf.Leaf}
use Rattle.error_bound.specs.{declared.boxes.Interval.Interval, Faults.FaultyLeavesFail, Best.silent_leaf}
use Rattle.error_bound.specs.Bounds.{IsBound}
use Rattle.cell_bounds.specs.CellBounds.{CellsAreWithin, HasCellBound, IsCellsBound, IsFirstUnsure, cell_count}
use Rattle.cell_bounds.specs.CellBounds.{StandForAll}
use Rattle.error_bound.specs.Matters.{narrowed}
use Rattle.cell_bounds.specs.declared.claims.Claim.TheVariants.{Pair, Tight, Cells}
use Rattle.cell_bounds.specs.{declared.claims.Claim.Claim, Claims.HasClaimBound, Cells.cell_of}
use Rattle.cert_check.specs.Faults.{ClaimHolds, AllHold, IsPairFault, bad_rule, fails, IsCellsFault, too_many, unsure}
use Rattle.cert_check.specs.{Faults.IsClaimFault, Faults.HoldBefore, Faults.HasPartFault, Trees.Part, Trees.part_of}
use Rattle.cert_check.specs.{Acceptance.claim_at, Acceptance.IsAllowed, Acceptance.HasBound, Walks.AreBounds}
use Rattle.cert_check.specs.declared.checker.CheckFault.{CheckFault}
use Rattle.arrayvec.specs.ArrayVec.{ArrayVec}
use Rattle.error_bound.specs.declared.boxes.Leaf as the
use Rattle.box_tree.specs.declared.cert.LeafLine.TheVariants as leaf_line
use Rattle.cert_check.specs.declared.checker.CheckFault.TheVariants as fault

pub IfSome-at : {X : Type 0} (P : X → Type 0) {q : Option X} {x : X} → q ≡ Some x → IfSome q P → P x
IfSome-at P e h = subst (λ r. IfSome r P) e h

pub IfSome-from : {X : Type 0} (P : X → Type 0) {q : Option X} {x : X} → q ≡ Some x → P x → IfSome q P
IfSome-from P e h = subst (λ r. IfSome r P) (sym e) h

pub one_claim : {X : Type 0} {q : Option X} {y z : X} → q ≡ Some y → q ≡ Some z → y ≡ z
one_claim e f = cc

-- ---- with a Bound it holds

claim_holds : (b : Block) (h : ℕ) (box : List Interval) (o : ℕ) (x : Output) (claim : Claim) (n : ℕ)
    → output_at b o ≡ Some x → IsAllowed b claim box → HasClaimBound b box o x h claim n → ClaimHolds b h box o claim
claim_holds b h box o x (Pair leaf) n out may bound = bound.0
claim_holds b h box o x Tight n out may bound =
    IfSome-from (λ y. (m : ℕ) × IsTightBound b box o y h m) out (n, bound)
claim_holds b h box o x Cells n out may bound =
    (may, IfSome-from (λ y. (m : ℕ) × CellsAreWithin b box o y h m) out (n, bound.within))

pub bound_holds : (b : Block) (h : ℕ) (p : Part) (o : ℕ) (x : Output) (n : ℕ) (claim : Claim) → output_at b o ≡ Some x
    → claim_at p.stated (o - 1) ≡ Some claim → HasBound b o x h p n → ClaimHolds b h p.box o claim
bound_holds b h p o x n claim out at bound =
    subst (ClaimHolds b h p.box o) (one_claim bound.claim_is at)
    (claim_holds b h p.box o x bound.claim n out bound.allowed bound.bound_is)

pub bounds_hold : (b : Block) (h : ℕ) (p : Part) (bounds : List ℕ) → AreBounds b h p bounds → AllHold b h p
bounds_hold b h p bounds are o claim from to at =
    let x = some_at b.outputs (o - 1) (omega arith) in
    let number : o - 1 + 1 ≡ o = omega arith in
    bound_holds b h p o x.0 (slice_index bounds (o - 1)) claim x.1 at
    (subst (λ j. HasBound b j x.0 h p (slice_index bounds (o - 1))) number (are (o - 1) x.0 x.1))

-- ---- what holds has no fault

-- a pair that holds names a rule of its output
Holds-pair : (b : Block) (box : List Interval) (o : ℕ) (pair : the.Leaf) → Holds b box o pair → IsPairFor b o pair
Holds-pair b box o pair (strong r some_rule some_part small at is) = record {
  silent = λ z. absurd (omega arith);
  strong = λ z. some_rule;
  part = small;
  concludes_one = λ z. IsSomeAnd-at (λ r. IsTrue (concludes_some r o)) (rule_at b pair.rule) r at
      (list_any-left (λ (c : ℕ × ℕ). c.0 == o) (λ (c : ℕ × ℕ). c.1 == is.term) r.concl is.concludes_it);
}
Holds-pair b box o pair (pair_silent no_rule no_part still) = record {
  silent = λ z. no_rule;
  strong = λ z. absurd (omega arith);
  part = omega arith;
  concludes_one = λ z. absurd (omega arith);
}

pair_fails : FaultyLeavesFail
    → (b : Block) (box : List Interval) (o : ℕ) (pair : the.Leaf) (line : ℕ) (f : CheckFault)
    → IsPairFault b box o pair line f → Holds b box o pair → ⊥
pair_fails fail b box o pair line f (bad_rule n) h = n (Holds-pair b box o pair h)
pair_fails fail b box o pair line f (fails g p e) h = fail b box o pair g e h

cells_fail : (b : Block) (h : ℕ) (box : List Interval) (o : ℕ) (x : Output) (line : ℕ) (f : CheckFault)
    → output_at b o ≡ Some x → IsCellsFault b h box o line f → ClaimHolds b h box o Cells → ⊥
cells_fail b h box o x line _ out (too_many many) holds = let few = holds.0 in let z : ⊥ = omega arith in z
cells_fail b h box o x line _ out (unsure few (bytes, lies, none)) holds =
    let within = IfSome-at (λ y. (n : ℕ) × CellsAreWithin b box o y h n) out holds.1 in
    let here = within.1 bytes lies in
    IfSome-at (λ y. (n : ℕ) → HasCellBound b (cell_of bytes) o y h n → ⊥) out none here.0 here.1

pub claim_fails : FaultyLeavesFail
    → (b : Block) (h : ℕ) (box : List Interval) (o : ℕ) (x : Output) (line : ℕ) (claim : Claim) (f : CheckFault)
    → output_at b o ≡ Some x → IsClaimFault b h box o line claim f → ClaimHolds b h box o claim → ⊥
claim_fails fail b h box o x line (Pair leaf) f out fault holds = pair_fails fail b box o leaf line f fault holds
claim_fails fail b h box o x line Tight f out fault holds =
    let bound = IfSome-at (λ y. (n : ℕ) × IsTightBound b box o y h n) out holds in
    IfSome-at (λ y. (n : ℕ) → IsTightBound b box o y h n → ⊥) out fault.1 bound.0 bound.1
claim_fails fail b h box o x line Cells f out fault holds = cells_fail b h box o x line f out fault holds

pub bound_fails : FaultyLeavesFail
    → (b : Block) (h : ℕ) (p : Part) (o : ℕ) (x : Output) (n line : ℕ) (claim : Claim) (f : CheckFault)
    → output_at b o ≡ Some x → claim_at p.stated (o - 1) ≡ Some claim → IsClaimFault b h p.box o line claim f
    → HasBound b o x h p n → ⊥
bound_fails fail b h p o x n line claim f out at fault bound =
    claim_fails fail b h p.box o x line claim f out fault (bound_holds b h p o x n claim out at bound)

-- ---- the Bounds of a leaf, one more at a time

-- the Bound of the output at a place
abbrev pub IsBoundAt : Block → ℕ → Part → ℕ → Output → ℕ → Type 0
IsBoundAt b h p k x n = HasBound b (k + 1) x h p n

-- the output of a number stands at the place before
pub out_at : (b : Block) (k : ℕ) (x : Output) → slice_get b.outputs k ≡ Some x → output_at b (k + 1) ≡ Some x
out_at b k x e = let place : k ≡ k + 1 - 1 = omega arith in subst (λ j. slice_get b.outputs j ≡ Some x) place e

-- ---- the first k outputs have Bounds

module _ (b : Block) (h : ℕ) (p : Part) (bounds : List ℕ) (k : ℕ)
    (before : AreFilled (IsBoundAt b h p) b.outputs bounds k) where
  hold : k ≤ length b.outputs → HoldBefore b h p (k + 1)
  hold within o claim from to at =
      let x = some_at b.outputs (o - 1) (omega arith) in
      let number : o - 1 + 1 ≡ o = omega arith in
      let has = before (o - 1) x.0 (omega arith) x.1 in
      bound_holds b h p o x.0 has.0 claim x.1 at (subst (λ j. HasBound b j x.0 h p has.0) number has.2)

  -- the next is at fault
  pub HasPartFault-next : (line : ℕ) (claim : Claim) (f : CheckFault) → k < length b.outputs
      → claim_at p.stated (k + 1 - 1) ≡ Some claim → IsClaimFault b h p.box (k + 1) line claim f
      → HasPartFault b h p line f
  HasPartFault-next line claim f within at is = record {
    output = k + 1;
    from = omega arith;
    to = omega arith;
    claim = claim;
    claim_is = at;
    before = hold (omega arith);
    is = is;
  }

  -- or all have one
  pub AreBounds-all : length b.outputs ≤ k → AreBounds b h p bounds
  AreBounds-all all j x e =
      let within = slice_get_within b.outputs j x e in
      let has = before j x (omega (arith, within)) e in
      subst (λ n. HasBound b (j + 1) x h p n) (sym (get_or_from_slice_get bounds j has.0 0 has.1)) has.2

-- ---- a line of pairs

module _ (b : Block) (h : ℕ) (box : List Interval) (pairs : ArrayVec (ℕ × ℕ)) (slice : List (ℕ × ℕ))
    (same : slice ≡ pairs.items) (k : ℕ) (within : k < length slice) where
  -- the pair at place k
  abbrev pair_here : Leaf
  pair_here = record { rule = (get_or slice k (0, 0)).0; k = (get_or slice k (0, 0)).1 }

  pub pair_is : claim_at (leaf_line.Pairs pairs) (k + 1 - 1) ≡ Some (Pair pair_here)
  pair_is =
      let place : k ≡ k + 1 - 1 = omega arith in
      let there : slice_get pairs.items k ≡ Some (get_or slice k (0, 0)) =
      subst (λ (ps : List (ℕ × ℕ)). slice_get ps k ≡ Some (get_or slice k (0, 0))) same
      (slice_get-get_or slice k (0, 0) within) in
      ap (option_map (λ (p : ℕ × ℕ). Pair (record { rule = p.0; k = p.1 })))
      (subst (λ j. slice_get pairs.items j ≡ Some (get_or slice k (0, 0))) place there)

  pub has_pair_bound : (n : ℕ) → Holds b box (k + 1) pair_here
      → IfSome (output_at b (k + 1)) (λ x. IsBound b box (k + 1) x h pair_here n) → (x : Output)
      → slice_get b.outputs k ≡ Some x → IsBoundAt b h (part_of box (leaf_line.Pairs pairs)) k x n
  has_pair_bound n holds bound x e = record {
    claim = Pair pair_here;
    claim_is = pair_is;
    allowed = tt;
    bound_is = (holds, IfSome-at (λ y. IsBound b box (k + 1) y h pair_here n) (out_at b k x e) bound);
  }

-- ---- a tight leaf

pub has_tight_bound : (b : Block) (h : ℕ) (box : List Interval) (k n : ℕ)
    → IfSome (output_at b (k + 1)) (λ x. IsTightBound b box (k + 1) x h n) → (x : Output)
    → slice_get b.outputs k ≡ Some x → IsBoundAt b h (part_of box leaf_line.Tight) k x n
has_tight_bound b h box k n bound x e = record {
  claim = Tight;
  claim_is = refl;
  allowed = tt;
  bound_is = IfSome-at (λ y. IsTightBound b box (k + 1) y h n) (out_at b k x e) bound;
}

no_bound : (b : Block) (h : ℕ) (box : List Interval) (o : ℕ) (x : Output) → (Holds b box o silent_leaf → ⊥)
    → (IsSure b box o x → ⊥) → (n : ℕ) → IsTightBound b box o x h n → ⊥
no_bound b h box o x loud weak n (silent holds is) = loud holds
no_bound b h box o x loud weak n (sure e errors is value) = weak is

pub tight_fault : (b : Block) (h : ℕ) (box : List Interval) (o line : ℕ) → (Holds b box o silent_leaf → ⊥)
    → IfSome (output_at b o) (λ x. IsSure b box o x → ⊥)
    → IsClaimFault b h box o line Tight (fault.Unsure line o)
tight_fault b h box o line loud weak =
    (refl, IfSome_then (output_at b o) weak (λ x w n bound. no_bound b h box o x loud w n bound))

-- ---- a leaf of cells

pub has_cells_bounds : (b : Block) (h : ℕ) (box : List Interval) (bounds : List ℕ)
    → cell_count (narrowed b box) ≤ 64 → StandForAll b h box
    → ((k : ℕ) → k < length b.outputs → IfSome (output_at b (k + 1))
    (λ x. IsCellsBound b (narrowed b box) (k + 1) x h (slice_index bounds k)))
    → AreBounds b h (part_of box leaf_line.Cells) bounds
has_cells_bounds b h box bounds few stand are k x e = record {
  claim = Cells;
  claim_is = refl;
  allowed = few;
  bound_is = stand.bound (k + 1) x (slice_index bounds k) (out_at b k x e)
      (IfSome-at (λ y. IsCellsBound b (narrowed b box) (k + 1) y h (slice_index bounds k)) (out_at b k x e)
      (are k (slice_get_within b.outputs k x e)));
}

pub too_many_cells : (b : Block) (h : ℕ) (box : List Interval) (line : ℕ) → 1 ≤ length b.outputs
    → (cell_count (narrowed b box) ≤ 64 → ⊥) → HasPartFault b h (part_of box leaf_line.Cells) line (fault.TooManyCells line)
too_many_cells b h box line some many = record {
  output = 1;
  from = omega arith;
  to = some;
  claim = Cells;
  claim_is = refl;
  before = λ o claim from to at. absurd (omega arith);
  is = too_many (omega (arith, many));
}

pub unsure_cell : (b : Block) (h : ℕ) (box : List Interval) (line o : ℕ)
    → cell_count (narrowed b box) ≤ 64 → IsFirstUnsure b h box o → HasPartFault b h (part_of box leaf_line.Cells) line (fault.Unsure line o)
unsure_cell b h box line o few first = record {
  output = o;
  from = first.from;
  to = first.to;
  claim = Cells;
  claim_is = refl;
  before = λ j claim from to at.
      let same : Cells ≡ claim = one_claim refl at in
      subst (ClaimHolds b h box j) same
      (few, IfSome_then (output_at b j) (first.before j from to) (λ x within. (1000000, within)));
  is = unsure few first.unsure;
}
