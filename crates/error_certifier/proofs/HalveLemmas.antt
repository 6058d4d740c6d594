-- The best leaves of a box, how one is halved, and cells that are out of reach.
use Rattle.std.proofs.Common.{◌≡◌, ⊎_elim, ℕ, zero, suc, ◌+◌, ◌-◌, ◌<◌, ◌≤◌, List, [], ◌∷◌, ◌++◌, length, get_or}
use Rattle.std.proofs.Common.{Option, Some, refl, sym, ap, ◌∙◌, subst, arith, ◌≢◌, map, replicate, Result, Ok, Err}
use Rattle.std.proofs.lemmas.Option.{slice_get_within, get_or_from_slice_get, slice_get-get_or}
use Rattle.std.proofs.{lemmas.List.Elements.All-append, lemmas.List.length-replicate, lemmas.Bool.cases_lt}
use Rattle.std.proofs.Common.{None}
use Rattle.std.specs.Prelude.{slice_get, slice_index, slice_set, All, IfSome, OnOk, IfErr}
use Rattle.std.specs.{Option.option_map, Global.Vec}
use Rattle.arrayvec.specs.ArrayVec.{ArrayVec}
use Rattle.fz_list.proofs.Algebra.{AreFilled, All-slice_get, some_at, slice_get-set_other, slice_get-set_same}
use Rattle.fuzzy_meaning.specs.{declared.block.Output.Output, declared.block.Block.Block}
use Rattle.fuzzy_meaning.specs.Blocks.{IsValid, output_at}
use Rattle.error_bound.specs.{BestLeaves.IsBestBound, BestLeaves.of_leaf, BestLeaves.BestLeavesHold, Bounds.IsBound}
use Rattle.error_bound.specs.{Tight.IsTightBound, Tight.IsTightCount, Tight.of_bound, declared.boxes.Interval.Interval}
use Rattle.error_bound.specs.{Best.IsBest, Best.silent, Best.strong, Boxes.IsBoxOf, Boxes.IsBox, Boxes.LieIn}
use Rattle.box_tree.specs.declared.cert.CertKind.TheVariants.{Named, Tight}
use Rattle.box_tree.specs.declared.cert.Node.TheVariants.{Split, Leaf}
use Rattle.box_tree.specs.{declared.cert.LeafLine.TheVariants.Pairs, declared.cert.CertKind.CertKind}
use Rattle.box_tree.specs.{declared.cert.LeafLine.LeafLine, declared.cert.Node.Node, declared.cert.Cert.Cert}
use Rattle.box_tree.specs.Certificates.{IsPair}
use Rattle.cell_bounds.specs.CellBounds.{IsCellsBound, IsFirstCellAbove, cell_count, IsCellCount, StandForAll}
use Rattle.error_bound.specs.Matters.{narrowed}
use Rattle.cell_bounds.specs.{Claims.CountsAreLeast, Claims.IsCountAt, Claims.IsCompared, declared.claims.Claim.Claim}
use Rattle.cell_bounds.specs.{declared.claims.Claim.TheVariants.Pair, Walks.AreAtMost, Cells.cell_of}
use Rattle.cert_check.specs.BoxLaws.{CutsHaveHalves, LeavesAreAround, IsLineOf, IsNodeOf}
use Rattle.cert_check.specs.{Trees.part_of, Trees.whole, Trees.left_of, Trees.right_of, Walks.cuts_of, Walks.AreRaised}
use Rattle.cert_check.specs.Acceptance.{HasBound, claim_at}
use Rattle.cert_check.proofs.Algebra.{IfSome-at, whole_is}
use Rattle.error_certifier.specs.Halving.{IsWithinTarget, IsFirstAbove, IsAbove, IsWidest, IsHalvedAt, middle_of}
use Rattle.error_certifier.specs.Trees.{IsBestPair, AreBestPairs, AreTightBounds, IsFoundLeaf, IsTreeFor, IsSplit}
use Rattle.error_certifier.specs.Laws.{IsComparable, IsLeastError, IsOutOfReach, SaysOutOfReachFor, CellsAreOutOfReach}
use Rattle.error_certifier.specs.declared.certifier.NotReached.TheVariants.{Cell, LeafLimit, Memory}
use Rattle.error_certifier.specs.Halving.{counted, halving, outputs, IsToCut, Stops, cell, limit, in_left, in_right}
use Rattle.error_certifier.specs.Halving.{IsStuck}
use Rattle.error_certifier.specs.{declared.certifier.NotReached.NotReached, declared.leaves.FoundLeaf.FoundLeaf}
use Rattle.error_certifier.specs.{declared.halving.Tree.Tree, Trees.Grows, Targets.AreTargets}
use Rattle.error_certifier.proofs.BoxLemmas.{left_box, right_box, halves_fewer, middle_inside, cell_is}
use Rattle.error_certifier.proofs.BoxLemmas.{narrowed_at, one_cell, grows_leaf, grows_split, bytes_count, cell_small}
use Rattle.error_bound.specs.declared.boxes.Leaf as the
use Rattle.box_tree.specs.declared.cert.LeafLine.TheVariants as leaf_line
use Rattle.cell_bounds.specs.declared.claims.Claim.TheVariants as claim

-- a best leaf is a pair of a certificate
pub pair_of_best : (b : Block) (box : List Interval) (o : ℕ) (leaf : the.Leaf) → IsValid b → leaf.k ≤ 255
    → IsBest b box o (Some leaf) → IsPair (leaf.rule, leaf.k)
pair_of_best b box o _ valid small (silent h) =
    record { rule = omega arith; part = omega arith; both = (λ _. refl, λ _. refl) }
pair_of_best b box o _ valid small (strong n k quiet c first) =
    let within = slice_get_within b.rules (n - 1) c.rule c.rule_is in
    let few = valid.few_rules in
    let from = c.from in
    let some = c.some in
    record { rule = omega arith; part = small; both = (λ z. absurd (omega arith), λ z. absurd (omega arith)) }

-- what holds of the output of a number holds of the one at its place
pub at_place : (b : Block) (k : ℕ) (x : Output) (P : Output → Type 0) → slice_get b.outputs k ≡ Some x
    → IfSome (output_at b (k + 1)) P → P x
at_place b k x P e h =
    let place : k + 1 - 1 ≡ k = omega arith in
    let at : output_at b (k + 1) ≡ Some x = subst (λ j. slice_get b.outputs j ≡ Some x) (sym place) e in
    rw at at h

-- ---- an item behind others

slice_get-before : {X : Type 0} (xs : List X) (y : X) (k : ℕ) (x : X) → slice_get xs k ≡ Some x
    → slice_get (xs ++ y ∷ []) k ≡ Some x
slice_get-before [] y k x e = absurd (let z : ⊥ = cc in z)
slice_get-before (w ∷ ws) y zero x e = e
slice_get-before (w ∷ ws) y (suc k) x e = slice_get-before ws y k x e

slice_get-last : {X : Type 0} (xs : List X) (y : X) → slice_get (xs ++ y ∷ []) (length xs) ≡ Some y
slice_get-last [] y = refl
slice_get-last (w ∷ ws) y = slice_get-last ws y

module _ (b : Block) (h : ℕ) (targets : List ℕ) (box : List Interval) (old new : List (ℕ × ℕ)) (bounds : List ℕ) (p : ℕ × ℕ)
    (n o : ℕ) (pairs : new ≡ old ++ p ∷ []) (places : length bounds ≡ 4) (few : o < 4) where
  abbrev raised : List ℕ
  raised = slice_set bounds o n

  pair_before : (k : ℕ) (x : Output) → k < o → IsBestPair b h targets box k x old bounds
      → IsBestPair b h targets box k x new raised
  pair_before k x l best = record {
    pair = best.pair;
    bound = best.bound;
    pair_is = subst (λ (xs : List (ℕ × ℕ)). slice_get xs k ≡ Some best.pair) (sym pairs)
        (slice_get-before old p k best.pair best.pair_is);
    bound_is = slice_get-set_other bounds o k n l ∙ best.bound_is;
    within = best.within;
  }

  pair_last : (x : Output) → length old ≡ o
      → IsWithinTarget b h (slice_index targets o) box (o + 1) x (record { rule = p.0; k = p.1 }) n
      → IsBestPair b h targets box o x new raised
  pair_last x ep within = record {
    pair = p;
    bound = n;
    pair_is = subst (λ (xs : List (ℕ × ℕ)). slice_get xs o ≡ Some p) (sym pairs)
        (subst (λ j. slice_get (old ++ p ∷ []) j ≡ Some p) ep (slice_get-last old p));
    bound_is = slice_get-set_same bounds o n (omega arith);
    within = within;
  }

  pub pairs_more : length old ≡ o
      → ((k : ℕ) (x : Output) → k < o → slice_get b.outputs k ≡ Some x → IsBestPair b h targets box k x old bounds)
      → ((x : Output) → slice_get b.outputs o ≡ Some x
      → IsWithinTarget b h (slice_index targets o) box (o + 1) x (record { rule = p.0; k = p.1 }) n)
      → (k : ℕ) (x : Output) → k < o + 1 → slice_get b.outputs k ≡ Some x → IsBestPair b h targets box k x new raised
  pairs_more ep before here k x l e = ⊎_elim
      (λ (g : k < o). pair_before k x g (before k x g e))
      (λ (g : o ≤ k).
      let same : o ≡ k = omega arith in
      subst (λ j. IsBestPair b h targets box j x new raised) same
      (pair_last x ep (here x (subst (λ j. slice_get b.outputs j ≡ Some x) (sym same) e))))
      (cases_lt k o)

-- the outputs before are within the targets, and the next is above it
pub above_behind : (b : Block) (h : ℕ) (targets : List ℕ) (box : List Interval) (pairs : List (ℕ × ℕ)) (bounds : List ℕ) (o n : ℕ)
    → o < length b.outputs
    → ((k : ℕ) (x : Output) → k < o → slice_get b.outputs k ≡ Some x → IsBestPair b h targets box k x pairs bounds)
    → slice_index targets o < n → ((x : Output) → slice_get b.outputs o ≡ Some x → IsBestBound b box (o + 1) x h n)
    → IsFirstAbove Named b h targets box o n
above_behind b h targets box pairs bounds o n inside before above here =
    let x = some_at b.outputs o inside in
    record {
      output = x.0;
      output_is = x.1;
      bound = here x.0 x.1;
      above = above;
      before = λ k y l e.
          let best = before k y l e in (
            best.bound,
            of_leaf (record { rule = best.pair.0; k = best.pair.1 }) best.bound best.within.best
                best.within.bound,
            best.within.within,
          );
    }

pub pair_good : (pairs : List (ℕ × ℕ)) (p : ℕ × ℕ) → All IsPair pairs → IsPair p → All IsPair (pairs ++ p ∷ [])
pair_good pairs p all one = All-append IsPair pairs (p ∷ []) all (λ k d l. first k d l)
  where
    first : (k : ℕ) (d : ℕ × ℕ) → k < length (p ∷ []) → IsPair (get_or (p ∷ []) k d)
    first zero d l = one
    first (suc k) d l = absurd (omega arith)

-- ---- tight Bounds

-- the tight Bound of the output at a place, within the targets
abbrev pub IsTightAt : Block → ℕ → List ℕ → List Interval → ℕ → Output → ℕ → Type 0
IsTightAt b h targets box k x n = IsTightBound b box (k + 1) x h n × (n ≤ slice_index targets k)

module _ (b : Block) (h : ℕ) (targets : List ℕ) (box : List Interval) (bounds : List ℕ) (o : ℕ)
    (before : AreFilled (IsTightAt b h targets box) b.outputs bounds o) where
  pub tight_above : (n : ℕ) → o < length b.outputs → slice_index targets o < n
      → IfSome (output_at b (o + 1)) (λ x. IsTightCount b box (o + 1) x h n)
      → IsFirstAbove Tight b h targets box o n
  tight_above n inside above here =
      let x = some_at b.outputs o inside in
      record {
        output = x.0;
        output_is = x.1;
        bound = at_place b o x.0 (λ y. IsTightCount b box (o + 1) y h n) x.1 here;
        above = above;
        before = λ k y l e. let m = before k y l e in (m.0, of_bound m.2.0, m.2.1);
      }

  pub tight_all : length b.outputs ≤ o → AreTightBounds b h targets box bounds
  tight_all all k x e =
      let inside = slice_get_within b.outputs k x e in
      let m = before k x (omega (arith, inside)) e in
      subst (λ n. IsTightAt b h targets box k x n) (sym (get_or_from_slice_get bounds k m.0 0 m.1)) m.2

-- ---- a leaf that names them
module _ (hold : BestLeavesHold) (b : Block) (h : ℕ) (targets : List ℕ) (box : List Interval) (pairs : ArrayVec (ℕ × ℕ))
    (bounds : List ℕ) (best : AreBestPairs b h targets box pairs.items bounds) where
  pub named_found : IsFoundLeaf Named b h targets box
      (record { stated = Pairs pairs; bounds = bounds })
  named_found = record {
    settled = record {
      count = best.count;
      each = λ k x e. let p = best.each k x e in (p.pair, p.bound, p.pair_is, p.within);
    };
    good = (best.count, best.good);
    bounds = has_bound;
    within = λ k l.
        let x = some_at b.outputs k l in
        let p = best.each k x.0 x.1 in
        let at = p.within.within in
        let same = get_or_from_slice_get bounds k p.bound 0 p.bound_is in
        omega (arith, at, same);
  }
    where
      has_bound : (k : ℕ) (x : Output) → slice_get b.outputs k ≡ Some x
          → HasBound b (k + 1) x h (part_of box (Pairs pairs)) (slice_index bounds k)
      has_bound k x e =
          let p = best.each k x e in
          let leaf : the.Leaf = record { rule = p.pair.0; k = p.pair.1 } in
          let small = (All-slice_get IsPair pairs.items k p.pair best.good p.pair_is).part in
          let place : k ≡ k + 1 - 1 = omega arith in
          let same = get_or_from_slice_get bounds k p.bound 0 p.bound_is in
          let at : slice_get pairs.items (k + 1 - 1) ≡ Some p.pair =
          subst (λ j. slice_get pairs.items j ≡ Some p.pair) place p.pair_is in
          record {
            claim = Pair leaf;
            claim_is = ap (option_map (λ (q : ℕ × ℕ). Pair (record { rule = q.0; k = q.1 }))) at;
            allowed = tt;
            bound_is = (
              (hold b box (k + 1) leaf small p.within.best).0,
              subst (λ n. IsBound b box (k + 1) x h leaf n) (sym same) p.within.bound,
            );
          }

-- ---- one box is halved

on_ok : {T E P Q : Type 0} (r : Result T E) → OnOk r P → (P → Q) → OnOk r Q
on_ok (Ok x) p f = f p
on_ok (Err e) p f = tt

on_ok_four : {T E A B C D Q : Type 0} (r : Result T E) → OnOk r A → OnOk r B → OnOk r C → OnOk r D
    → (A → B → C → D → Q) → OnOk r Q
on_ok_four (Ok x) a b c d f = f a b c d
on_ok_four (Err e) a b c d f = tt

if_err : {T E : Type 0} (P Q : E → Type 0) (r : Result T E) → IfErr r P → ((e : E) → P e → Q e) → IfErr r Q
if_err P Q (Ok x) p f = tt
if_err P Q (Err e) p f = f e p

-- the index of the interval to be cut
pub split-place : {kind : CertKind} {b : Block} {h : ℕ} {targets : List ℕ} {box : List Interval} {k : ℕ} {v : Interval}
    → IsSplit kind b h targets box k v → IsValid b → IsBoxOf b box → k < 8
split-place {box = box} {k = k} {v = v} split valid is =
    omega (arith, slice_get_within box k v split.is_at, is.count, valid.few_inputs)

-- ---- a box that is a leaf

module _ {kind : CertKind} {b : Block} {h : ℕ} {targets : List ℕ} {box : List Interval} {found : FoundLeaf}
    (leaf_is : IsFoundLeaf kind b h targets box found) where
  pub Grows-leaf : {T : Type 0} (old new : Tree) (r : Result T NotReached) → IsTreeFor b old
      → OnOk r (new.nodes.items ≡ old.nodes.items ++ Leaf found.stated ∷ [])
      → OnOk r (AreRaised found.bounds old.errors.items new.errors.items)
      → OnOk r (new.leaves ≡ old.leaves + 1) → OnOk r (old.leaves < 4096)
      → OnOk r (Grows kind b h targets box old new)
  Grows-leaf old new r tree nodes errors more few =
      on_ok_four r nodes errors more few (grows_leaf kind b h targets box found leaf_is old new tree.errors)

  pub Stops-leaf : {T : Type 0} (r : Result T NotReached) (n : ℕ)
      → IfErr r (λ stop. stop ≢ Memory → (stop ≡ LeafLimit) × (4096 ≤ n))
      → IfErr r (λ stop. stop ≢ Memory → Stops kind b h targets box n stop)
  Stops-leaf r n full = if_err (λ stop. stop ≢ Memory → (stop ≡ LeafLimit) × (4096 ≤ n))
      (λ stop. stop ≢ Memory → Stops kind b h targets box n stop) r full
      (λ stop f at.
      let p = f at in
      subst (λ (s : NotReached). Stops kind b h targets box n s) (sym p.0)
      (limit box n found.stated leaf_is.settled p.1))

-- a tight one
pub tight_found : (b : Block) (h : ℕ) (targets : List ℕ) (box : List Interval) (bounds : List ℕ)
    → AreTightBounds b h targets box bounds
    → IsFoundLeaf Tight b h targets box (record { stated = leaf_line.Tight; bounds = bounds })
tight_found b h targets box bounds are = record {
  settled = λ k x e. let at = are k x e in (slice_index bounds k, at.0, at.1);
  good = tt;
  bounds = λ k x e. record { claim = claim.Tight; claim_is = refl; allowed = tt; bound_is = (are k x e).0 };
  within = λ k l. let x = some_at b.outputs k l in (are k x.0 x.1).1;
}

-- one of cells
pub cells_found : (b : Block) (h : ℕ) (targets : List ℕ) (box : List Interval) (bounds : List ℕ)
    → AreTargets b targets
    → IsAbove Tight b h targets box → cell_count (narrowed b box) ≤ 64 → StandForAll b h box
    → ((k : ℕ) → k < length b.outputs → IfSome (output_at b (k + 1))
    (λ x. IsCellsBound b (narrowed b box) (k + 1) x h (slice_index bounds k)))
    → AreAtMost targets bounds → IsFoundLeaf Tight b h targets box (record { stated = leaf_line.Cells; bounds = bounds })
cells_found b h targets box bounds targets_are above few stand are small = record {
  settled = (above, few, λ k x e. (slice_index bounds k, at k x e, within k (slice_get_within b.outputs k x e)));
  good = tt;
  bounds = λ k x e. record { claim = claim.Cells; claim_is = refl; allowed = few; bound_is = at k x e };
  within = within;
}
  where
    at : (k : ℕ) (x : Output) → slice_get b.outputs k ≡ Some x → IsCellsBound b box (k + 1) x h (slice_index bounds k)
    at k x e =
        let place : k + 1 - 1 ≡ k = omega arith in
        let number : output_at b (k + 1) ≡ Some x = subst (λ j. slice_get b.outputs j ≡ Some x) (sym place) e in
        stand.bound (k + 1) x (slice_index bounds k) number
        (at_place b k x (λ y. IsCellsBound b (narrowed b box) (k + 1) y h (slice_index bounds k)) e
        (are k (slice_get_within b.outputs k x e)))

    within : (k : ℕ) → k < length b.outputs → slice_index bounds k ≤ slice_index targets k
    within k l = small k (omega (arith, l, targets_are.count))

-- ---- one that is none

pub named_stuck : {b : Block} {h : ℕ} {targets : List ℕ} {box : List Interval} {k : ℕ} {v : Interval} {output above : ℕ}
    → IsBoxOf b box → IsWidest box k v → v.from ≡ v.to → (n : ℕ) (bytes : ArrayVec ℕ)
    → bytes.items ≡ map (λ (u : Interval). u.from) box → IsFirstAbove Named b h targets box output above
    → Stops Named b h targets box n (Cell bytes (output + 1) above)
named_stuck {b} {h} {targets} {box} {k} {v} {output} {above} is widest single n bytes low first =
    cell box n bytes (output + 1) above
    (cell_is box k v is.intervals widest single ∙ ap cell_of (sym low), output, refl, first)

pub cells_stuck : (b : Block) (h : ℕ) (targets : List ℕ) (box : List Interval) → IsAbove Tight b h targets box
    → cell_count (narrowed b box) ≤ 64 → StandForAll b h box → (bytes : ArrayVec ℕ) (o n : ℕ)
    → IsFirstCellAbove b h targets 1 (length b.outputs) (narrowed b box) bytes.items o n
    → (m : ℕ) → Stops Tight b h targets box m (Cell bytes o n)
cells_stuck b h targets box above few stand bytes o n first m =
    cell box m bytes o n (above, few, stand.first targets 1 (length b.outputs) bytes.items o n first)

pub cells_split : (b : Block) (h : ℕ) (targets : List ℕ) (box : List Interval) (k : ℕ) (v : Interval)
    → IsBox (narrowed b box) → IsAbove Tight b h targets box → (cell_count (narrowed b box) ≤ 64 → ⊥)
    → IsWidest (narrowed b box) k v → IsSplit Tight b h targets box k v
cells_split b h targets box k v is above many widest = record {
  above = above;
  large = omega (arith, many);
  is_at = narrowed_at b box 1 box k v widest.is_at wide;
  widest = widest;
  wide = wide;
}
  where
    wide : v.from < v.to
    wide = ⊎_elim
        (λ (l : v.from < v.to). l)
        (λ (l : v.to ≤ v.from).
        let order = (is.some k v widest.is_at).0 in
        let cell = cell_is (narrowed b box) k v is widest (omega arith) in
        let one = ap cell_count cell ∙ one_cell (map (λ (u : Interval). u.from) (narrowed b box)) in
        absurd (many (omega (arith, one))))
        (cases_lt v.from v.to)

pub named_split : (b : Block) (h : ℕ) (targets : List ℕ) (box : List Interval) (k n place : ℕ) (v : Interval)
    → IsBox box → IsFirstAbove Named b h targets box place n → IsWidest box k v → (v.from ≡ v.to → ⊥)
    → IsSplit Named b h targets box k v
named_split b h targets box k n place v is first widest more = record {
  above = (place, n, first);
  large = tt;
  is_at = widest.is_at;
  widest = widest;
  wide = ⊎_elim
      (λ (l : v.from < v.to). l)
      (λ (l : v.to ≤ v.from). let order = (is.some k v widest.is_at).0 in absurd (more (omega arith)))
      (cases_lt v.from v.to);
}

-- ---- a box that is cut in the middle of an interval

module _ {kind : CertKind} {b : Block} {h : ℕ} {targets : List ℕ} {box : List Interval} {k c : ℕ} {v : Interval}
    (is : IsBoxOf b box) (large : IsSplit kind b h targets box k v) (middle : c ≡ middle_of v)
  where
    halved_at : IsHalvedAt (counted kind b box) box k c
    halved_at = record {
      interval = v;
      is_at = large.is_at;
      widest = large.widest;
      more = large.wide;
      middle = middle;
    }

    cuttable : IsToCut kind b h targets box k c
    cuttable = record { above = large.above; large = large.large; halved = halved_at }

    cut_small : c ≤ 255
    cut_small =
        let small = (is.intervals.some k v large.is_at).1 in
        let inside = (middle_inside v.from v.to large.wide).1 in
        omega arith

    -- its halves are boxes that can be cut fewer times
    pub left_half : CutsHaveHalves → (left : List Interval) → left ≡ left_of k c box
        → (cuts_of left < cuts_of box) × IsBoxOf b left
    left_half cuts left left_is = subst (λ (x : List Interval). (cuts_of x < cuts_of box) × IsBoxOf b x) (sym left_is)
        ((halves_fewer box k c halved_at).0, left_box cuts b box k c halved_at is)

    pub right_half : CutsHaveHalves → (right : List Interval) → right ≡ right_of k c box
        → (cuts_of right < cuts_of box) × IsBoxOf b right
    right_half cuts right right_is =
        subst (λ (x : List Interval). (cuts_of x < cuts_of box) × IsBoxOf b x) (sym right_is)
        ((halves_fewer box k c halved_at).1, right_box cuts b box k c halved_at is)

    module _ {left : List Interval} (left_is : left ≡ left_of k c box) where
      -- halving stops where that of the left half does
      pub Stops-left : {n : ℕ} {stop : NotReached} → Stops kind b h targets left n stop
          → Stops kind b h targets box n stop
      Stops-left {n} {stop} stops = in_left box k c n stop cuttable
          (subst (λ (x : List Interval). Stops kind b h targets x n stop) left_is stops)

      -- where the left half's tree has grown, it is up to the right half
      module _ {right : List Interval} (right_is : right ≡ right_of k c box) (old mid : Tree) (nodes : Vec Node)
          (grows : Grows kind b h targets left (record { nodes = nodes; errors = old.errors; leaves = old.leaves }) mid)
        where
          abbrev pushed : Tree
          pushed = record { nodes = nodes; errors = old.errors; leaves = old.leaves }

          grows_left : Grows kind b h targets (left_of k c box) pushed mid
          grows_left = subst (λ (x : List Interval). Grows kind b h targets x pushed mid) left_is grows

          pub Grows-halves : {T : Type 0} (new : Tree) (r : Result T NotReached) → CutsHaveHalves → IsValid b
              → nodes.items ≡ old.nodes.items ++ Split (k + 1) c ∷ [] → OnOk r (Grows kind b h targets right mid new)
              → OnOk r (Grows kind b h targets box old new)
          Grows-halves new r cuts valid nodes_are grown = on_ok r grown
              (λ g. grows_split cuts kind b h targets box k c old pushed mid new valid.few_inputs is cuttable cut_small
              nodes_are refl refl grows_left
              (subst (λ (x : List Interval). Grows kind b h targets x mid new) right_is g))

          pub Stops-right : {T : Type 0} (r : Result T NotReached)
              → IfErr r (λ stop. stop ≢ Memory → Stops kind b h targets right mid.leaves stop)
              → IfErr r (λ stop. stop ≢ Memory → Stops kind b h targets box old.leaves stop)
          Stops-right r stops = if_err (λ stop. stop ≢ Memory → Stops kind b h targets right mid.leaves stop)
              (λ stop. stop ≢ Memory → Stops kind b h targets box old.leaves stop) r stops
              (λ stop f found. in_right box k c old.leaves mid.leaves grows_left.added stop cuttable grows_left.halves
              (subst (λ (x : List Interval). Stops kind b h targets x mid.leaves stop) right_is (f found)))

-- ---- all bytes

pub box_for : (a b : Block) (box : List Interval) → a ≡ b → box ≡ whole b → IsBoxOf a box
box_for a b box e f =
    subst (λ (y : Block). IsBoxOf y box) (sym e) (subst (λ (x : List Interval). IsBoxOf b x) (sym f) (whole_is b))

pub grows_for : (j k : CertKind) (a b : Block) (g h : ℕ) (s t : List ℕ) (box : List Interval) (old new : Tree) → j ≡ k → a ≡ b
    → g ≡ h → s ≡ t → box ≡ whole b
    → Grows j a g s box old new → Grows k b h t (whole b) old new
grows_for j k a b g h s t box old new ek ea eg es ebox grows =
    subst (λ (i : CertKind). Grows i b h t (whole b) old new) ek
    (subst (λ (x : List Interval). Grows j b h t x old new) ebox
    (subst (λ (y : Block). Grows j y h t box old new) ea
    (subst (λ n. Grows j a n t box old new) eg (subst (λ (ts : List ℕ). Grows j a g ts box old new) es grows))))

pub tree_for : (a b : Block) (tree : Tree) (n : ℕ) → a ≡ b → tree.errors.items ≡ replicate n 0 → n ≡ length b.outputs
    → tree.leaves ≡ 0 → IsTreeFor a tree
tree_for a b tree n e zeros count leaves = record {
  errors = ap length zeros ∙ length-replicate n 0 ∙ count ∙ ap (λ (y : Block). length y.outputs) (sym e);
  leaves = omega arith;
}

-- ---- a cell above the targets is above it for every certificate that it is compared with

at_most : (n m e : ℕ) → n ≤ m → m ≤ e → n ≤ e
at_most n m e h k = omega arith

-- what a line of pairs says is compared
pair_compared : (q : Option (ℕ × ℕ)) (c : Claim)
    → option_map (λ p. claim.Pair (record { rule = p.0; k = p.1 })) q ≡ Some c → IsCompared Named c
pair_compared None c e = absurd (let z : ⊥ = cc in z)
pair_compared (Some p) c e =
    let same : claim.Pair (record { rule = p.0; k = p.1 }) ≡ c = cc in
    subst (IsCompared Named) same tt

named_compared : (f : LeafLine) (k : ℕ) (c : Claim) → IsLineOf Named f → claim_at f k ≡ Some c → IsCompared Named c
named_compared (leaf_line.Pairs pairs) k c named at = pair_compared (slice_get pairs.items k) c at
named_compared leaf_line.Tight k c named at = absurd named
named_compared leaf_line.Cells k c named at = absurd named

-- the bytes of a box are bytes
pub lies_small : (box : List Interval) (bytes : List ℕ) → IsBox box → LieIn box bytes → All (λ n. n ≤ 255) bytes
lies_small box bytes is lie k d l =
    let count = lie.count in
    let v = some_at box k (omega (arith, l, count)) in
    let n = get_or bytes k d in
    let order = is.some k v.0 v.1 in
    let within = lie.within k v.0 n v.1 (slice_get-get_or bytes k d l) in
    let top = order.1 in
    let to = within.1 in
    omega arith

module _ (around : LeavesAreAround) (least : CountsAreLeast) (cuts : CutsHaveHalves) (b : Block) (h : ℕ) (targets : List ℕ)
    (valid : IsValid b) (parts : 1 ≤ h) where
  compared : (k : CertKind) (cert : Cert) (f : LeafLine) (j : ℕ) (c : Claim) → IsComparable k cert
      → ((i : CertKind) → All (IsNodeOf i) cert.nodes → IsLineOf i f) → claim_at f j ≡ Some c → IsCompared k c
  compared Named cert f j c comparable of_kind at = named_compared f j c (of_kind Named comparable) at
  compared Tight cert f j c comparable of_kind at = tt

  -- no leaf around a cell has a smaller Bound than its count
  least_error : (k : CertKind) (bytes : List ℕ) (o : ℕ) (x : Output) (n : ℕ) → length bytes ≡ length b.inputs
      → All (λ m. m ≤ 255) bytes → 1 ≤ o → output_at b o ≡ Some x → IsCountAt k b bytes o x h n
      → IsLeastError k b h o n
  least_error k bytes o x n count small from out at cert errors e comparable accepted error_is =
      let l = around b h cert errors o x e bytes accepted from out error_is count small in
      let claims = compared k cert l.stated (o - 1) l.claim comparable l.of_kind l.claim_is in
      let lower = least k b bytes l.box o x h l.claim n l.bound valid out parts l.count l.is_box l.around claims at
      l.bound_is in
      at_most n l.bound e lower l.within

  stuck_least : (k : CertKind) (box : List Interval) (bytes : List ℕ) (o n : ℕ) → IsBoxOf b box
      → IsStuck k b h targets box bytes o n → IsOutOfReach k b h targets o n
  stuck_least Named box bytes o n is (single, k, number, a) =
      let at : IsBoxOf b (cell_of bytes) = subst (IsBoxOf b) single is in
      let place : k ≡ k + 1 - 1 = omega arith in
      let x = a.output in
      let out : output_at b (k + 1) ≡ Some x = subst (λ j. slice_get b.outputs j ≡ Some x) place a.output_is in
      let count : IsCountAt Named b bytes (k + 1) x h n =
      subst (λ (y : List Interval). IsBestBound b y (k + 1) x h n) single a.bound in
      subst (λ j. IsOutOfReach Named b h targets j n) (sym number)
      (record {
        above = subst (λ j. slice_index targets j < n) place a.above;
        least = least_error Named bytes (k + 1) x n (bytes_count b bytes at) (cell_small bytes at.intervals)
            (omega arith) out count;
      })
  stuck_least Tight box bytes o n is (above, few, a) =
      let from = a.from in
      let to = a.to in
      let x = some_at b.outputs (o - 1) (omega arith) in
      record {
        above = a.above;
        least = least_error Tight bytes o x.0 n (a.inside.count ∙ is.count) (lies_small box bytes is.intervals a.inside)
            a.from x.1 (IfSome-at (λ y. IsCellCount b (cell_of bytes) o y h n) x.1 a.count);
      }

  out_of_reach : (k : CertKind) (box : List Interval) (n : ℕ) (stop : NotReached) → IsBoxOf b box
      → Stops k b h targets box n stop → SaysOutOfReachFor k b h targets stop
  out_of_reach k _ _ _ is (cell box n bytes o above stuck) = stuck_least k box bytes.items o above is stuck
  out_of_reach k _ _ _ is (limit box n stated w many) = tt
  out_of_reach k _ _ _ is (in_left box i c n stop cut inner) =
      out_of_reach k (left_of i c box) n stop (left_box cuts b box i c cut.halved is) inner
  out_of_reach k _ _ _ is (in_right box i c n m left stop cut l inner) =
      out_of_reach k (right_of i c box) m stop (right_box cuts b box i c cut.halved is) inner

pub cells_out_of_reach : LeavesAreAround → CountsAreLeast → CutsHaveHalves → CellsAreOutOfReach
cells_out_of_reach around least cuts k b h targets _ valid parts (outputs other) = tt
cells_out_of_reach around least cuts k b h targets stop valid parts (halving _ count stops) =
    out_of_reach around least cuts b h targets valid parts k (whole b) 0 stop (whole_is b) stops
