-- Tight halving of blocks of one or two inputs.
use Rattle.std.proofs.Common.{◌≡◌, ℕ, zero, suc, ◌+◌, ◌-◌, ◌*◌, ◌/◌, ◌<◌, ◌≤◌, Bool, true, false, List, [], ◌∷◌, length}
use Rattle.arrayvec.specs.ArrayVec.{ArrayVec}
use Rattle.std.proofs.Common.{map, Some, refl, ap, ◌∙◌, subst, arith, inl, inr, mul-le-mul_right}
use Rattle.std.proofs.{lemmas.Bool.cases_lt}
use Rattle.std.specs.Prelude.{IfSome, slice_index, if◌then◌else◌, replicate, Result, Ok, Err}
use Rattle.fz_list.proofs.Algebra.{some_at, All-slice_get}
use Rattle.fuzzy_meaning.specs.{declared.block.Output.Output, declared.block.Block.Block, declared.block.Input.Input}
use Rattle.fuzzy_meaning.specs.Blocks.{IsValid, output_at}
use Rattle.error_bound.specs.{declared.boxes.Interval.Interval, Boxes.IsBoxOf, Matters.matters, Matters.narrowed}
use Rattle.error_bound.specs.{Boxes.LieIn}
use Rattle.box_tree.specs.declared.cert.CertKind.TheVariants.{Tight}
use Rattle.box_tree.specs.declared.{cert.Node.Node, cert.Cert.Cert}
use Rattle.cell_bounds.specs.CellBounds.{cell_count, IsFirstCellAbove, IsCellCount, of_bound, of_none}
use Rattle.cell_bounds.specs.{CellBounds.DefaultsHaveCellBounds, Cells.cell_of}
use Rattle.cert_check.specs.{Trees.left_of, Trees.right_of, Trees.whole, BoxLaws.CutsHaveHalves}
use Rattle.cert_check.proofs.Algebra.{whole_is}
use Rattle.error_certifier.specs.Halving.{IsHalvedAt, IsToCut, middle_of, Halves, Stops, StopsFor, cell, limit, in_left}
use Rattle.error_certifier.specs.Halving.{in_right, leaf as halved_leaf, split as halved_split, halving, outputs}
use Rattle.error_certifier.specs.Halving.{IsHalvingFor, one_for_all}
use Rattle.error_certifier.specs.declared.certifier.NotReached.{NotReached}
use Rattle.error_certifier.specs.declared.certifier.NotReached.TheVariants.{Cell, LeafLimit}
use Rattle.error_certifier.specs.Laws.{SmallBlocksMeetNoLimit, DefaultsHaveHalvings, TightHalvingDecides}
use Rattle.error_certifier.specs.Laws.{EachBlockIsHalved, CellsAreOutOfReach, IsAnswerFor}
use Rattle.error_certifier.specs.{Targets.AreTargets}
use Rattle.error_certifier.proofs.BoxLemmas.{left_box, right_box, cell_at, length-cell}
use Rattle.error_certifier.proofs.HalveLemmas.{lies_small}
use Rattle.error_certifier.proofs.TargetLists.{one_target}

-- ---- a box that is cut has large halves

abbrev size : Interval → ℕ
size v = v.to - v.from + 1

-- n bytes that are cut in the middle, beside m others of which k count
half_large : (n k m : ℕ) → 64 < n * k → k ≤ n → k ≤ m → 20 ≤ n / 2 * m
half_large n k m many wide few = elim (cases_lt 25 k) [
  | inr low ↦
      let all : n * k ≤ (2 * (n / 2) + 1) * k = mul-le-mul_right k (omega arith) in
      along (omega (arith, all, many, low))
  | inl high ↦
      let rows : 13 * k ≤ n / 2 * k = mul-le-mul_right k (omega (arith, high, wide)) in
      along (omega (arith, rows, high))
]
  where
    along : 20 ≤ n / 2 * k → 20 ≤ n / 2 * m
    along some = let more : k * (n / 2) ≤ m * (n / 2) = mul-le-mul_right (n / 2) few in omega (arith, some, more)

record HasLargeHalves (box : List Interval) (k c : ℕ) : Type 0 where
  sum : cell_count (left_of k c box) + cell_count (right_of k c box) ≡ cell_count box
  left : 20 ≤ cell_count (left_of k c box)
  right : 20 ≤ cell_count (right_of k c box)

-- the sizes of the halves of an interval
halved_sizes : (v : Interval) (c : ℕ) → v.from < v.to → c ≡ middle_of v
    → (c - 1 - v.from + 1 ≡ size v / 2) × (v.to - c + 1 ≡ size v - size v / 2)
halved_sizes v c more middle = (omega arith, omega arith)

large_by : (lower upper all s t k : ℕ) → lower ≡ s / 2 * t → upper ≡ (s - s / 2) * t → all ≡ s * t → 64 < s * k
    → k ≤ s → k ≤ t → (lower + upper ≡ all) × (20 ≤ lower) × (20 ≤ upper)
large_by lower upper all s t k is_lower is_upper is_all many wide few = (
  parts (s / 2) (s - s / 2) (omega arith) is_lower is_upper,
  omega (arith, is_lower, first),
  omega (arith, is_upper, first, more),
)
  where
    first : 20 ≤ s / 2 * t
    first = half_large s k t many wide few

    more : s / 2 * t ≤ (s - s / 2) * t
    more = mul-le-mul_right t (omega arith)

    parts : (q r : ℕ) → s ≡ q + r → lower ≡ q * t → upper ≡ r * t → lower + upper ≡ all
    parts q r sum il iu = let e : s * t ≡ (q + r) * t = ap (λ n. n * t) sum in omega (arith, e, il, iu, is_all)

-- an interval, or its low byte alone
abbrev picked : Bool → Interval → Interval
picked c v = if c then v else record { from = v.from; to = v.from }

picked_small : (c : Bool) (v : Interval) → size (picked c v) ≤ size v
picked_small true v = omega arith
picked_small false v = omega arith

module _ (b : Block) where
  abbrev Cut : List Interval → ℕ → ℕ → Type 0
  Cut box k c = IsHalvedAt (narrowed b box) box k c

  of_one : (v : Interval) (k c : ℕ) → Cut (v ∷ []) k c → 64 < cell_count (narrowed b (v ∷ []))
      → HasLargeHalves (v ∷ []) k c
  of_one v (suc k) c at many = absurd (let e = at.is_at in let z : ⊥ = cc in z)
  of_one v zero c at many =
      let here : at.interval ≡ v = (let e = at.is_at in cc) in
      let there : picked (matters b (v ∷ []) 1) v ≡ v = (let e = at.widest.is_at in cc) in
      let more : v.from < v.to = subst (λ (u : Interval). u.from < u.to) here at.more in
      let middle : c ≡ middle_of v = subst (λ u. c ≡ middle_of u) here at.middle in
      let sizes = halved_sizes v c more middle in
      let all : 64 < size v * 1 = subst (λ u. 64 < size u * 1) there many in
      let r = large_by (cell_count (left_of 0 c (v ∷ []))) (cell_count (right_of 0 c (v ∷ []))) (cell_count (v ∷ []))
      (size v) 1 1 (ap (λ n. n * 1) sizes.0) (ap (λ n. n * 1) sizes.1) refl all (omega arith) (omega arith) in
      record { sum = r.0; left = r.1; right = r.2 }

  of_two : (v w : Interval) (k c : ℕ) → Cut (v ∷ w ∷ []) k c → 64 < cell_count (narrowed b (v ∷ w ∷ []))
      → HasLargeHalves (v ∷ w ∷ []) k c
  of_two v w (suc (suc k)) c at many = absurd (let e = at.is_at in let z : ⊥ = cc in z)
  of_two v w zero c at many =
      let here : at.interval ≡ v = (let e = at.is_at in cc) in
      let there : picked (matters b (v ∷ w ∷ []) 1) v ≡ v = (let e = at.widest.is_at in cc) in
      let other = picked (matters b (v ∷ w ∷ []) (1 + 1)) w in
      let wide = subst (λ (u : Interval). other.to - other.from ≤ u.to - u.from) here (at.widest.most 1 other refl) in
      let more : v.from < v.to = subst (λ (u : Interval). u.from < u.to) here at.more in
      let middle : c ≡ middle_of v = subst (λ u. c ≡ middle_of u) here at.middle in
      let sizes = halved_sizes v c more middle in
      let few = picked_small (matters b (v ∷ w ∷ []) (1 + 1)) w in
      let all : 64 < size v * (size other * 1) = subst (λ u. 64 < size u * (size other * 1)) there many in
      let r = large_by (cell_count (left_of 0 c (v ∷ w ∷ []))) (cell_count (right_of 0 c (v ∷ w ∷ [])))
      (cell_count (v ∷ w ∷ [])) (size v) (size w * 1) (size other * 1) (ap (λ n. n * (size w * 1)) sizes.0)
      (ap (λ n. n * (size w * 1)) sizes.1) refl all (omega (arith, wide)) (omega (arith, few)) in
      record { sum = r.0; left = r.1; right = r.2 }
  of_two v w (suc zero) c at many =
      let here : at.interval ≡ w = (let e = at.is_at in cc) in
      let there : picked (matters b (v ∷ w ∷ []) (1 + 1)) w ≡ w = (let e = at.widest.is_at in cc) in
      let other = picked (matters b (v ∷ w ∷ []) 1) v in
      let wide = subst (λ (u : Interval). other.to - other.from ≤ u.to - u.from) here (at.widest.most 0 other refl) in
      let more : w.from < w.to = subst (λ (u : Interval). u.from < u.to) here at.more in
      let middle : c ≡ middle_of w = subst (λ u. c ≡ middle_of u) here at.middle in
      let sizes = halved_sizes w c more middle in
      let few = picked_small (matters b (v ∷ w ∷ []) 1) v in
      let all : 64 < size other * (size w * 1) = subst (λ u. 64 < size other * (size u * 1)) there many in
      let r = large_by (cell_count (left_of 1 c (v ∷ w ∷ []))) (cell_count (right_of 1 c (v ∷ w ∷ [])))
      (cell_count (v ∷ w ∷ [])) (size w) (size v) (size other) (turned sizes.0) (turned sizes.1)
      (omega arith) (omega (arith, all)) (omega (arith, wide)) few in
      record { sum = r.0; left = r.1; right = r.2 }
    where
      turned : {m n : ℕ} → m ≡ n → size v * (m * 1) ≡ n * size v
      turned {m} {n} e = let f : size v * m ≡ size v * n = ap (λ j. size v * j) e in omega (arith, f)

  cut_large : (box : List Interval) (k c : ℕ) → 1 ≤ length box → length box ≤ 2 → Cut box k c
      → 64 < cell_count (narrowed b box) → HasLargeHalves box k c
  cut_large [] k c some few at many = absurd (omega (arith, some))
  cut_large (v ∷ []) k c some few at many = of_one v k c at many
  cut_large (v ∷ w ∷ []) k c some few at many = of_two v w k c at many
  cut_large (u ∷ v ∷ w ∷ vs) k c some few at many = absurd (omega (arith, few))

-- ---- so there are few leaves

whole_cells : (is : List Input) → length is ≤ 2
    → cell_count (map (λ (_ : Input). let v : Interval = record { from = 0; to = 255 } in v) is) ≤ 65536
whole_cells [] few = omega arith
whole_cells (i ∷ []) few = omega arith
whole_cells (i ∷ j ∷ []) few = omega arith
whole_cells (i ∷ j ∷ k ∷ is) few = absurd (omega (arith, few))

module _ (b : Block) (h : ℕ) (targets : List ℕ) (valid : IsValid b) (few : length b.inputs ≤ 2) (cuts : CutsHaveHalves)
  where
    large : (box : List Interval) (k c : ℕ) → IsBoxOf b box → IsToCut Tight b h targets box k c → HasLargeHalves box k c
    large box k c is cut =
        let count = is.count in
        let some = valid.some_input in
        cut_large b box k c (omega (arith, count, some)) (omega (arith, count, few)) cut.halved cut.large

    leaves_few : (box : List Interval) (n m : ℕ) (nodes : List Node) → Halves Tight b h targets box n nodes m
        → IsBoxOf b box → 20 ≤ cell_count box → 20 * m ≤ 20 * n + cell_count box
    leaves_few _ _ _ _ (halved_leaf box n f settled less) is some = omega (arith, some)
    leaves_few _ _ _ _ (halved_split box k c n m r left right cut lower upper) is some =
        let parts = large box k c is cut in
        let sum = parts.sum in
        let l = leaves_few (left_of k c box) n m left lower (left_box cuts b box k c cut.halved is) parts.left in
        let u = leaves_few (right_of k c box) m r right upper (right_box cuts b box k c cut.halved is) parts.right in
        omega (arith, sum, l, u)

    -- a cell at which halving stops
    record IsStoppedAt (stop : NotReached) : Type 0 where
      bytes : ArrayVec ℕ
      output : ℕ
      above : ℕ
      stop_is : stop ≡ Cell bytes output above
      box : List Interval
      box_is : IsBoxOf b box
      first : IsFirstCellAbove b h targets 1 (length b.outputs) box bytes.items output above

    stopped : (box : List Interval) (n : ℕ) (stop : NotReached) → Stops Tight b h targets box n stop → IsBoxOf b box
        → 20 * n + cell_count box ≤ 65536 → IsStoppedAt stop
    stopped _ _ _ (cell box n bytes o m stuck) is room = record {
      bytes = bytes;
      output = o;
      above = m;
      stop_is = refl;
      box = box;
      box_is = is;
      first = stuck.2;
    }
    stopped _ _ _ (limit box n f settled full) is room = absurd (omega (arith, full, room))
    stopped _ _ _ (in_left box k c n stop cut stops) is room =
        let parts = large box k c is cut in
        let sum = parts.sum in
        stopped (left_of k c box) n stop stops (left_box cuts b box k c cut.halved is) (omega (arith, room, sum))
    stopped _ _ _ (in_right box k c n m left stop cut lower stops) is room =
        let parts = large box k c is cut in
        let sum = parts.sum in
        let l = leaves_few (left_of k c box) n m left lower (left_box cuts b box k c cut.halved is) parts.left in
        stopped (right_of k c box) m stop stops (right_box cuts b box k c cut.halved is) (omega (arith, room, sum, l))

    stop_of : (stop : NotReached) → length targets ≡ length b.outputs → StopsFor Tight b h targets stop
        → IsStoppedAt stop
    stop_of _ count (outputs other) = absurd (other count)
    stop_of _ _ (halving stop count stops) =
        stopped (whole b) 0 stop stops (whole_is b) (omega (arith, whole_cells b.inputs few))

pub no_limit : CutsHaveHalves → SmallBlocksMeetNoLimit
no_limit cuts b h targets valid few stops = by_stop LeafLimit stops refl
  where
    by_stop : (stop : NotReached) → StopsFor Tight b h targets stop → stop ≡ LeafLimit → ⊥
    by_stop _ (outputs other) e = cc
    by_stop _ (halving stop count stops) e =
        let s = stop_of b h targets valid few cuts stop count (halving stop count stops) in
        let at = s.stop_is in
        cc

-- ---- where there are DEFAULTs, and where another certificate is within the targets

pub halving_decides : EachBlockIsHalved → CutsHaveHalves → CellsAreOutOfReach → TightHalvingDecides
halving_decides halved cuts reach b h targets cert errors valid few hh are accepted within =
    let answer = halved Tight b h targets valid hh are.millionths in by_answer answer.0 answer.1
  where
    out : (stop : NotReached) → StopsFor Tight b h targets stop → IsStoppedAt b h targets valid few cuts stop → ⊥
    out stop stops s =
        let at : StopsFor Tight b h targets (Cell s.bytes s.output s.above) =
        subst (StopsFor Tight b h targets) s.stop_is stops in
        let r = reach Tight b h targets (Cell s.bytes s.output s.above) valid hh at in
        let from = s.first.from in
        let to = s.first.to in
        let count = accepted.errors_count in
        let e = some_at errors (s.output - 1) (omega (arith, from, to, count)) in
        let least = r.least cert errors e.0 tt accepted e.1 in
        let small = within (s.output - 1) e.0 e.1 in
        let above = r.above in
        omega (arith, least, small, above)

    by_answer : (answer : Result Cert NotReached) → IsAnswerFor Tight b h targets answer
        → (found : Cert) × IsHalvingFor Tight b h targets found
    by_answer (Ok found) is = (found, is)
    by_answer (Err stop) stops =
        absurd (out stop stops (stop_of b h targets valid few cuts stop are.count stops))

-- a cell of bytes that lie in a box
cell_box : (b : Block) (box : List Interval) (bytes : List ℕ) → IsBoxOf b box → LieIn box bytes
    → IsBoxOf b (cell_of bytes)
cell_box b box bytes is lies = record {
  count = length-cell bytes ∙ lies.count ∙ is.count;
  intervals = record {
    some = λ k v e.
        let at = cell_at bytes k v e in
        let small = All-slice_get (λ n. n ≤ 255) bytes k v.from (lies_small box bytes is.intervals lies) at.1 in
        (omega (arith, at.0), omega (arith, at.0, small));
  };
}

replicated : (n t k : ℕ) → k < n → slice_index (replicate n t) k ≡ t
replicated zero t k less = absurd (omega (arith, less))
replicated (suc n) t zero less = refl
replicated (suc n) t (suc k) less = replicated n t k (omega (arith, less))

pub default_halvings : EachBlockIsHalved → CutsHaveHalves → DefaultsHaveCellBounds → DefaultsHaveHalvings
default_halvings halved cuts bounds b h valid few hh defaults =
    let answer = halved Tight b h (one_for_all b 1000000) valid hh are.millionths in by_answer answer.0 answer.1
  where
    are : AreTargets b (one_for_all b 1000000)
    are = one_target b 1000000 (omega arith)

    out : (stop : NotReached) → IsStoppedAt b h (one_for_all b 1000000) valid few cuts stop → ⊥
    out stop s =
        let from = s.first.from in
        let to = s.first.to in
        let above = s.first.above in
        let top = replicated (length b.outputs) 1000000 (s.output - 1) (omega (arith, from, to)) in
        let x = some_at b.outputs (s.output - 1) (omega (arith, from, to)) in
        let count = subst (λ r. IfSome r (λ y. IsCellCount b (cell_of s.bytes.items) s.output y h s.above)) x.1
        s.first.count in
        by_count x.0 x.1 (omega (arith, above, top)) count
      where
        by_count : (x : Output) → output_at b s.output ≡ Some x → 1000000 < s.above
            → IsCellCount b (cell_of s.bytes.items) s.output x h s.above → ⊥
        by_count x ex above (of_bound bound small) = omega (arith, above, small)
        by_count x ex above (of_none none is_none) =
            let n = bounds b s.bytes.items s.output x h valid (cell_box b s.box s.bytes.items s.box_is s.first.inside) ex hh
            (defaults s.output x s.first.from ex) in
            none n.0 n.1.bound

    by_answer : (answer : Result Cert NotReached) → IsAnswerFor Tight b h (one_for_all b 1000000) answer
        → (found : Cert) × IsHalvingFor Tight b h (one_for_all b 1000000) found
    by_answer (Ok found) is = (found, is)
    by_answer (Err stop) stops =
        absurd (out stop (stop_of b h (one_for_all b 1000000) valid few cuts stop are.count stops))
