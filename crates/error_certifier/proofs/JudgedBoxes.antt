-- Each box is a leaf, is stuck, or is to be cut.
use Rattle.std.proofs.Common.{◌≡◌, ◌⊎◌, inl, inr, ℕ, zero, suc, ◌+◌, ◌-◌, ◌*◌, ◌<◌, ◌≤◌, List, [], ◌∷◌, length, map}
use Rattle.std.proofs.Common.{Some, refl, sym, ap, ◌∙◌, subst, arith}
use Rattle.std.proofs.{lemmas.Bool.cases_lt, lemmas.Option.slice_get_within}
use Rattle.std.specs.Prelude.{slice_get, slice_index}
use Rattle.fz_list.proofs.Algebra.{some_at}
use Rattle.fuzzy_meaning.specs.{declared.block.Output.Output, declared.block.Block.Block}
use Rattle.fuzzy_meaning.specs.Blocks.{IsValid, output_at}
use Rattle.error_bound.specs.{declared.boxes.Interval.Interval, Boxes.IsBoxOf, Matters.narrowed, Matters.narrowed_from}
use Rattle.error_bound.specs.BestLeaves.{IsBestBound, of_leaf, of_none}
use Rattle.error_bound.specs.Tight.{IsTightBound, IsTightCount, of_bound as tight_of, of_none as none_tight}
use Rattle.box_tree.specs.declared.{cert.CertKind.CertKind, cert.LeafLine.LeafLine}
use Rattle.box_tree.specs.declared.cert.CertKind.TheVariants.{Named, Tight}
use Rattle.box_tree.specs.declared.cert.LeafLine.TheVariants as leaf_line
use Rattle.cell_bounds.specs.{Claims.IsBoxCount, Claims.EachBoxHasACount}
use Rattle.cell_bounds.specs.CellBounds.{EachBoxIsWithinOrAbove, cell_count}
use Rattle.error_certifier.specs.Halving.{IsAbove, IsWithinTarget, IsSettled, IsStuck}
use Rattle.error_certifier.specs.Halving.{IsWidest, IsToCut, middle_of}
use Rattle.error_certifier.specs.Targets.{AreTargets}
use Rattle.error_certifier.proofs.BoxLemmas.{cell_is, narrowed_at}
use Rattle.error_certifier.proofs.TargetLists.{small_each}

-- ---- the widest interval

abbrev wide : Interval → ℕ
wide v = v.to - v.from

abbrev HasWidest : List Interval → Type 0
HasWidest vs = (k : ℕ) × (u : Interval) × IsWidest vs k u

widest_behind : (v : Interval) (vs : List Interval) (k : ℕ) (u : Interval) → IsWidest vs k u → HasWidest (v ∷ vs)
widest_behind v vs k u w = elim (cases_lt (wide v) (wide u)) [
  | inl wider ↦ (suc k, u, record { is_at = w.is_at; most = most_behind wider; first = first_behind wider })
  | inr no_wider ↦ (
    0,
    v,
    record { is_at = refl; most = most_here no_wider; first = λ j x less. absurd (omega (arith, less)) },
  )
]
  where
    most_behind : wide v < wide u → (j : ℕ) (x : Interval) → slice_get (v ∷ vs) j ≡ Some x → wide x ≤ wide u
    most_behind wider zero x e =
        let same : v ≡ x = cc in subst (λ y. wide y ≤ wide u) same (omega (arith, wider))
    most_behind wider (suc j) x e = w.most j x e

    first_behind : wide v < wide u → (j : ℕ) (x : Interval) → j < suc k → slice_get (v ∷ vs) j ≡ Some x
        → wide x < wide u
    first_behind wider zero x less e = let same : v ≡ x = cc in subst (λ y. wide y < wide u) same wider
    first_behind wider (suc j) x less e = w.first j x (omega (arith, less)) e

    most_here : wide u ≤ wide v → (j : ℕ) (x : Interval) → slice_get (v ∷ vs) j ≡ Some x → wide x ≤ wide v
    most_here no_wider zero x e = let same : v ≡ x = cc in subst (λ y. wide y ≤ wide v) same (omega arith)
    most_here no_wider (suc j) x e = let le = w.most j x e in omega (arith, le, no_wider)

alone : (v : Interval) → HasWidest (v ∷ [])
alone v = (0, v, record { is_at = refl; most = most; first = λ j u less. absurd (omega (arith, less)) })
  where
    most : (j : ℕ) (u : Interval) → slice_get (v ∷ []) j ≡ Some u → wide u ≤ wide v
    most zero u e = let same : v ≡ u = cc in subst (λ w. wide w ≤ wide v) same (omega arith)
    most (suc j) u e = absurd (let z : ⊥ = cc in z)

widest_of : (vs : List Interval) → 0 < length vs → HasWidest vs
widest_of [] some = absurd (omega (arith, some))
widest_of (v ∷ []) some = alone v
widest_of (v ∷ w ∷ ws) some =
    let r = widest_of (w ∷ ws) (omega arith) in widest_behind v (w ∷ ws) r.0 r.1 r.2

-- where the widest has one byte there is one cell
one_cell : (vs : List Interval) → ((j : ℕ) (u : Interval) → slice_get vs j ≡ Some u → wide u ≤ 0) → cell_count vs ≡ 1
one_cell [] none = refl
one_cell (v ∷ vs) none =
    let first = none 0 v refl in
    let rest = one_cell vs (λ j u e. none (suc j) u e) in
    let one : wide v + 1 ≡ 1 = omega (arith, first) in
    ap (λ n. n * cell_count vs) one ∙ omega (arith, rest)

narrowed_long : (b : Block) (box : List Interval) (i : ℕ) (vs : List Interval) → length (narrowed_from b box i vs) ≡ length vs
narrowed_long b box i [] = refl
narrowed_long b box i (v ∷ vs) = ap suc (narrowed_long b box (i + 1) vs)

-- ---- the best leaves

-- one thing for each of a list
listed : {X Y : Type 0} (P : ℕ → X → Y → Type 0) (xs : List X)
    → ((j : ℕ) (x : X) → slice_get xs j ≡ Some x → (y : Y) × P j x y)
    → (ys : List Y) × (length ys ≡ length xs)
    × ((j : ℕ) (x : X) → slice_get xs j ≡ Some x → (y : Y) × (slice_get ys j ≡ Some y) × P j x y)
listed {X} {Y} P [] each = ([], refl, λ j x at. absurd (let z : ⊥ = cc in z))
listed {X} {Y} P (x ∷ xs) each =
    let first = each 0 x refl in
    let rest = listed (λ j. P (suc j)) xs (λ j z at. each (suc j) z at) in
    (first.0 ∷ rest.0, ap suc rest.1, at first.0 rest.0 first.1 rest.2)
  where
    at : (y : Y) (ys : List Y) → P 0 x y
        → ((j : ℕ) (z : X) → slice_get xs j ≡ Some z → (w : Y) × (slice_get ys j ≡ Some w) × P (suc j) z w)
        → (j : ℕ) (z : X) → slice_get (x ∷ xs) j ≡ Some z → (w : Y) × (slice_get (y ∷ ys) j ≡ Some w) × P j z w
    at y ys first rest zero z e = let same : x ≡ z = cc in (y, refl, subst (λ w. P 0 w y) same first)
    at y ys first rest (suc j) z e = rest j z e

module _ (b : Block) (h : ℕ) (targets : List ℕ) (valid : IsValid b) (hh : 1 ≤ h) (are : AreTargets b targets)
    (box : List Interval) (is : IsBoxOf b box) (counts : EachBoxHasACount) where
  small : (k : ℕ) → slice_index targets k ≤ 1000000
  small = small_each targets are.millionths

  module _ (kind : CertKind) where
    -- those of the first outputs are within their targets
    abbrev AreWithin : ℕ → Type 0
    AreWithin o =
        (k : ℕ) (x : Output) → k < o → slice_get b.outputs k ≡ Some x
        → (m : ℕ) × IsBoxCount kind b box (k + 1) x h m × (m ≤ slice_index targets k)

    at_output : (o : ℕ) → o < length b.outputs → AreWithin o → AreWithin (suc o) ⊎ IsAbove kind b h targets box
    at_output o few before =
        let x = some_at b.outputs o few in
        let back : o ≡ o + 1 - 1 = omega arith in
        let ex : output_at b (o + 1) ≡ Some x.0 = subst (λ k. slice_get b.outputs k ≡ Some x.0) back x.1 in
        let n = counts kind b box (o + 1) x.0 h valid is.intervals ex hh in
        elim (cases_lt (slice_index targets o) n.0) [
          | inl above ↦ inr (
            o,
            n.0,
            record {
              output = x.0;
              output_is = x.1;
              bound = n.1;
              above = above;
              before = λ k y less e. before k y less e;
            },
          )
          | inr within ↦ inl (λ k y less e. elim (cases_lt k o) [
            | inl under ↦ before k y under e
            | inr last ↦
                let same : o ≡ k = omega (arith, last, less) in
                let here : slice_get b.outputs o ≡ Some y = subst (λ j. slice_get b.outputs j ≡ Some y) (sym same) e in
                let alike : x.0 ≡ y = (let there = x.1 in cc) in
                subst (λ j. (m : ℕ) × IsBoxCount kind b box (j + 1) y h m × (m ≤ slice_index targets j)) same
                (n.0, subst (λ z. IsBoxCount kind b box (o + 1) z h n.0) alike n.1, within)
          ])
        ]

    outputs : (o : ℕ) → o ≤ length b.outputs → AreWithin o ⊎ IsAbove kind b h targets box
    outputs zero few = inl (λ k x less. absurd (omega (arith, less)))
    outputs (suc o) few = elim (outputs o (omega (arith, few))) [
      | inl before ↦ at_output o (omega (arith, few)) before
      | inr above ↦ inr above
    ]

  -- ---- what becomes of the box

  abbrev IsJudged : CertKind → Type 0
  IsJudged kind =
      ((stated : LeafLine) × IsSettled kind b h targets box stated)
      ⊎ (((bytes : List ℕ) × (o : ℕ) × (n : ℕ) × IsStuck kind b h targets box bytes o n)
      ⊎ ((k : ℕ) × (c : ℕ) × IsToCut kind b h targets box k c))

  some_interval : 0 < length box
  some_interval = let some = valid.some_input in let count = is.count in omega (arith, some, count)

  named_settled : AreWithin Named (length b.outputs) → IsJudged Named
  named_settled within =
      let found = listed (λ k x p. (n : ℕ) × IsWithinTarget b h (slice_index targets k) box (k + 1) x
      (record { rule = p.0; k = p.1 }) n) b.outputs (λ k x e.
      let m = within k x (slice_get_within b.outputs k x e) e in
      best_pair k x m.0 m.1 m.2) in
      inl (
        leaf_line.Pairs (record { items = found.0 }),
        record {
          count = found.1;
          each = λ k x e. (let p = found.2 k x e in (p.0, p.2.0, p.1, p.2.1));
        },
      )
    where
      best_pair : (k : ℕ) (x : Output) (m : ℕ) → IsBestBound b box (k + 1) x h m → m ≤ slice_index targets k
          → (p : ℕ × ℕ) × ((n : ℕ) × IsWithinTarget b h (slice_index targets k) box (k + 1) x
          (record { rule = p.0; k = p.1 }) n)
      best_pair k x _ (of_leaf leaf n best bound_is) le =
          ((leaf.rule, leaf.k), (n, record { best = best; bound = bound_is; within = le }))
      best_pair k x _ (of_none none) le = absurd (let s = small k in omega (arith, le, s))

  named_above : IsAbove Named b h targets box → IsJudged Named
  named_above (k, n, above) =
      let found = widest_of box some_interval in
      let v = found.1 in
      let w = found.2 in
      elim (cases_lt v.from v.to) [
        | inl more ↦ inr (inr (
          found.0,
          middle_of v,
          record {
            above = (k, n, above);
            large = tt;
            halved = record { interval = v; is_at = w.is_at; widest = w; more = more; middle = refl };
          },
        ))
        | inr single ↦
            let order = (is.intervals.some found.0 v w.is_at).0 in
            inr (inl (
              map (λ (u : Interval). u.from) box,
              k + 1,
              n,
              (cell_is box found.0 v is.intervals w (omega (arith, single, order)), k, refl, above),
            ))
      ]

  named_judged : IsJudged Named
  named_judged = elim (outputs Named (length b.outputs) (omega arith)) [
    | inl within ↦ named_settled within
    | inr above ↦ named_above above
  ]

  tight_settled : AreWithin Tight (length b.outputs) → IsJudged Tight
  tight_settled within = inl (
    leaf_line.Tight,
    λ k x e.
        let m = within k x (slice_get_within b.outputs k x e) e in
        by_count k x m.0 m.1 m.2,
  )
    where
      by_count : (k : ℕ) (x : Output) (m : ℕ) → IsTightCount b box (k + 1) x h m → m ≤ slice_index targets k
          → (n : ℕ) × IsTightBound b box (k + 1) x h n × (n ≤ slice_index targets k)
      by_count k x m (tight_of bound_is) le = (m, bound_is, le)
      by_count k x m (none_tight loud never is_none) le =
          absurd (let s = small k in omega (arith, le, s, is_none))

  tight_cut : IsAbove Tight b h targets box → 64 < cell_count (narrowed b box) → IsJudged Tight
  tight_cut above many =
      let long = narrowed_long b box 1 box in
      let some = some_interval in
      let found = widest_of (narrowed b box) (omega (arith, long, some)) in
      let v = found.1 in
      let w = found.2 in
      elim (cases_lt v.from v.to) [
        | inl more ↦ inr (inr (
          found.0,
          middle_of v,
          record {
            above = above;
            large = many;
            halved = record {
              interval = v;
              is_at = narrowed_at b box 1 box found.0 v w.is_at more;
              widest = w;
              more = more;
              middle = refl;
            };
          },
        ))
        | inr single ↦ absurd (
            let one = one_cell (narrowed b box) (λ j u e. (let most = w.most j u e in omega (arith, most, single))) in
            omega (arith, many, one))
      ]

  tight_cells : EachBoxIsWithinOrAbove → IsAbove Tight b h targets box → cell_count (narrowed b box) ≤ 64
      → IsJudged Tight
  tight_cells cells above few =
      elim (cells b h targets 1 (length b.outputs) box valid is hh small) [
        | inr (bytes, o, n, first) ↦ inr (inl (bytes, o, n, (above, few, first)))
        | inl within ↦ inl (
          leaf_line.Cells,
          (
            above,
            few,
            λ k x e. (
                let less = slice_get_within b.outputs k x e in
                let back : k ≡ k + 1 - 1 = omega arith in
                let n = within (k + 1) x (omega arith) (omega (arith, less))
                (subst (λ j. slice_get b.outputs j ≡ Some x) back e) in
                (n.0, n.1, subst (λ j. n.0 ≤ slice_index targets j) (sym back) n.2)),
          ),
        )
      ]

  tight_judged : EachBoxIsWithinOrAbove → IsJudged Tight
  tight_judged cells = elim (outputs Tight (length b.outputs) (omega arith)) [
    | inl within ↦ tight_settled within
    | inr above ↦ elim (cases_lt 64 (cell_count (narrowed b box))) [
      | inl many ↦ tight_cut above many
      | inr few ↦ tight_cells cells above few
    ]
  ]

  pub box_judged : EachBoxIsWithinOrAbove → (kind : CertKind) → IsJudged kind
  box_judged cells Named = named_judged
  box_judged cells Tight = tight_judged cells
