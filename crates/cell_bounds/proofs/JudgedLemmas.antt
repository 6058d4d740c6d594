-- Each cell has a count, and each box of cells a greatest Bound or a first cell that is above a limit.
use Rattle.std.proofs.Common.{◌≡◌, ◌⊎◌, inl, inr, ℕ, zero, suc, ◌+◌, ◌-◌, ◌*◌, ◌<◌, ◌≤◌, Bool, true, false, List, []}
use Rattle.std.proofs.Common.{◌∷◌, Option, Some, None, refl, sym, ap, ◌∙◌, subst, arith, mul-le-mul_right, cond}
use Rattle.std.proofs.{lemmas.Bool.cases_lt, lemmas.Bool.Decides.nat_tests, lemmas.Int.ints}
use Rattle.std.specs.Prelude.{All, IfSome, slice_index, if◌then◌else◌, ◌==◌}
use Rattle.fz_list.proofs.Algebra.{All-slice_get}
use Rattle.fz_num.specs.{declared.dec.Dec.Dec, Decimals.distance, Fractions.over}
use Rattle.fuzzy_meaning.specs.{declared.block.Output.Output, declared.block.Block.Block}
use Rattle.fuzzy_meaning.specs.Blocks.{IsValid, IsValidOutput, output_at, IsWithin as IsInRange}
use Rattle.byte_scaling.specs.Cells.{nearest_byte}
use Rattle.std.specs.Option.{option_map_or}
use Rattle.std.proofs.Common.{◌/◌}
use Rattle.point_slope.specs.Bytes.{answer_in, AnswersAreInRange, byte_shares, total_mass, resting_answer, weighted_sum}
use Rattle.cell_error.specs.Errors.{AreBetween, total, weighted, difference, IsWithin, Covers, IsRange}
use Rattle.cell_error.specs.Errors.{CoveredMassesHaveErrors, sure_mass}
use Rattle.cell_error.specs.declared.{ranges.MassRange.MassRange, ranges.Answer.Answer}
use Rattle.error_bound.specs.{declared.boxes.Interval.Interval, Boxes.IsBoxOf}
use Rattle.error_bound.specs.{MassRanges.ranges, MassRanges.answer_at, MassRanges.rest_of, MassRanges.MassesAreInRange}
use Rattle.error_bound.specs.TightLaws.{EachBoxHasATightCount, TightBoundsAreOne, TightBoundsAreSmall}
use Rattle.error_bound.specs.Tight.{IsTightCount, of_bound as tight_of, of_none as none_tight}
use Rattle.error_bound.specs.BestLeaves.{EachBoxHasABestBound}
use Rattle.box_tree.specs.declared.cert.CertKind.TheVariants as kind
use Rattle.cell_bounds.specs.{Cells.cell_of, Cells.IsErrorOnCell, Cells.unsure, Cells.silent, Claims.EachBoxHasACount}
use Rattle.cell_bounds.specs.CellBounds.{HasCellBound, of_error, IsCellBound, IsCellCount, of_bound, of_none, IsCellWithin}
use Rattle.cell_bounds.specs.CellBounds.{CellsAreWithin, IsCellsBound, IsBefore, number_of, IsFirstCellAbove, IsUnsureOn}
use Rattle.cell_bounds.specs.CellBounds.{EachCellHasACount, EachBoxHasACellsBound, EachBoxIsWithinOrAbove}
use Rattle.cell_bounds.specs.{CellBounds.AreCellsBoundsWithin, CellBounds.DefaultsHaveCellBounds, Cells.IsUnsure}
use Rattle.cell_bounds.proofs.CellLemmas.{IsTightSide, IsErrorSide, less_is, neither}
use Rattle.cell_bounds.proofs.{WalkLemmas.box_is, WalkLemmas.long}
use Rattle.cell_bounds.proofs.NarrowLemmas.{Lie, to_lie, from_lie}

-- ---- the whole range covers all masses

at_most_whole : (w g : ℕ) (ts : List MassRange) (d : ℕ) (ms : List ℕ) → All (IsRange w) ts → AreBetween d ts ms
    → weighted ts ms ≤ w * total ms
at_most_whole w g [] d [] h m = omega arith
at_most_whole w g [] d (n ∷ ms) h m = absurd m
at_most_whole w g (t ∷ ts) d [] h m = absurd m
at_most_whole w g (t ∷ ts) d (n ∷ ms) h m =
    let here : t.at * n ≤ w * n = mul-le-mul_right n (h 0 t (omega arith)).at_to in
    let rest : weighted ts ms ≤ w * total ms = at_most_whole w g ts d ms (λ k e l. h (suc k) e (omega arith)) m.2 in
    omega arith

-- two numbers that are at most a third differ by at most it
apart_at_most : (a c m : ℕ) → a ≤ m → c ≤ m → difference a c * 1000000 ≤ 1000000 * m
apart_at_most a c m l k = omega arith

within_whole : (a : Answer) (num den : ℕ) → a.value ≤ a.parts → num ≤ a.width * den → IsWithin a 1000000 (over num den)
within_whole a num den value few =
    let up : a.value * (a.width * den) ≤ a.parts * (a.width * den) = mul-le-mul_right (a.width * den) value in
    let down : num * a.parts ≤ (a.width * den) * a.parts = mul-le-mul_right a.parts few in
    apart_at_most (a.value * a.width * den) (a.parts * num) (a.parts * a.width * den) (omega arith) (omega arith)

whole_covers : (a : Answer) (ts : List MassRange) (rest : ℕ) → a.value ≤ a.parts → All (IsRange a.width) ts
    → rest ≤ a.width → Covers a ts rest 1000000
whole_covers a ts rest value in_range few d ms some between = by_total (total ms == 0)
  where
    by_total : (none : Bool)
        → IsWithin a 1000000 (if none then over rest 1 else over (weighted ts ms) (total ms))
    by_total true = within_whole a rest 1 value (omega (arith, few))
    by_total false = within_whole a (weighted ts ms) (total ms) value (at_most_whole a.width 0 ts d ms in_range between)

-- ---- a cell has its bytes alone

same_bytes : (bytes others : List ℕ) → Lie (cell_of bytes) others → others ≡ bytes
same_bytes [] [] l = refl
same_bytes [] (m ∷ ms) l = absurd l
same_bytes (n ∷ ns) [] l = absurd l
same_bytes (n ∷ ns) (m ∷ ms) l =
    let head : m ≡ n = omega (arith, l.0, l.1) in
    let tail : ms ≡ ns = same_bytes ns ms l.2 in
    cc

-- ---- its count

module _ (b : Block) (bytes : List ℕ) (o : ℕ) (x : Output) (h : ℕ) (valid : IsValid b) (is : IsBoxOf b (cell_of bytes))
    (ex : output_at b o ≡ Some x) where
  abbrev answer : ℕ
  answer = answer_in h b o bytes 0

  abbrev mass : ℕ
  mass = total_mass (byte_shares b bytes o x)

  abbrev mean : ℕ
  mean = h * weighted_sum (byte_shares b bytes o x) / mass

  abbrev rested : ℕ → Option Dec → ℕ
  rested before d = option_map_or (λ d. h * nearest_byte x d) d before

  -- where there is a mass, or a DEFAULT that is a number, it is the same after any answer
  one_by_mass : 0 < mass → (before : ℕ) → answer_in h b o bytes before ≡ answer
  one_by_mass some before =
      let e : (mass == 0) ≡ false = grind (arith, nat_tests) in
      rw ex (ap (λ c. cond c (resting_answer h x before) mean) e ∙ sym (ap (λ c. cond c (resting_answer h x 0) mean) e))

  one_by_default : (d : Dec) → x.default ≡ Some d → (before : ℕ) → answer_in h b o bytes before ≡ answer
  one_by_default d e before =
      let same : resting_answer h x before ≡ resting_answer h x 0 = ap (rested before) e ∙ sym (ap (rested 0) e) in
      rw ex (ap (λ r. cond (mass == 0) r mean) same)

  rest_small : (d : Option Dec) → IfSome d (IsInRange x.lo x.hi) → x.default ≡ d → rest_of x ≤ distance x.lo x.hi
  rest_small d within e =
      subst (λ r. option_map_or (λ d. distance x.lo d) r 0 ≤ distance x.lo x.hi) (sym e) (by_default d within)
    where
      by_default : (d : Option Dec) → IfSome d (IsInRange x.lo x.hi)
          → option_map_or (λ d. distance x.lo d) d 0 ≤ distance x.lo x.hi
      by_default None within = omega arith
      by_default (Some d) within = omega (arith, ints, within.low, within.high)

  module _ (have : CoveredMassesHaveErrors) (in_range : MassesAreInRange) (bounded : AnswersAreInRange)
      (ones : TightBoundsAreOne) where
    abbrev IsErrorFound : Option ℕ → Type 0
    IsErrorFound r = IsErrorSide b (cell_of bytes) o x h valid is ex ones r × IfSome r (λ n. n ≤ 1000000)

    error_found : ((before : ℕ) → answer_in h b o bytes before ≡ answer)
        → (x.default ≡ None → 0 < sure_mass (ranges b (cell_of bytes) o x))
        → (e : ℕ) × IsErrorOnCell b (cell_of bytes) o x h e × (e ≤ 1000000)
    error_found one sure =
        let a = answer_at h x answer in
        let vx : IsValidOutput x = All-slice_get IsValidOutput b.outputs (o - 1) x valid.outputs ex in
        let value : answer ≤ 255 * h = bounded h b o bytes 0 valid (omega arith) in
        let ts = in_range b (cell_of bytes) o x valid is.count is.intervals ex in
        let e = have a (ranges b (cell_of bytes) o x) (rest_of x) 1000000 ts
        (whole_covers a (ranges b (cell_of bytes) o x) (rest_of x) value ts
        (rest_small x.default vx.default_in refl)) in (
          e.0,
          record {
            answer = answer;
            is_answer = λ others before l.
                ap (λ ms. answer_in h b o ms before) (same_bytes bytes others (to_lie (cell_of bytes) others l))
                ∙ one before;
            sure = sure;
            error = e.1;
          },
          e.2,
        )

    as_found : (e : ℕ) × IsErrorOnCell b (cell_of bytes) o x h e × (e ≤ 1000000) → (r : Option ℕ) × IsErrorFound r
    as_found (e, found, small) = (Some e, (record { error = found; unsure = tt }, small))

    no_error : IsUnsure b (cell_of bytes) o x → (r : Option ℕ) × IsErrorFound r
    no_error none = (None, (record { error = tt; unsure = none }, tt))

    error_judged : (r : Option ℕ) × IsErrorFound r
    error_judged = by_default x.default refl
      where
        by_default : (d : Option Dec) → x.default ≡ d → (r : Option ℕ) × IsErrorFound r
        by_default (Some d) e = as_found (error_found (one_by_default d e) (λ none. absurd (let z : ⊥ = cc in z)))
        by_default None nc = elim (cases_lt 0 mass) [
          | inr none ↦ no_error (silent nc (λ others l.
              subst (λ ms. total_mass (byte_shares b ms o x) ≡ 0)
              (sym (same_bytes bytes others (to_lie (cell_of bytes) others l))) (omega (arith, none))))
          | inl some ↦ elim (cases_lt 0 (sure_mass (ranges b (cell_of bytes) o x))) [
            | inl sure ↦ as_found (error_found (one_by_mass some) (λ _. sure))
            | inr none ↦ no_error (unsure nc (omega (arith, none)))
          ]
        ]

    module _ (small : TightBoundsAreSmall) where
      abbrev IsTightFound : Option ℕ → Type 0
      IsTightFound l = IsTightSide b (cell_of bytes) o x h valid is ex ones l × IfSome l (λ n. n ≤ 1000000)

      tight_judged : (n : ℕ) → IsTightCount b (cell_of bytes) o x h n → (l : Option ℕ) × IsTightFound l
      tight_judged n (tight_of bound) = (
        Some n,
        (record { bound = bound; loud = tt; unsure = tt }, small b (cell_of bytes) o x h n bound),
      )
      tight_judged n (none_tight loud never is_none) =
          (None, (record { bound = tt; loud = loud; unsure = never }, tt))

      less_of : (l r : Option ℕ) → IsTightFound l → IsErrorFound r → (n : ℕ) × IsCellCount b (cell_of bytes) o x h n
      less_of None None t e =
          (1000001, of_none (neither b (cell_of bytes) o x h valid is ex ones None None t.0 e.0 refl refl) refl)
      less_of (Some n) None t e = (
        n,
        of_bound (less_is b (cell_of bytes) o x h valid is ex ones (Some n) None n t.0 e.0 (inl refl)
            (omega arith) tt) t.1,
      )
      less_of None (Some m) t e = (
        m,
        of_bound (less_is b (cell_of bytes) o x h valid is ex ones None (Some m) m t.0 e.0 (inr refl) tt
            (omega arith)) e.1,
      )
      less_of (Some n) (Some m) t e = elim (cases_lt m n) [
        | inl less ↦ (
          m,
          of_bound (less_is b (cell_of bytes) o x h valid is ex ones (Some n) (Some m) m t.0 e.0 (inr refl)
              (omega (arith, less)) (omega arith)) e.1,
        )
        | inr more ↦ (
          n,
          of_bound (less_is b (cell_of bytes) o x h valid is ex ones (Some n) (Some m) n t.0 e.0 (inl refl)
              (omega arith) more) t.1,
        )
      ]

pub cell_counts : EachBoxHasATightCount → TightBoundsAreOne → TightBoundsAreSmall → MassesAreInRange
    → CoveredMassesHaveErrors → AnswersAreInRange → EachCellHasACount
cell_counts tight ones small in_range have bounded b bytes o x h valid is ex hh =
    let t = tight b (cell_of bytes) o x h valid is.intervals ex hh in
    let l = tight_judged b bytes o x h valid is ex have in_range bounded ones small t.0 t.1 in
    let r = error_judged b bytes o x h valid is ex have in_range bounded ones in
    less_of b bytes o x h valid is ex have in_range bounded ones small l.0 r.0 l.1 r.1

pub default_bounds : EachCellHasACount → TightBoundsAreOne → MassesAreInRange → CoveredMassesHaveErrors
    → AnswersAreInRange → DefaultsHaveCellBounds
default_bounds counts ones in_range have bounded b bytes o x h valid is ex hh number = by_default x.default refl
  where
    of_count : (n e : ℕ) → IsCellCount b (cell_of bytes) o x h n → IsErrorOnCell b (cell_of bytes) o x h e
        → (n : ℕ) × IsCellBound b (cell_of bytes) o x h n
    of_count n e (of_bound bound small) found = (n, bound)
    of_count n e (of_none none is_none) found = absurd (none e (of_error found))

    by_default : (d : Option Dec) → x.default ≡ d → (n : ℕ) × IsCellBound b (cell_of bytes) o x h n
    by_default None nc = absurd (number nc)
    by_default (Some d) e =
        let found = error_found b bytes o x h valid is ex have in_range bounded ones
        (one_by_default b bytes o x h valid is ex d e) (λ nc. absurd (number nc)) in
        let c = counts b bytes o x h valid is ex hh in
        of_count c.0 found.0 c.1 found.1

-- ---- the cells of a box, the first input's byte rising slowest

abbrev FoundIn : (List ℕ → Type 0) → (List ℕ → Type 0) → List Interval → Type 0
FoundIn Good Bad vs =
    (ns : List ℕ) × Lie vs ns × Bad ns × ((ms : List ℕ) → Lie vs ms → IsBefore ms ns → Good ms)

abbrev AllIn : (List ℕ → Type 0) → List Interval → Type 0
AllIn Good vs = (ns : List ℕ) → Lie vs ns → Good ns

-- all are good, or one is the first that is bad
first_in : (Good Bad : List ℕ → Type 0) (vs : List Interval) → ((ns : List ℕ) → Lie vs ns → Good ns ⊎ Bad ns)
    → AllIn Good vs ⊎ FoundIn Good Bad vs
first_in Good Bad [] judge = elim (judge [] tt) [
  | inl good ↦ inl (all_good good)
  | inr bad ↦ inr ([], tt, bad, none_before)
]
  where
    all_good : Good [] → AllIn Good []
    all_good good [] l = good
    all_good good (m ∷ ms) l = absurd l

    none_before : (ms : List ℕ) → Lie [] ms → IsBefore ms [] → Good ms
    none_before [] l b = absurd b
    none_before (m ∷ ms) l b = absurd b
first_in Good Bad (v ∷ vs) judge =
    all_heads (heads (v.to + 1) (λ n from to. first_in (λ ns. Good (n ∷ ns)) (λ ns. Bad (n ∷ ns)) vs
    (λ ns l. judge (n ∷ ns) (from, to, l))))
  where
    Rest : Type 0
    Rest = (n : ℕ) → v.from ≤ n → n ≤ v.to
        → AllIn (λ ns. Good (n ∷ ns)) vs ⊎ FoundIn (λ ns. Good (n ∷ ns)) (λ ns. Bad (n ∷ ns)) vs

    AllBelow : ℕ → Type 0
    AllBelow k = (n : ℕ) (ns : List ℕ) → n < k → Lie (v ∷ vs) (n ∷ ns) → Good (n ∷ ns)

    one_more : (k : ℕ) → AllBelow k → ((ns : List ℕ) → Lie (v ∷ vs) (k ∷ ns) → Good (k ∷ ns)) → AllBelow (suc k)
    one_more k below here n ns few l = elim (cases_lt n k) [
      | inl less ↦ below n ns less l
      | inr last ↦
          let e : k ≡ n = omega (arith, last, few) in
          subst (λ m. Good (m ∷ ns)) e (here ns (subst (λ m. Lie (v ∷ vs) (m ∷ ns)) (sym e) l))
    ]

    none_before : (k : ℕ) (ns : List ℕ) → AllBelow k → ((ms : List ℕ) → Lie vs ms → IsBefore ms ns → Good (k ∷ ms))
        → (ms : List ℕ) → Lie (v ∷ vs) ms → IsBefore ms (k ∷ ns) → Good ms
    none_before k ns below here [] l before = absurd l
    none_before k ns below here (m ∷ ms) l (inl less) = below m ms less l
    none_before k ns below here (m ∷ ms) l (inr same) =
        subst (λ n. Good (n ∷ ms)) (sym same.0) (here ms l.2 same.1)

    at_head : (k : ℕ) → AllBelow k → Rest → AllBelow (suc k) ⊎ FoundIn Good Bad (v ∷ vs)
    at_head k below rest = elim (cases_lt k v.from) [
      | inl under ↦ inl (one_more k below (λ ns l. absurd (let from = l.0 in omega (arith, under, from))))
      | inr from ↦ elim (cases_lt v.to k) [
        | inl past ↦ inl (one_more k below (λ ns l. absurd (let to = l.1 in omega (arith, past, to))))
        | inr to ↦ elim (rest k from to) [
          | inl all ↦ inl (one_more k below (λ ns l. all ns l.2))
          | inr (ns, l, bad, before) ↦ inr (k ∷ ns, (from, to, l), bad, none_before k ns below before)
        ]
      ]
    ]

    heads : (k : ℕ) → Rest → AllBelow k ⊎ FoundIn Good Bad (v ∷ vs)
    heads zero rest = inl (λ n ns few. absurd (omega arith))
    heads (suc k) rest = elim (heads k rest) [
      | inl below ↦ at_head k below rest
      | inr found ↦ inr found
    ]

    all_of : AllBelow (v.to + 1) → AllIn Good (v ∷ vs)
    all_of below [] l = absurd l
    all_of below (n ∷ ns) l = let to = l.1 in below n ns (omega (arith, to)) l

    all_heads : AllBelow (v.to + 1) ⊎ FoundIn Good Bad (v ∷ vs) → AllIn Good (v ∷ vs) ⊎ FoundIn Good Bad (v ∷ vs)
    all_heads (inl below) = inl (all_of below)
    all_heads (inr found) = inr found

-- ---- their Bounds

module _ (b : Block) (h : ℕ) (box : List Interval) (valid : IsValid b) (is : IsBoxOf b box) (hh : 1 ≤ h)
    (counts : EachCellHasACount) where
  count_of : (ns : List ℕ) → Lie box ns → (o : ℕ) (x : Output) → output_at b o ≡ Some x
      → (n : ℕ) × IsCellCount b (cell_of ns) o x h n
  count_of ns l o x ex =
      let lies = from_lie box ns l in
      counts b ns o x h valid
      (record { count = sym (long ns) ∙ lies.count ∙ is.count; intervals = box_is box ns is.intervals lies }) ex hh

  module _ (o : ℕ) (x : Output) (ex : output_at b o ≡ Some x) where
    abbrev IsAbove : ℕ → List ℕ → Type 0
    IsAbove m ns = (n : ℕ) × IsCellCount b (cell_of ns) o x h n × (m < n)

    within_or : (m n : ℕ) (ns : List ℕ) → m ≤ 1000000 → IsCellCount b (cell_of ns) o x h n
        → IsCellWithin b ns o x h m ⊎ (m < n)
    within_or m n ns few (of_bound bound small) = elim (cases_lt m n) [
      | inl above ↦ inr above
      | inr within ↦ inl (n, bound.bound, within)
    ]
    within_or m n ns few (of_none none is_none) = inr (omega (arith, few, is_none))

    judged : (m : ℕ) → m ≤ 1000000 → (ns : List ℕ) → Lie box ns → IsCellWithin b ns o x h m ⊎ IsAbove m ns
    judged m few ns l =
        let c = count_of ns l o x ex in
        elim (within_or m c.0 ns few c.1) [
          | inl within ↦ inl within
          | inr above ↦ inr (c.0, c.1, above)
        ]

    some_above : (m k n : ℕ) (ns : List ℕ) → IsCellCount b (cell_of ns) o x h n → m < n → IsCellWithin b ns o x h k
        → m < k
    some_above m k n ns (of_bound bound small) above (j, has, few) =
        let least = bound.least j has in omega (arith, above, few, least)
    some_above m k n ns (of_none none is_none) above (j, has, few) = absurd (none j has)

    least_bound : (m : ℕ) → m ≤ 1000000 → CellsAreWithin b box o x h m → (n : ℕ) × IsCellsBound b box o x h n × (n ≤ m)
    least_bound zero few all = (0, record { within = all; least = λ k within. omega arith }, omega arith)
    least_bound (suc m) few all =
        elim (first_in (λ ns. IsCellWithin b ns o x h m) (IsAbove m) box (judged m (omega arith))) [
          | inl less ↦
              let r = least_bound m (omega arith) (λ ns l. less ns (to_lie box ns l)) in
              let le = r.2 in
              (r.0, r.1, omega (arith, le))
          | inr (ns, l, (n, count, above), before) ↦ (
            suc m,
            record {
              within = all;
              least = λ k within. some_above m k n ns count above (within ns (from_lie box ns l));
            },
            omega arith,
          )
        ]

    none_unsure : (n : ℕ) (ns : List ℕ) → Lie box ns → IsCellCount b (cell_of ns) o x h n → 1000000 < n
        → IsUnsureOn b h box o
    none_unsure n ns l (of_bound bound small) above = absurd (omega (arith, small, above))
    none_unsure n ns l (of_none none is_none) above = (
      ns,
      from_lie box ns l,
      subst (λ r. IfSome r (λ x. (n : ℕ) → HasCellBound b (cell_of ns) o x h n → ⊥)) (sym ex) none,
    )

    bounded_or_unsure : ((n : ℕ) × IsCellsBound b box o x h n) ⊎ IsUnsureOn b h box o
    bounded_or_unsure =
        elim (first_in (λ ns. IsCellWithin b ns o x h 1000000) (IsAbove 1000000) box (judged 1000000 (omega arith))) [
          | inl all ↦
              let r = least_bound 1000000 (omega arith) (λ ns l. all ns (to_lie box ns l)) in inl (r.0, r.1)
          | inr (ns, l, (n, count, above), before) ↦ inr (none_unsure n ns l count above)
        ]

  -- ---- of several outputs

  module _ (limits : List ℕ) (p q : ℕ) (few : (k : ℕ) → slice_index limits k ≤ 1000000) where
    abbrev AreWithin : ℕ → List ℕ → Type 0
    AreWithin k ns =
        (j : ℕ) → p ≤ j → j < k → IfSome (output_at b j) (λ x. IsCellWithin b ns j x h (number_of limits j))

    abbrev IsFirstAt : List ℕ → Type 0
    IsFirstAt ns =
        (o : ℕ) × (n : ℕ) × (p ≤ o) × (o ≤ q) × IfSome (output_at b o) (λ x. IsCellCount b (cell_of ns) o x h n)
        × (number_of limits o < n) × AreWithin o ns

    one_output : (k : ℕ) (ns : List ℕ) → AreWithin k ns
        → IfSome (output_at b k) (λ x. IsCellWithin b ns k x h (number_of limits k)) → AreWithin (suc k) ns
    one_output k ns before here j from l = elim (cases_lt j k) [
      | inl less ↦ before j from less
      | inr last ↦
          let e : k ≡ j = omega (arith, last, l) in
          subst (λ i. IfSome (output_at b i) (λ x. IsCellWithin b ns i x h (number_of limits i))) e here
    ]

    at_output : (k : ℕ) (ns : List ℕ) → Lie box ns → k ≤ q → AreWithin k ns → AreWithin (suc k) ns ⊎ IsFirstAt ns
    at_output k ns l to before = elim (cases_lt k p) [
      | inl under ↦ inl (λ j from less. absurd (omega (arith, under, from, less)))
      | inr from ↦ by_output from (output_at b k) refl
    ]
      where
        by_output : p ≤ k → (r : Option Output) → output_at b k ≡ r → AreWithin (suc k) ns ⊎ IsFirstAt ns
        by_output from None e =
            inl (one_output k ns before
            (subst (λ r. IfSome r (λ x. IsCellWithin b ns k x h (number_of limits k))) (sym e) tt))
        by_output from (Some x) e = elim (judged k x e (number_of limits k) (few (k - 1)) ns l) [
          | inl within ↦ inl (one_output k ns before
              (subst (λ r. IfSome r (λ x. IsCellWithin b ns k x h (number_of limits k))) (sym e) within))
          | inr (n, count, above) ↦ inr (
            k,
            n,
            from,
            to,
            subst (λ r. IfSome r (λ x. IsCellCount b (cell_of ns) k x h n)) (sym e) count,
            above,
            before,
          )
        ]

    outputs : (k : ℕ) (ns : List ℕ) → Lie box ns → k ≤ q + 1 → AreWithin k ns ⊎ IsFirstAt ns
    outputs zero ns l to = inl (λ j from less. absurd (omega arith))
    outputs (suc k) ns l to = elim (outputs k ns l (omega arith)) [
      | inl before ↦ at_output k ns l (omega arith) before
      | inr found ↦ inr found
    ]

    first_or_all : AreCellsBoundsWithin b h limits p q box
        ⊎ ((bytes : List ℕ) × (o : ℕ) × (n : ℕ) × IsFirstCellAbove b h limits p q box bytes o n)
    first_or_all = elim (first_in (AreWithin (q + 1)) IsFirstAt box (λ ns l. outputs (q + 1) ns l (omega arith))) [
      | inl all ↦ inl (λ j x from to e. least_bound j x e (number_of limits j) (few (j - 1)) (λ ns l.
          subst (λ r. IfSome r (λ x. IsCellWithin b ns j x h (number_of limits j))) e
          (all ns (to_lie box ns l) j from (omega arith))))
      | inr (ns, l, (o, n, from, to, count, above, outputs_before), before) ↦ inr (
        ns,
        o,
        n,
        record {
          inside = from_lie box ns l;
          from = from;
          to = to;
          count = count;
          above = above;
          outputs_before = outputs_before;
          cells_before = λ ms lies less j j_from j_to.
              before ms (to_lie box ms lies) less j j_from (omega (arith, j_to));
        },
      )
    ]

pub boxes_bounded : EachCellHasACount → EachBoxHasACellsBound
boxes_bounded counts b h box o x valid is hh ex = bounded_or_unsure b h box valid is hh counts o x ex

pub within_or_above : EachCellHasACount → EachBoxIsWithinOrAbove
within_or_above counts b h limits p q box valid is hh few = first_or_all b h box valid is hh counts limits p q few

pub box_counted : EachBoxHasABestBound → EachBoxHasATightCount → EachBoxHasACount
box_counted best tight kind.Named b box o x h valid is ex hh = best b box o x h valid is
box_counted best tight kind.Tight b box o x h valid is ex hh = tight b box o x h valid is ex hh
