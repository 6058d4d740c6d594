-- On boxes that differ in inputs that don't matter alone each rule reaches as far, with the same errors.
use Rattle.std.proofs.Common.{◌≡◌, ⊎_elim, ◌⊎◌, inl, inr, ℕ, ◌+◌, ◌-◌, ◌*◌, ◌/◌, ◌<◌, ◌≤◌, max, Bool, true, false, not}
use Rattle.std.proofs.Common.{zero, suc, List, [], ◌∷◌, length, get_or, Some, refl, sym, ap, ap₂, ◌∙◌}
use Rattle.std.proofs.Common.{subst, arith}
use Rattle.std.proofs.{lemmas.Option.slice_get-get_or, lemmas.Bool.Decides.nat_tests}
use Rattle.std.specs.Prelude.{◌==◌, ◌&&◌, ◌||◌, nat_lt, slice_get, All, if◌then◌else◌}
use Rattle.std.specs.{Option.option_map_or, List.list_any}
use Rattle.fz_list.proofs.Algebra.{All-slice_get, some_at, IsSomeAnd-some, IsSomeAnd-within}
use Rattle.fz_num.specs.Fractions.{Fraction, IsProper, AtMost, IsNear, up_div, one_minus, none}
use Rattle.fz_num.specs.{declared.dec.Dec.Dec, Decimals.distance}
use Rattle.fz_num.proofs.Algebra.{AtMost-trans, IsNear-between}
use Rattle.fuzzy_meaning.specs.Blocks.{IsValid, IsValidInput, IsValidTerm, IsValidRule, HasTerm, input_at}
use Rattle.fuzzy_meaning.specs.Conditions.{Condition, is, negation, all, any, Conditions, end, also, HasLiterals}
use Rattle.fuzzy_meaning.specs.Conditions.{SomeHaveLiterals, AllHaveLiterals, evaluate_parts}
use Rattle.fuzzy_meaning.specs.{declared.block.Block.Block, declared.block.Input.Input, declared.block.Rule.Rule}
use Rattle.fuzzy_meaning.specs.{declared.block.Trapezoid.Trapezoid, declared.block.Output.Output}
use Rattle.fuzzy_meaning.specs.{Meaning.concludes, Meaning.weight_of, Places.points_of, Places.degree_at}
use Rattle.fuzzy_meaning.proofs.Algebra.{evaluate-related, AreJoinsRelated}
use Rattle.fuzzy_meaning.specs.{Conditions.levels, Meaning.truths}
use Rattle.byte_scaling.specs.{Cells.cell_start, Weights.weight_byte_of}
use Rattle.point_slope.specs.Tables.{row_of, grade_of}
use Rattle.error_bound.specs.{declared.boxes.Interval.Interval, Boxes.IsBox, Laws.IsInside, Spans.Span, Spans.only}
use Rattle.error_bound.specs.Boxes.{literal_span, literal_byte_span, degrees_over, grades_over, rule_span}
use Rattle.error_bound.specs.Boxes.{rule_byte_span}
use Rattle.error_bound.specs.{Spans.reversed, Spans.spans, Spans.greatest, Spans.deviation, Flattening.IsSame}
use Rattle.error_bound.specs.Errors.{billion, Covers, IsTermDeviation, AreTermErrors, rule_rise, rule_fall}
use Rattle.error_bound.specs.Errors.{weight_error}
use Rattle.error_bound.specs.{Errors.floor_error, CellErrors.term_deviation, CellErrors.term_errors, Leaves.IsStill}
use Rattle.error_bound.specs.Flattening.{AreSame}
use Rattle.error_bound.specs.Matters.{some_literal, is_spread, asks_for, matters, AreAlike}
use Rattle.error_bound.specs.Matters.{AlikeBoxesHaveOneBound, AlikeBoxesHaveOneRange, AlikeBoxesHaveOneGrade}
use Rattle.error_bound.specs.Tight.{is_still, if_moving, low_part, high_part, greatest_of, low_of, high_of, rise_of}
use Rattle.error_bound.specs.Tight.{byte_low_of, byte_high_of, fall_of, if_live, live_offset, ranges_at, deviations_at}
use Rattle.error_bound.specs.Tight.{byte_ranges, deviations, scale, sure_sum, sure_bytes, IsSureBound, IsSure}
use Rattle.error_bound.specs.Tight.{IsTightBound, silent as tight_silent, sure, sum_over, greatest_over}
use Rattle.error_bound.specs.{MassRanges.ranges, Bounds.offset, Leaves.Holds, Leaves.strong, Leaves.silent}
use Rattle.error_bound.specs.Best.{silent_leaf}
use Rattle.cell_error.specs.declared.{ranges.MassRange.MassRange, ranges.Deviation.Deviation, means.Scale.Scale}
use Rattle.cell_error.specs.Means.{IsMeanError}
use Rattle.error_bound.proofs.SpanLemmas.{AreOrdered, same, minus_ordered, nothing_degree, truths_same}
use Rattle.error_bound.proofs.Nested.{IsNarrow, by_input as literal_narrow}
use Rattle.error_bound.proofs.TightLemmas.{IsSomewhere, start_in, by_input as somewhere}
use Rattle.error_bound.proofs.StillLemmas.{IsStill-inside, still_parts}
use Rattle.error_bound.proofs.TightLawLemmas.{both_tests, low_part-same, up-mono, back_same, test-same}
use Rattle.error_bound.proofs.RuleLemmas.{least_to_greatest, times_same, none_same, IsStill-test}
use Rattle.error_bound.proofs.Literals.{at_place, width_pos, term_deviation-are, term_errors-are}
use Rattle.error_bound.proofs.FlatteningLemmas.{at_literal-holds}

both_false : (c d : Bool) → (c || d) ≡ false → (c ≡ false) × (d ≡ false)
both_false true d h = absurd (let z : ⊥ = cc in z)
both_false false d h = (refl, h)

-- ---- the literals of a rule that is not still: the input matters, or the term is not spread

self_test : (i : ℕ) (c : Bool) → ((i == i) && c) ≡ false → c ≡ false
self_test i c h = let e : (i == i) ≡ true = grind (arith, nat_tests) in sym (ap (λ d. d && c) e) ∙ h

by_cases : (c : Bool) → (c ≡ true) ⊎ (c ≡ false)
by_cases true = inl refl
by_cases false = inr refl

module _ {P A : ℕ → ℕ → Type 0} (m : ℕ → Bool) (s : ℕ → ℕ → Bool)
    (of : (i t : ℕ) → P i t → (m i ≡ true) ⊎ (s i t ≡ false) → A i t) where
  -- no literal of an input that doesn't matter is spread
  abbrev AreStill : (ℕ → Bool) → Type 0
  AreStill asks = (i : ℕ) → m i ≡ false → asks i ≡ false

  abbrev some_of : Bool → Conditions → ℕ → Bool
  some_of or cs i =
      evaluate_parts (λ c. c) (record { none = λ any. false; join = λ any. ◌||◌ }) (λ j t. (j == i) && s j t) or cs

  mutual
    chosen : (c : Condition) → HasLiterals P c
        → AreStill (λ i. some_literal (λ j t. (j == i) && s j t) c) → HasLiterals A c
    chosen (is i t) h none_asks = of i t h (⊎_elim
        (λ (e : m i ≡ true). inl e)
        (λ (e : m i ≡ false). inr (self_test i (s i t) (none_asks i e)))
        (by_cases (m i)))
    chosen (negation c) h none_asks = chosen c h none_asks
    chosen (all cs) h none_asks = some_chosen false cs h none_asks
    chosen (any cs) h none_asks = some_chosen true cs h none_asks

    some_chosen : (or : Bool) (cs : Conditions) → SomeHaveLiterals P cs → AreStill (some_of or cs)
        → SomeHaveLiterals A cs
    some_chosen or end h none_asks = absurd h
    some_chosen or (also c cs) h none_asks = (
      chosen c h.0 (λ i e. (both_false _ _ (none_asks i e)).0),
      all_chosen or cs h.1 (λ i e. (both_false _ _ (none_asks i e)).1),
    )

    all_chosen : (or : Bool) (cs : Conditions) → AllHaveLiterals P cs → AreStill (some_of or cs)
        → AllHaveLiterals A cs
    all_chosen or end h none_asks = tt
    all_chosen or (also c cs) h none_asks = (
      chosen c h.0 (λ i e. (both_false _ _ (none_asks i e)).0),
      all_chosen or cs h.1 (λ i e. (both_false _ _ (none_asks i e)).1),
    )

-- a rule that is not still asks for no spread term of an input that doesn't matter
list_any-false : {X : Type 0} (p : X → Bool) (xs : List X) → list_any p xs ≡ false → All (λ x. p x ≡ false) xs
list_any-false p [] h k d l = absurd (omega arith)
list_any-false p (x ∷ xs) h zero d l = (both_false (p x) (list_any p xs) h).0
list_any-false p (x ∷ xs) h (suc k) d l = list_any-false p xs (both_false (p x) (list_any p xs) h).1 k d (omega arith)

none_asked : (asks still : Bool) → (asks && not still) ≡ false → still ≡ false → asks ≡ false
none_asked asks true h e = absurd (let z : ⊥ = cc in z)
none_asked true false h e = h
none_asked false false h e = refl

-- ---- a term that is not spread has one degree and one grade

apart-flat : (l h : Fraction) → nat_lt (l.num * h.den) (h.num * l.den) ≡ false → AtMost h l
apart-flat l h e = record { cross = grind (arith, nat_tests) }

grades-flat : (l h : ℕ) → nat_lt l h ≡ false → h ≤ l
grades-flat l h e = grind (arith, nat_tests)

between_both : {l f h : Fraction} → AtMost h l → AreOrdered l f → AreOrdered f h → IsSame f l
between_both {l} {f} {h} flat a b = record {
  left = a.right;
  right = a.left;
  below = AtMost-trans f h l b.right b.below flat;
  above = a.below;
}

same_trans : {f g h : Fraction} → IsSame f g → IsSame g h → IsSame f h
same_trans {f} {g} {h} a b = record {
  left = a.left;
  right = b.right;
  below = AtMost-trans f g h a.right a.below b.below;
  above = AtMost-trans h g f a.right b.above a.above;
}

span_is : {s r : Span ℕ} → s.low ≡ r.low → s.high ≡ r.high → s ≡ r
span_is h k = ap₂ (λ m n. let s : Span ℕ = record { low = m; high = n } in s) h k

both_ways : {m n : ℕ} → m ≤ n → n ≤ m → m ≡ n
both_ways h k = omega arith

-- the spans of a literal on two boxes
record HaveOneReach (b : Block) (small other : List Interval) (i t : ℕ) : Type 0 where
  span : AreSame IsSame (literal_span b small i t) (literal_span b other i t)
  bytes : literal_byte_span b small i t ≡ literal_byte_span b other i t

module _ (b : Block) (box small : List Interval) (valid : IsValid b) (count : length box ≡ length b.inputs)
    (inside : IsInside small box) (small_is : IsBox small) (i t : ℕ) (flat : is_spread b box i t ≡ false) where
  flat_degrees : AtMost (literal_span b box i t).high (literal_span b box i t).low
  flat_degrees = apart-flat (literal_span b box i t).low (literal_span b box i t).high (both_false _ _ flat).0

  flat_grades : (literal_byte_span b box i t).high ≤ (literal_byte_span b box i t).low
  flat_grades =
      grades-flat (literal_byte_span b box i t).low (literal_byte_span b box i t).high (both_false _ _ flat).1

  narrow : IsNarrow (literal_span b small i t) (literal_span b box i t) (literal_byte_span b small i t)
      (literal_byte_span b box i t)
  narrow = literal_narrow b small box valid count inside small_is i t (input_at b i) refl

  -- on a box inside, each has the low end of the box around
  one_degree : AreSame IsSame (literal_span b small i t)
      (let s : Span Fraction = record { low = (literal_span b box i t).low; high = (literal_span b box i t).low } in s)
  one_degree =
      let q = literal_span b box i t in
      let s = literal_span b small i t in
      let n = narrow.span in
      let small_count = inside.count ∙ count in
      let f = somewhere b small valid small_count small_is i t (input_at b i) refl in
      let top = ordered_trans f.1.high n.high in
      record {
        low = between_both flat_degrees n.low (ordered_trans f.1.low top);
        high = between_both flat_degrees (ordered_trans n.low (ordered_trans f.1.low f.1.high)) n.high;
      }
    where
      ordered_trans : {f g h : Fraction} → AreOrdered f g → AreOrdered g h → AreOrdered f h
      ordered_trans {f} {g} {h} a c = record {
        left = a.left;
        right = c.right;
        below = AtMost-trans f g h a.right a.below c.below;
      }

  one_grade : ((literal_byte_span b small i t).low ≡ (literal_byte_span b box i t).low)
      × ((literal_byte_span b small i t).high ≡ (literal_byte_span b box i t).low)
  one_grade =
      let n = narrow.byte_span in
      let order = at_literal-holds b small (λ m. m.low ≤ m.high) grades_over (only 0) (omega arith)
      (λ x term v. least_to_greatest (grade_of (row_of x term)) v.from (v.to - v.from)) i t in
      let a = n.low in
      let c = n.high in
      let d = flat_grades in
      (omega arith, omega arith)

-- the nearness of one grade to one degree is that of the other
near_same : (r d m n : ℕ) (f h : Fraction) → m ≡ n → IsSame f h → IsNear billion m f r d → IsNear billion n h r d
near_same r d m n f h e s near = subst (λ k. IsNear billion k h r d) e
    (IsNear-between billion m r d r d f h f s.left s.left s.below s.above near near)

-- of a term over two intervals inside one on which it is not spread
module _ (x : Input) (term : Trapezoid) (w u v : Interval) (vx : IsValidInput x) (vt : IsValidTerm x.lo x.hi term)
    (some : u.from ≤ u.to) (ordered : w.from ≤ w.to) (uf : w.from ≤ u.from) (ut : u.to ≤ w.to) (vf : w.from ≤ v.from)
    (vto : v.to ≤ w.to) (flat : AtMost (degrees_over x term w).high (degrees_over x term w).low)
    (grades : (grades_over x term w).high ≤ (grades_over x term w).low) where
  -- what covers the errors over one does over the other
  covers_moved : (e : Span ℕ) → Covers x term u e → Covers x term v e
  covers_moved e c n from to y in_cell =
      let g = grade_of (row_of x term) in
      let d = distance x.lo x.hi in
      let hw = width_pos x vx in
      let er = term_deviation-are x term w vx vt ordered in
      let start = cell_start d u.from in
      let there = start_in d u.from hw in
      let near = c u.from (omega arith) some start there in
      let a = at_place x term w u.from (term_deviation x term w) start er hw uf (omega arith) there in
      let b = at_place x term w n (term_deviation x term w) y er hw (omega arith) (omega arith) in_cell in
      let a0 = a.ordered.low in
      let a1 = a.ordered.high in
      let b0 = b.ordered.low in
      let b1 = b.ordered.high in
      let low_a = between_both flat a.between.low a.between.high in
      let low_b = between_both flat b.between.low b.between.high in
      near_same e.high e.low (g u.from) (g n) (degree_at (points_of x term) start) (degree_at (points_of x term) y)
      (omega arith) (same_trans low_a (back_same _ _ low_b)) near

deviation_same : (x : Input) (term : Trapezoid) (u v : Interval) (e f : Span ℕ)
    → ((g : Span ℕ) → Covers x term u g → Covers x term v g) → ((g : Span ℕ) → Covers x term v g → Covers x term u g)
    → IsTermDeviation x term u e → IsTermDeviation x term v f → e ≡ f
deviation_same x term u v e f there back p q =
    let l = p.least f (back f q.covers) in
    let m = q.least e (there e p.covers) in
    span_is (both_ways l.0 m.0) (both_ways l.1 m.1)

-- ---- what NOT, AND and OR make of spans that are the same

minus_same : (f g : Fraction) → IsSame f g → IsSame (one_minus f) (one_minus g)
minus_same f g s =
    let there = minus_ordered g f (record { left = s.right; right = s.left; below = s.above }) in
    let back = minus_ordered f g (record { left = s.left; right = s.right; below = s.below }) in
    record { left = there.left; right = there.right; below = there.below; above = back.below }

turned : (s r : Span Fraction) → AreSame IsSame s r
    → AreSame IsSame (reversed one_minus s) (reversed one_minus r)
turned s r h = record { low = minus_same s.high r.high h.high; high = minus_same s.low r.low h.low }

joined : AreJoinsRelated (AreSame IsSame) (spans truths) (spans truths)
joined = record {
  none = λ or. let e = same (truths.none or) (nothing_degree or).proper in record { low = e; high = e };
  join = λ or a c b d h k. record {
    low = truths_same or a.low c.low b.low d.low h.low k.low;
    high = truths_same or a.high c.high b.high d.high h.high k.high;
  };
}

-- ---- the greatest and the sum of the same numbers

greatest-same : (f g : Rule → ℕ) (o t : ℕ) (rs : List Rule) → All (λ r. f r ≡ g r) rs
    → greatest_of f o t rs ≡ greatest_of g o t rs
greatest-same f g o t [] h = refl
greatest-same f g o t (r ∷ rs) h = ap₂ (λ m n. if concludes r o t then max m n else n) (h 0 r (omega arith))
    (greatest-same f g o t rs (λ k d l. h (suc k) d (omega arith)))

ranges_at-same : (f f' g g' : ℕ → ℕ) (lo : Dec) → ((k : ℕ) → f k ≡ f' k) → ((k : ℕ) → g k ≡ g' k) → (k : ℕ)
    (us : List Dec) → ranges_at f g lo k us ≡ ranges_at f' g' lo k us
ranges_at-same f f' g g' lo hf hg k [] = refl
ranges_at-same f f' g g' lo hf hg k (u ∷ us) =
    ap₂ (λ (t : MassRange) (ts : List MassRange). t ∷ ts)
    (ap₂ (λ (m n : ℕ). let t : MassRange = record { at = distance lo u; low = m; high = n } in t) (hf k) (hg k))
    (ranges_at-same f f' g g' lo hf hg (k + 1) us)

deviations_at-same : (f f' g g' : ℕ → ℕ) → ((k : ℕ) → f k ≡ f' k) → ((k : ℕ) → g k ≡ g' k) → (k : ℕ) (us : List Dec)
    → deviations_at f g k us ≡ deviations_at f' g' k us
deviations_at-same f f' g g' hf hg k [] = refl
deviations_at-same f f' g g' hf hg k (u ∷ us) =
    ap₂ (λ (d : Deviation) (ds : List Deviation). d ∷ ds)
    (ap₂ (λ (m n : ℕ). let d : Deviation = record { rise = m; fall = n } in d) (hf k) (hg k))
    (deviations_at-same f f' g g' hf hg (k + 1) us)

sum_over-same : (f g : ℕ → Dec → ℕ) → ((t : ℕ) (u : Dec) → f t u ≡ g t u) → (t : ℕ) (us : List Dec)
    → sum_over f t us ≡ sum_over g t us
sum_over-same f g h t [] = refl
sum_over-same f g h t (u ∷ us) = ap₂ (λ a c. a + c) (h t u) (sum_over-same f g h (t + 1) us)

greatest_over-same : (f g : ℕ → Dec → ℕ) → ((t : ℕ) (u : Dec) → f t u ≡ g t u) → (t : ℕ) (us : List Dec)
    → greatest_over f t us ≡ greatest_over g t us
greatest_over-same f g h t [] = refl
greatest_over-same f g h t (u ∷ us) = ap₂ (λ a c. max a c) (h t u) (greatest_over-same f g h (t + 1) us)

-- ---- a literal of an input whose intervals are the same, or of a term that is not spread

abbrev IsChosen : Block → List Interval → List Interval → List Interval → ℕ → ℕ → Type 0
IsChosen b box small other i t =
    (slice_get small (i - 1) ≡ slice_get other (i - 1)) ⊎ (is_spread b box i t ≡ false)

span_to_itself : (b : Block) (box : List Interval) (i t : ℕ) → IsSomewhere b box i t
    → AreSame IsSame (literal_span b box i t) (literal_span b box i t)
span_to_itself b box i t f = record {
  low = same (literal_span b box i t).low f.1.low.left;
  high = same (literal_span b box i t).high f.1.high.right;
}

module _ (b : Block) (box small other : List Interval) (valid : IsValid b) (count : length box ≡ length b.inputs)
    (alike : AreAlike b box small other) where
  by_interval : (i t : ℕ) → slice_get small (i - 1) ≡ slice_get other (i - 1) → HaveOneReach b small other i t
  by_interval i t e =
      let small_count = alike.small_inside.count ∙ count in
      let f = somewhere b small valid small_count alike.small_is i t (input_at b i) refl in
      let degrees : literal_span b small i t ≡ literal_span b other i t =
      ap (λ o. option_map_or (λ x. option_map_or (λ term. option_map_or (degrees_over x term) o (only none))
      (slice_get x.terms (t - 1)) (only none)) (input_at b i) (only none)) e in
      record {
        span = subst (λ s. AreSame IsSame (literal_span b small i t) s) degrees (span_to_itself b small i t f);
        bytes = ap (λ o. option_map_or (λ x. option_map_or (λ term. option_map_or (grades_over x term) o (only 0))
            (slice_get x.terms (t - 1)) (only 0)) (input_at b i) (only 0)) e;
      }

  by_flat : (i t : ℕ) → is_spread b box i t ≡ false → HaveOneReach b small other i t
  by_flat i t flat =
      let a = one_degree b box small valid count alike.small_inside alike.small_is i t flat in
      let c = one_degree b box other valid count alike.other_inside alike.other_is i t flat in
      let m = one_grade b box small valid count alike.small_inside alike.small_is i t flat in
      let n = one_grade b box other valid count alike.other_inside alike.other_is i t flat in
      record {
        span = record {
          low = same_trans a.low (back_same _ _ c.low);
          high = same_trans a.high (back_same _ _ c.high);
        };
        bytes = span_is (m.0 ∙ sym n.0) (m.1 ∙ sym n.1);
      }

  one_reach : (i t : ℕ) → IsChosen b box small other i t → HaveOneReach b small other i t
  one_reach i t = ⊎_elim (by_interval i t) (by_flat i t)

  -- and one fall and rise
  module _ (e f : ℕ → ℕ → Span ℕ) (es : AreTermErrors b small e) (fs : AreTermErrors b other f) where
    literal_deviation : (i t : ℕ) → HasTerm b i t × IsChosen b box small other i t → e i t ≡ f i t
    literal_deviation i t (has, chosen) =
        let in_block : i - 1 < length b.inputs =
        IsSomeAnd-within (λ x. t ≤ length x.terms) b.inputs (i - 1) has.term_to in
        let x = some_at b.inputs (i - 1) in_block in
        let few : t ≤ length x.0.terms =
        IsSomeAnd-some (λ y. t ≤ length y.terms) (slice_get b.inputs (i - 1)) x.0 x.1 has.term_to in
        let from = has.term_from in
        let c1 = alike.small_inside.count in
        let c2 = alike.other_inside.count in
        let term = some_at x.0.terms (t - 1) (omega arith) in
        let u = some_at small (i - 1) (omega arith) in
        let v = some_at other (i - 1) (omega arith) in
        let w = some_at box (i - 1) (omega arith) in
        let p = es.error i t x.0 term.0 u.0 x.1 term.1 u.1 in
        let q = fs.error i t x.0 term.0 v.0 x.1 term.1 v.1 in
        ⊎_elim
        (λ (s : slice_get small (i - 1) ≡ slice_get other (i - 1)). (
        let one : u.0 ≡ v.0 = (let a = u.1 in let d = v.1 in cc) in
        let moved = subst (λ y. IsTermDeviation x.0 term.0 y (e i t)) one p in
        deviation_same x.0 term.0 v.0 v.0 (e i t) (f i t) (λ g c. c) (λ g c. c) moved q))
        (λ (flat : is_spread b box i t ≡ false). by_cover i t x.0 term.0 u.0 v.0 w.0 x.1 term.1 u.1 v.1 w.1 flat p q)
        chosen
      where
        by_cover : (i t : ℕ) (x : Input) (term : Trapezoid) (u v w : Interval) → input_at b i ≡ Some x
            → slice_get x.terms (t - 1) ≡ Some term → slice_get small (i - 1) ≡ Some u
            → slice_get other (i - 1) ≡ Some v → slice_get box (i - 1) ≡ Some w → is_spread b box i t ≡ false
            → IsTermDeviation x term u (e i t) → IsTermDeviation x term v (f i t) → e i t ≡ f i t
        by_cover i t x term u v w ex et eu ev ew flat p q =
            let vx : IsValidInput x = All-slice_get IsValidInput b.inputs (i - 1) x valid.inputs ex in
            let vt : IsValidTerm x.lo x.hi term =
            All-slice_get (IsValidTerm x.lo x.hi) x.terms (t - 1) term vx.terms et in
            let degrees : AtMost (degrees_over x term w).high (degrees_over x term w).low =
            rw (ex, et, ew) at (flat_degrees b box small valid count alike.small_inside alike.small_is i t flat) in
            let grades : (grades_over x term w).high ≤ (grades_over x term w).low =
            rw (ex, et, ew) at (flat_grades b box small valid count alike.small_inside alike.small_is i t flat) in
            let a = alike.small_inside.within (i - 1) u w eu ew in
            let c = alike.other_inside.within (i - 1) v w ev ew in
            let m = (alike.small_is.some (i - 1) u eu).0 in
            let n = (alike.other_is.some (i - 1) v ev).0 in
            let a0 = a.0 in
            let a1 = a.1 in
            deviation_same x term u v (e i t) (f i t)
            (covers_moved x term w u v vx vt m (omega arith) a.0 a.1 c.0 c.1 degrees grades)
            (covers_moved x term w v u vx vt n (omega arith) c.0 c.1 a.0 a.1 degrees grades) p q

  -- ---- a rule

  -- one that is not still
  module _ (r : Rule) (k : ℕ) (at : slice_get b.rules k ≡ Some r) (moves : is_still b box r ≡ false) where
    literals : HasLiterals (λ i t. HasTerm b i t × IsChosen b box small other i t) r.cond
    literals = chosen (matters b box) (is_spread b box)
        (λ i t has c. (
          has,
          ⊎_elim (λ (e : matters b box i ≡ true). inl (alike.same i has.input_from e))
              (λ (e : is_spread b box i t ≡ false). inr e) c,
        )) r.cond
        (All-slice_get (IsValidRule b) b.rules k r valid.rules at).condition
        (λ i e. none_asked (asks_for b box i r.cond) (is_still b box r)
        (All-slice_get (λ s. (asks_for b box i s.cond && not (is_still b box s)) ≡ false) b.rules k r
        (list_any-false (λ s. asks_for b box i s.cond && not (is_still b box s)) b.rules e) at) moves)

    one_span : AreSame IsSame (rule_span b small r) (rule_span b other r)
    one_span =
        let h = evaluate-related (AreSame IsSame) joined turned
        {P = λ i t. HasTerm b i t × IsChosen b box small other i t} (λ i t h. (one_reach i t h.1).span) r.cond
        literals in
        record { low = times_same _ _ (weight_of r.weight) h.low; high = times_same _ _ (weight_of r.weight) h.high }

    one_byte_span : rule_byte_span b small r ≡ rule_byte_span b other r
    one_byte_span =
        let v = weight_byte_of r.weight + 1 in
        let same_bytes = evaluate-related (λ (s r : Span ℕ). s ≡ r)
        (record {
          none = λ or. refl;
          join = λ or a c b d h k. ap₂ (λ (s r : Span ℕ). (spans (levels 255)).join or s r) h k;
        })
        (λ s r h. ap (reversed (λ n. 255 - n)) h)
        {P = λ i t. HasTerm b i t × IsChosen b box small other i t} (λ i t h. (one_reach i t h.1).bytes) r.cond
        literals in
        ap (λ (s : Span ℕ). let r : Span ℕ = record { low = s.low * v / 256; high = s.high * v / 256 } in r) same_bytes

    one_rule_deviation : (e f : ℕ → ℕ → Span ℕ) → AreTermErrors b small e → AreTermErrors b other f
        → deviation e r.cond ≡ deviation f r.cond
    one_rule_deviation e f es fs = evaluate-related (λ (s r : Span ℕ). s ≡ r)
        (record {
          none = λ or. refl;
          join = λ or a c b d h k. ap₂ (λ (s r : Span ℕ). (spans greatest).join or s r) h k;
        })
        (λ s r h. ap (reversed (λ n. n)) h)
        {P = λ i t. HasTerm b i t × IsChosen b box small other i t} (literal_deviation e f es fs) r.cond literals

  -- it reaches as far on both
  record IsOneRule (r : Rule) : Type 0 where
    low : low_part b small r ≡ low_part b other r
    high : high_part b small r ≡ high_part b other r
    bytes : rule_byte_span b small r ≡ rule_byte_span b other r
    still : IsStill b small r → IsStill b other r
    rise : (e f : ℕ → ℕ → Span ℕ) → AreTermErrors b small e → AreTermErrors b other f
        → if_moving b small r (rule_rise e r) ≡ if_moving b other r (rule_rise f r)
    fall : (e f : ℕ → ℕ → Span ℕ) → AreTermErrors b small e → AreTermErrors b other f
        → if_moving b small r (rule_fall e r) ≡ if_moving b other r (rule_fall f r)

  module _ (r : Rule) (k : ℕ) (at : slice_get b.rules k ≡ Some r) where
    one_moving : is_still b box r ≡ false → IsOneRule r
    one_moving moves =
        let s = one_span r k at moves in
        let m = one_byte_span r k at moves in
        let high_bytes = ap (λ (s : Span ℕ). s.high) m in
        let tests : is_still b small r ≡ is_still b other r = ap₂ (λ c d. c && d)
        (test-same (rule_span b small r).high.num (rule_span b other r).high.num (none_same _ _ s.high)
        (none_same _ _ (back_same _ _ s.high))) (ap (λ n. n == 0) high_bytes) in
        record {
          low = low_part-same (rule_span b small r).low (rule_span b other r).low s.low;
          high = both_ways
              (up-mono (255 * billion) (rule_span b small r).high (rule_span b other r).high s.high.left s.high.right
              s.high.below)
              (up-mono (255 * billion) (rule_span b other r).high (rule_span b small r).high s.high.right s.high.left
              s.high.above);
          bytes = m;
          still = λ h. record {
            high = none_same _ _ s.high h.high;
            byte_high = sym high_bytes ∙ h.byte_high;
          };
          rise = λ e f es fs. ap₂ (λ c (s : Span ℕ). if c then 0 else s.high + weight_error r + floor_error r) tests
              (one_rule_deviation r k at moves e f es fs);
          fall = λ e f es fs. ap₂ (λ c (s : Span ℕ). if c then 0 else s.low + weight_error r) tests
              (one_rule_deviation r k at moves e f es fs);
        }

    still_part : (part : List Interval) → IsInside part box → IsBox part → is_still b box r ≡ true
        → is_still b part r ≡ true
    still_part part inside box_is still =
        let inner = IsStill-inside b part box valid count inside box_is r (IsStill-test b box r still) in
        both_tests (rule_span b part r).high.num (rule_byte_span b part r).high inner.high inner.byte_high

    -- of one that is still on the box all numbers are 0
    nothing : (part : List Interval) → IsInside part box → IsBox part → is_still b box r ≡ true
        → (low_part b part r ≡ 0) × (high_part b part r ≡ 0) × ((rule_byte_span b part r).low ≡ 0)
        × ((rule_byte_span b part r).high ≡ 0)
    nothing part inside box_is still = still_parts b part valid (inside.count ∙ count) box_is r
        (IsStill-test b part r (still_part part inside box_is still))

    one_still : is_still b box r ≡ true → IsOneRule r
    one_still still =
        let a = nothing small alike.small_inside alike.small_is still in
        let c = nothing other alike.other_inside alike.other_is still in
        let in_small = still_part small alike.small_inside alike.small_is still in
        let in_other = still_part other alike.other_inside alike.other_is still in
        record {
          low = a.0 ∙ sym c.0;
          high = a.1 ∙ sym c.1;
          bytes = span_is (a.2 ∙ sym c.2) (a.3 ∙ sym c.3);
          still = λ h. IsStill-test b other r in_other;
          rise = λ e f es fs. ap (λ c. if c then 0 else rule_rise e r) in_small
              ∙ sym (ap (λ c. if c then 0 else rule_rise f r) in_other);
          fall = λ e f es fs. ap (λ c. if c then 0 else rule_fall e r) in_small
              ∙ sym (ap (λ c. if c then 0 else rule_fall f r) in_other);
        }

    one_rule : IsOneRule r
    one_rule = ⊎_elim one_still one_moving (by_cases (is_still b box r))

  each_rule : All (λ r. IsOneRule r) b.rules
  each_rule k d l = one_rule (get_or b.rules k d) k (slice_get-get_or b.rules k d l)

  -- ---- a term, and an output

  one_low : (o t : ℕ) → low_of b small o t ≡ low_of b other o t
  one_low o t = greatest-same (low_part b small) (low_part b other) o t b.rules (λ k d l. (each_rule k d l).low)

  one_high : (o t : ℕ) → high_of b small o t ≡ high_of b other o t
  one_high o t = greatest-same (high_part b small) (high_part b other) o t b.rules (λ k d l. (each_rule k d l).high)

  one_byte_low : (o t : ℕ) → byte_low_of b small o t ≡ byte_low_of b other o t
  one_byte_low o t = greatest-same (λ r. (rule_byte_span b small r).low) (λ r. (rule_byte_span b other r).low) o t
      b.rules (λ k d l. ap (λ (s : Span ℕ). s.low) (each_rule k d l).bytes)

  pub one_byte_high : (o t : ℕ) → byte_high_of b small o t ≡ byte_high_of b other o t
  one_byte_high o t = greatest-same (λ r. (rule_byte_span b small r).high) (λ r. (rule_byte_span b other r).high) o t
      b.rules (λ k d l. ap (λ (s : Span ℕ). s.high) (each_rule k d l).bytes)

  pub one_ranges : (o : ℕ) (x : Output) → ranges b small o x ≡ ranges b other o x
  one_ranges o x = ranges_at-same (λ k. low_of b small o (k + 1)) (λ k. low_of b other o (k + 1))
      (λ k. high_of b small o (k + 1)) (λ k. high_of b other o (k + 1)) x.lo (λ k. one_low o (k + 1))
      (λ k. one_high o (k + 1)) 0 x.singletons

  one_byte_ranges : (o : ℕ) (x : Output) → byte_ranges b small o x ≡ byte_ranges b other o x
  one_byte_ranges o x = ranges_at-same (λ k. byte_low_of b small o (k + 1)) (λ k. byte_low_of b other o (k + 1))
      (λ k. byte_high_of b small o (k + 1)) (λ k. byte_high_of b other o (k + 1)) x.lo (λ k. one_byte_low o (k + 1))
      (λ k. one_byte_high o (k + 1)) 0 x.singletons

  quiet_there : (o : ℕ) → Holds b small o silent_leaf → Holds b other o silent_leaf
  quiet_there o (strong r some from to at strength) = absurd (omega arith)
  quiet_there o (silent rule k every) =
      silent rule k (λ n d l t c. (each_rule n d l).still (every n d l t c))

  module _ (o : ℕ) (x : Output) where
    live : (t n : ℕ) → if_live b small o t n ≡ if_live b other o t n
    live t n = ap (λ m. if m == 0 then 0 else n) (one_byte_high o t)

    one_offset : live_offset b small o x ≡ live_offset b other o x
    one_offset = greatest_over-same _ _ (λ t s. live t (offset x s)) 1 x.singletons

    one_sum : sure_sum b small o x ≡ sure_sum b other o x
    one_sum = sum_over-same _ _ (λ t u. one_low o t) 1 x.singletons

    one_bytes : sure_bytes b small o x ≡ sure_bytes b other o x
    one_bytes = sum_over-same _ _ (λ t u. one_byte_low o t) 1 x.singletons

    one_sure : IsSure b small o x → IsSure b other o x
    one_sure s = record {
      sum = subst (λ n. 1 ≤ n) one_sum s.sum;
      bytes = subst (λ n. 1 ≤ n) one_bytes s.bytes;
    }

    one_scale : (h : ℕ) → scale b small o x h ≡ scale b other o x h
    one_scale h = ap₂ (λ (l d : ℕ).
        let s : Scale = record { width = distance x.lo x.hi; sum = l; offset = d; parts = h } in
        s) one_sum one_offset

    module _ (e f : ℕ → ℕ → Span ℕ) (es : AreTermErrors b small e) (fs : AreTermErrors b other f) where
      one_rise : (t : ℕ) → rise_of b small e o t ≡ rise_of b other f o t
      one_rise t = greatest-same (λ r. if_moving b small r (rule_rise e r)) (λ r. if_moving b other r (rule_rise f r)) o t
          b.rules (λ k d l. (each_rule k d l).rise e f es fs)

      one_fall : (t : ℕ) → fall_of b small e o t ≡ fall_of b other f o t
      one_fall t = greatest-same (λ r. if_moving b small r (rule_fall e r)) (λ r. if_moving b other r (rule_fall f r)) o t
          b.rules (λ k d l. (each_rule k d l).fall e f es fs)

      one_deviations : deviations b small e o x ≡ deviations b other f o x
      one_deviations = deviations_at-same (λ k. rise_of b small e o (k + 1)) (λ k. rise_of b other f o (k + 1))
          (λ k. fall_of b small e o (k + 1)) (λ k. fall_of b other f o (k + 1)) (λ k. one_rise (k + 1))
          (λ k. one_fall (k + 1)) 0 x.singletons

      one_sure_bound : (h n : ℕ) → IsSureBound b small e o x h n → IsSureBound b other f o x h n
      one_sure_bound h n found =
          subst (λ ds. IsMeanError (scale b other o x h) (byte_ranges b other o x) ds n) one_deviations
          (subst (λ ts. IsMeanError (scale b other o x h) ts (deviations b small e o x) n) (one_byte_ranges o x)
          (subst (λ s. IsMeanError s (byte_ranges b small o x) (deviations b small e o x) n) (one_scale h) found))

  one_bound : (o : ℕ) (x : Output) (h n : ℕ) → IsTightBound b small o x h n → IsTightBound b other o x h n
  one_bound o x h n (tight_silent quiet value) = tight_silent (quiet_there o quiet) value
  one_bound o x h n (sure e es s found) =
      let f = term_errors b other in
      let fs = term_errors-are b other valid alike.other_is in
      sure f fs (one_sure o x s) (one_sure_bound o x e f es fs h n found)

-- ---- laws

pub bounds_one : AlikeBoxesHaveOneBound
bounds_one b box small other o x h n valid count alike bound =
    one_bound b box small other valid count alike o x h n bound

pub ranges_one : AlikeBoxesHaveOneRange
ranges_one b box small other o x valid count alike = one_ranges b box small other valid count alike o x

pub grades_one : AlikeBoxesHaveOneGrade
grades_one b box small other o t valid count alike = one_byte_high b box small other valid count alike o t
