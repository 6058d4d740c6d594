-- The tight Bound's parts, the ends of a term's mass, and rules that are still.
use Rattle.std.proofs.Common.{◌≡◌, ⊎_elim, ℕ, zero, suc, ◌+◌, ◌-◌, ◌*◌, ◌/◌, ◌<◌, ◌≤◌, max, Bool, true, false, List}
use Rattle.std.proofs.Common.{[], ◌∷◌, length, get_or, Some, refl, sym, subst, ap, ap₂, ◌∙◌, arith, mul-le-mul_right}
use Rattle.std.proofs.Common.{mul-pos}
use Rattle.std.proofs.{Common.Option, Common.None, Common.le_of_mul-le-mul_right, lemmas.Option.slice_get_within}
use Rattle.std.proofs.{lemmas.Nat.mul-le, lemmas.Nat.le-div, lemmas.Bool.cases_lt, lemmas.Int.ints}
use Rattle.std.specs.Prelude.{All, ◌==◌, slice_get, ◌<ℤ◌, IfSome, if◌then◌else◌}
use Rattle.fz_list.proofs.Algebra.{All-slice_get, All-none, All-cons, IsSomeAnd-some, some_at}
use Rattle.fz_num.specs.Fractions.{Fraction, over, IsProper, AtMost, greater, none, up_div, lesser}
use Rattle.fz_num.specs.{declared.dec.Dec.Dec, Decimals.distance}
use Rattle.fuzzy_meaning.specs.Blocks.{IsValid, IsValidRule, IsWithin, HasSingleton, output_at, IsValidOutput}
use Rattle.fuzzy_meaning.specs.Meaning.{concludes, literal_degree, strength, mass_among, weight_of}
use Rattle.fuzzy_meaning.specs.Conditions.{Condition, Conditions, all, also, conditions}
use Rattle.fuzzy_meaning.specs.{Blocks.IsValidInput, Blocks.IsWeight, Blocks.input_at, declared.block.Output.Output}
use Rattle.fuzzy_meaning.specs.{declared.block.Trapezoid.Trapezoid, Places.points_of, Places.degree_at}
use Rattle.fuzzy_meaning.specs.{declared.block.Block.Block, declared.block.Input.Input, declared.block.Rule.Rule}
use Rattle.error_bound.specs.Errors.{billion, rule_error, rule_rise, rule_fall, output_error, output_error_among}
use Rattle.error_bound.specs.Errors.{IsTermDeviation}
use Rattle.cell_error.specs.declared.{ranges.MassRange.MassRange, ranges.Deviation.Deviation}
use Rattle.cell_error.specs.{Errors.total, Errors.weighted, Means.pull, Means.up, Means.down, Means.IsOrdered}
use Rattle.cell_error.specs.{Means.MeansHaveErrors, Errors.sure_mass}
use Rattle.error_bound.specs.Tight.{greatest_of, sum_over, greatest_over, low_part, is_still, if_moving, low_of}
use Rattle.error_bound.specs.Tight.{byte_low_of, byte_high_of, rise_of, fall_of, if_live, live_offset, sure_sum}
use Rattle.error_bound.specs.Tight.{ranges_at, deviations_at, byte_ranges, deviations, scale, IsSureBound}
use Rattle.error_bound.specs.Boxes.{rule_span, rule_byte_span, IsBox, literal_span, literal_byte_span, grades_over}
use Rattle.error_bound.specs.Bounds.{errors_from, strong_bound, ratio_bound, offset, greatest_offset}
use Rattle.error_bound.specs.Tight.{sure_bytes, IsSure, high_part}
use Rattle.error_bound.specs.{Leaves.IsStrong, Leaves.IsStill, Leaves.concludes_some, declared.boxes.Interval.Interval}
use Rattle.error_bound.specs.{CellErrors.term_deviation, CellErrors.term_errors}
use Rattle.error_bound.specs.{Spans.Span, Spans.only, Spans.span, Spans.byte_span, Errors.AreTermErrors}
use Rattle.error_bound.specs.{Reaches.IsNowhere, Best.IsCandidate}
use Rattle.error_bound.proofs.RuleLemmas.{rule_low_proper, bytes_ordered, term_held, rule_within, times_ordered}
use Rattle.error_bound.proofs.RuleLemmas.{none_below}
use Rattle.error_bound.proofs.SpanLemmas.{IsBetween, AreOrdered, ordered-refl, between, truths_monotone}
use Rattle.error_bound.proofs.Literals.{IsWithinSpans, term_errors-are, at_place, width_pos, least_le}
use Rattle.error_bound.proofs.CellErrors.{le_greatest}
use Rattle.error_bound.proofs.FlatteningLemmas.{span_to_itself, at_literal-holds}
use Rattle.error_bound.proofs.{RuleLemmas.scaled-mono, Shares.concluded, Shares.within_width}
use Rattle.error_bound.proofs.{SpanLemmas.levels_monotone, LeafLemmas.candidate-rule}
use Rattle.fz_num.proofs.Algebra.{by_greater, le-up_div, AtMost-refl, AtMost-lesser_left, AtMost-lesser_right}
use Rattle.byte_scaling.specs.{Cells.IsInCell, Cells.cell_start, Cells.inside, Weights.weight_byte_of}
use Rattle.point_slope.specs.{Tables.row_of, Tables.grade_of, Bytes.literal_grade}

-- ---- the greatest of rules, sums and greatest of terms

max-mono : {a b c d : ℕ} → a ≤ c → b ≤ d → max a b ≤ max c d
max-mono h k = omega arith

pub greatest_of-mono : (f g : Rule → ℕ) (o t : ℕ) (rs : List Rule) → All (λ r. f r ≤ g r) rs
    → greatest_of f o t rs ≤ greatest_of g o t rs
greatest_of-mono f g o t [] h = omega arith
greatest_of-mono f g o t (r ∷ rs) h =
    by_bool (concludes r o t) (h 0 r (omega arith)) (greatest_of-mono f g o t rs (λ k d l. h (suc k) d (omega arith)))
  where
    by_bool : {a b c d : ℕ} → (q : Bool) → a ≤ c → b ≤ d → (if q then max a b else b) ≤ (if q then max c d else d)
    by_bool true p q = max-mono p q
    by_bool false p q = q

pub greatest_of-least : (f : Rule → ℕ) (o t : ℕ) (rs : List Rule) (n : ℕ) (r : Rule) → slice_get rs n ≡ Some r
    → concludes r o t ≡ true → f r ≤ greatest_of f o t rs
greatest_of-least f o t [] n r e c = absurd (let z : ⊥ = cc in z)
greatest_of-least f o t (s ∷ rs) zero r e c =
    let same : s ≡ r = cc in
    let cs : concludes s o t ≡ true = subst (λ q. concludes q o t ≡ true) (sym same) c in
    subst (λ q. f q ≤ greatest_of f o t (s ∷ rs)) same (rw cs (left (f s) (greatest_of f o t rs)))
  where
    left : (a b : ℕ) → a ≤ max a b
    left a b = omega arith
greatest_of-least f o t (s ∷ rs) (suc n) r e c =
    more (f s) (concludes s o t) (greatest_of-least f o t rs n r e c)
  where
    more : {b m : ℕ} (a : ℕ) (q : Bool) → m ≤ b → m ≤ (if q then max a b else b)
    more a true h = omega arith
    more a false h = h

pub sum_over-mono : {P : Dec → Type 0} (f g : ℕ → Dec → ℕ) → ((t : ℕ) (u : Dec) → P u → f t u ≤ g t u) → (t : ℕ)
    (us : List Dec) → All P us → sum_over f t us ≤ sum_over g t us
sum_over-mono f g h t [] each = omega arith
sum_over-mono f g h t (u ∷ us) each =
    both (h t u (each 0 u (omega arith))) (sum_over-mono f g h (t + 1) us (λ k d l. each (suc k) d (omega arith)))
  where
    both : {p q r s : ℕ} → p ≤ q → r ≤ s → p + r ≤ q + s
    both h k = omega arith

pub greatest_over-mono : {P : Dec → Type 0} (f g : ℕ → Dec → ℕ) → ((t : ℕ) (u : Dec) → P u → f t u ≤ g t u)
    → (t : ℕ) (us : List Dec) → All P us → greatest_over f t us ≤ greatest_over g t us
greatest_over-mono f g h t [] each = omega arith
greatest_over-mono f g h t (u ∷ us) each =
    max-mono (h t u (each 0 u (omega arith)))
    (greatest_over-mono f g h (t + 1) us (λ k d l. each (suc k) d (omega arith)))

-- what one term has the sum has
pub sum_over-least : (f : ℕ → ℕ) (t t' : ℕ) (us : List Dec) → t ≤ t' → t' < t + length us
    → f t' ≤ sum_over (λ t u. f t) t us
sum_over-least f t t' [] h1 h2 = absurd (omega arith)
sum_over-least f t t' (u ∷ us) h1 h2 = ⊎_elim
    (λ (l : t < t'). (let k = sum_over-least f (t + 1) t' us (omega arith) (omega arith) in omega arith))
    (λ (l : t' ≤ t). (
    let e : t ≡ t' = omega arith in
    subst (λ j. f j ≤ f t + sum_over (λ t u. f t) (t + 1) us) e (omega arith)))
    (cases_lt t t')

-- ---- against a strong leaf

live_less : (b : Block) (box : List Interval) (o t n : ℕ) → if_live b box o t n ≤ n
live_less b box o t n = by_bool (byte_high_of b box o t == 0)
  where
    by_bool : (c : Bool) → (if c then 0 else n) ≤ n
    by_bool true = omega arith
    by_bool false = omega arith

moving_less : (b : Block) (box : List Interval) (r : Rule) (n m : ℕ) → n ≤ m → if_moving b box r n ≤ m
moving_less b box r n m h = by_bool (is_still b box r)
  where
    by_bool : (c : Bool) → (if c then 0 else n) ≤ m
    by_bool true = omega arith
    by_bool false = h

among_same : (e : ℕ → ℕ → Span ℕ) (o t : ℕ) (rs : List Rule) → greatest_of (rule_error e) o t rs
    ≡ output_error_among e o t rs
among_same e o t [] = refl
among_same e o t (r ∷ rs) = rw (among_same e o t rs) refl

rise_rule : (e : ℕ → ℕ → Span ℕ) (r : Rule) → rule_rise e r ≤ rule_error e r
rise_rule e r = omega arith

fall_rule : (e : ℕ → ℕ → Span ℕ) (r : Rule) → rule_fall e r ≤ rule_error e r
fall_rule e r = omega arith

rise_less : (b : Block) (box : List Interval) (e : ℕ → ℕ → Span ℕ) (o t : ℕ)
    → rise_of b box e o t ≤ output_error b e o t
rise_less b box e o t = subst (λ m. rise_of b box e o t ≤ m) (among_same e o t b.rules)
    (greatest_of-mono (λ r. if_moving b box r (rule_rise e r)) (rule_error e) o t b.rules (λ k d l.
    let r = get_or b.rules k d in moving_less b box r (rule_rise e r) (rule_error e r) (rise_rule e r)))

fall_less : (b : Block) (box : List Interval) (e : ℕ → ℕ → Span ℕ) (o t : ℕ)
    → fall_of b box e o t ≤ output_error b e o t
fall_less b box e o t = subst (λ m. fall_of b box e o t ≤ m) (among_same e o t b.rules)
    (greatest_of-mono (λ r. if_moving b box r (rule_fall e r)) (rule_error e) o t b.rules (λ k d l.
    let r = get_or b.rules k d in moving_less b box r (rule_fall e r) (rule_error e r) (fall_rule e r)))

offsets_over : (x : Output) (t : ℕ) (us : List Dec) → greatest_over (λ t s. offset x s) t us ≡ greatest_offset x us
offsets_over x t [] = refl
offsets_over x t (u ∷ us) = rw (offsets_over x (t + 1) us) refl

part_above : (k : ℕ) (f : Fraction) → IsProper f → AtMost (over k 255) f → billion * k ≤ 255 * billion * f.num / f.den
part_above k f p h =
    let c : (k * f.den) * billion ≤ (f.num * 255) * billion = mul-le-mul_right billion h.cross in
    le-div (billion * k) (255 * billion * f.num) f.den p.pos (omega arith)

-- a mean is within the range, so no term is further from it than the range is wide
term_pull : (rise fall e u w g a : ℕ) → rise ≤ e → fall ≤ e → u ≤ w → a ≤ w * g
    → rise * (u * g - a) + fall * (a - u * g) ≤ w * e * g
term_pull rise fall e u w g a hr hf hu ha = ⊎_elim
    (λ (l : u * g < a).
    let z : 0 ≡ u * g - a = omega arith in
    let p : fall * (a - u * g) ≤ e * (w * g) = mul-le fall (a - u * g) e (w * g) hf (omega arith) in
    subst (λ n. rise * n + fall * (a - u * g) ≤ w * e * g) z (omega arith))
    (λ (l : a ≤ u * g).
    let z : 0 ≡ a - u * g = omega arith in
    let h : u * g ≤ w * g = mul-le-mul_right g hu in
    let p : rise * (u * g - a) ≤ e * (w * g) = mul-le rise (u * g - a) e (w * g) hr (omega arith) in
    subst (λ n. rise * (u * g - a) + fall * n ≤ w * e * g) z (omega arith))
    (cases_lt (u * g) a)

module _ (b : Block) (box : List Interval) (e : ℕ → ℕ → Span ℕ) (o : ℕ) (x : Output) (range : x.lo.0 <ℤ x.hi.0) where
  abbrev w : ℕ
  w = distance x.lo x.hi

  abbrev ts_from : ℕ → List Dec → List MassRange
  ts_from k us = ranges_at (λ k. byte_low_of b box o (k + 1)) (λ k. byte_high_of b box o (k + 1)) x.lo k us

  abbrev ds_from : ℕ → List Dec → List Deviation
  ds_from k us = deviations_at (λ k. rise_of b box e o (k + 1)) (λ k. fall_of b box e o (k + 1)) k us

  weighted_less : (k : ℕ) (us : List Dec) → All (IsWithin x.lo x.hi) us → (ms : List ℕ)
      → weighted (ts_from k us) ms ≤ w * total ms
  weighted_less k [] h ms = omega arith
  weighted_less k (u ∷ us) h [] = omega arith
  weighted_less k (u ∷ us) h (m ∷ ms) =
      let rest = weighted_less (k + 1) us (λ i d l. h (suc i) d (omega arith)) ms in
      let one : distance x.lo u * m ≤ w * m =
      mul-le-mul_right m (within_width x.lo x.hi u range (h 0 u (omega arith))) in
      omega (arith, rest, one)

  pull_less : (over under : Deviation → ℕ)
      → ((t : ℕ) → (over (record { rise = rise_of b box e o t; fall = fall_of b box e o t }) ≤ output_error b e o t)
      × (under (record { rise = rise_of b box e o t; fall = fall_of b box e o t }) ≤ output_error b e o t))
      → (g a k : ℕ) → a ≤ w * g → (us : List Dec) → All (IsWithin x.lo x.hi) us
      → pull over under (ts_from k us) (ds_from k us) g a ≤ w * errors_from b e o (k + 1) us * g
  pull_less over under each g a k ha [] h = omega arith
  pull_less over under each g a k ha (u ∷ us) h =
      let rest = pull_less over under each g a (k + 1) ha us (λ i d l. h (suc i) d (omega arith)) in
      let d : Deviation = record { rise = rise_of b box e o (k + 1); fall = fall_of b box e o (k + 1) } in
      let one = term_pull (over d) (under d) (output_error b e o (k + 1)) (distance x.lo u) w g a (each (k + 1)).0
      (each (k + 1)).1 (within_width x.lo x.hi u range (h 0 u (omega arith))) ha in
      omega (arith, rest, one)

  offset_less : All (IsWithin x.lo x.hi) x.singletons → live_offset b box o x ≤ greatest_offset x x.singletons
  offset_less all_within =
      subst (λ m. live_offset b box o x ≤ m) (offsets_over x 1 x.singletons)
      (greatest_over-mono {P = IsWithin x.lo x.hi} (λ t s. if_live b box o t (offset x s)) (λ t s. offset x s)
      (λ t s _. live_less b box o t (offset x s)) 1 x.singletons all_within)

module _ (b : Block) (box : List Interval) (e : ℕ → ℕ → Span ℕ) (o : ℕ) (x : Output) (valid : IsValid b)
    (ex : output_at b o ≡ Some x) (n : ℕ) (r : Rule) (k : ℕ) (er : slice_get b.rules n ≡ Some r) (some : 1 ≤ k)
    (s : IsStrong b box o r k) where
  in_singletons : (1 ≤ s.term) × (s.term < 1 + length x.singletons)
  in_singletons =
      let vr : IsValidRule b r = All-slice_get (IsValidRule b) b.rules n r valid.rules er in
      let hs : HasSingleton b o s.term = concluded b o s.term r.concl vr.conclusions s.concludes_it in
      let to : s.term ≤ length x.singletons =
      IsSomeAnd-some (λ y. s.term ≤ length y.singletons) (output_at b o) x ex hs.term_to in
      (hs.term_from, omega arith)

  sum_least : billion * k ≤ sure_sum b box o x
  sum_least =
      let a = part_above k (rule_span b box r).low (rule_low_proper b box r) s.low in
      let c = greatest_of-least (low_part b box) o s.term b.rules n r er s.concludes_it in
      let d = sum_over-least (λ t. low_of b box o t) 1 s.term x.singletons in_singletons.0 in_singletons.1 in
      least (billion * k) (low_part b box r) (low_of b box o s.term) (sure_sum b box o x) a c d
    where
      least : (p q r s : ℕ) → p ≤ q → q ≤ r → r ≤ s → p ≤ s
      least p q r s h k l = omega arith

  -- where a leaf is strong the box is sure
  pub strong_sure : IsSure b box o x
  strong_sure =
      let c = greatest_of-least (λ r. (rule_byte_span b box r).low) o s.term b.rules n r er s.concludes_it in
      let d = sum_over-least (λ t. byte_low_of b box o t) 1 s.term x.singletons in_singletons.0 in_singletons.1 in
      record {
        sum = (let a = sum_least in omega arith);
        bytes = least (rule_byte_span b box r).low (byte_low_of b box o s.term) (sure_bytes b box o x) s.byte_low c d;
      }
    where
      least : (p q r : ℕ) → 1 ≤ p → p ≤ q → q ≤ r → 1 ≤ r
      least p q r h k l = omega arith

  -- and its tight Bound is at most the leaf's
  pub strong_least : (h n : ℕ) → 1 ≤ h → IsSureBound b box e o x h n
      → n ≤ strong_bound x h (errors_from b e o 1 x.singletons) k
  strong_least h n hh bound =
      let vx : IsValidOutput x = All-slice_get IsValidOutput b.outputs (o - 1) x valid.outputs ex in
      let w = distance x.lo x.hi in
      let wp : 0 < w = width x vx.range in
      let sum = errors_from b e o 1 x.singletons in
      let l = sure_sum b box o x in
      let f = strong_bound x h sum k in
      let mean : (ms : List ℕ) → weighted (byte_ranges b box o x) ms ≤ w * total ms =
      λ ms. weighted_less b box e o x vx.range 0 x.singletons vx.singletons ms in
      let offset = offset_less b box e o x vx.range vx.singletons in
      bound.least f (λ small ms between. record {
        up = covered w h sum (billion * k) l (live_offset b box o x) (greatest_offset x x.singletons)
            (up (byte_ranges b box o x) (deviations b box e o x) ms) (total ms) f 1 wp hh (omega arith) (omega arith)
            sum_least offset (pull_less b box e o x vx.range (λ d. d.rise) (λ d. d.fall)
            (λ t. (rise_less b box e o t, fall_less b box e o t)) (total ms) (weighted (byte_ranges b box o x) ms) 0
            (mean ms) x.singletons vx.singletons) (omega arith) small;
        down = covered w h sum (billion * k) l (live_offset b box o x) (greatest_offset x x.singletons)
            (down (byte_ranges b box o x) (deviations b box e o x) ms) (total ms) f 0 wp hh (omega arith) (omega arith)
            sum_least offset (pull_less b box e o x vx.range (λ d. d.fall) (λ d. d.rise)
            (λ t. (fall_less b box e o t, rise_less b box e o t)) (total ms) (weighted (byte_ranges b box o x) ms) 0
            (mean ms) x.singletons vx.singletons) (omega arith) small;
      })
    where
      width : (x : Output) → x.lo.0 <ℤ x.hi.0 → 0 < distance x.lo x.hi
      width x range = omega (arith, ints)

      covered : (w h sum p l d d' u g f floors : ℕ) → 0 < w → 1 ≤ h → 0 < p → floors ≤ 1 → p ≤ l → d ≤ d'
          → u ≤ w * sum * g → ratio_bound w h (sum * 255) p d' ≤ f → f < 1000000
          → (65025 * h * u + (d * h + floors * w) * (l * g)) * 1000000 ≤ f * (255 * h * w * (l * g))
      covered w h sum p l d d' u g f floors wp hh pp fl hp hd hu is small =
          let num = sum * 255 * (255 * w * (255 * h)) + (d' * (255 * h) + 1 * (255 * w)) * p in
          let den = p * (255 * w * (255 * h)) in
          let dp : 0 < den = mul-pos pp (mul-pos (mul-pos (omega arith) wp) (mul-pos (omega arith) hh)) in
          let up = le-up_div (1000000 * num) den dp in
          let q : up_div (1000000 * num) den ≤ f = omega arith in
          let r : up_div (1000000 * num) den * den ≤ f * den = mul-le-mul_right den q in
          let c : 1000000 * num ≤ f * den = omega arith in
          let c1 : (1000000 * num) * (l * g) ≤ (f * den) * (l * g) = mul-le-mul_right (l * g) c in
          let a1 : u * p ≤ (w * sum * g) * l = mul-le u p (w * sum * g) l hu hp in
          let a2 : (u * p) * (255 * 65025 * h * 1000000) ≤ ((w * sum * g) * l) * (255 * 65025 * h * 1000000) =
          mul-le-mul_right (255 * 65025 * h * 1000000) a1 in
          let b1 : d * (h * (l * g) * p * 255 * 1000000) ≤ d' * (h * (l * g) * p * 255 * 1000000) =
          mul-le-mul_right (h * (l * g) * p * 255 * 1000000) hd in
          let b2 : floors * (w * (l * g) * p * 255 * 1000000) ≤ 1 * (w * (l * g) * p * 255 * 1000000) =
          mul-le-mul_right (w * (l * g) * p * 255 * 1000000) fl in
          let z : ((65025 * h * u + (d * h + floors * w) * (l * g)) * 1000000) * (p * 255)
          ≤ (f * (255 * h * w * (l * g))) * (p * 255) = omega arith in
          le_of_mul-le-mul_right z (mul-pos pp (omega arith))

-- ---- a sure box has a Bound

pub bytes_ordered_at : (b : Block) (box : List Interval) (o t : ℕ) → byte_low_of b box o t ≤ byte_high_of b box o t
bytes_ordered_at b box o t = greatest_of-mono (λ r. (rule_byte_span b box r).low) (λ r. (rule_byte_span b box r).high) o t
    b.rules (λ k d l. bytes_ordered b box (get_or b.rules k d))

pub ranges_ordered : (f g : ℕ → ℕ) (lo : Dec) → ((j : ℕ) → f j ≤ g j) → (k : ℕ) (us : List Dec)
    → All IsOrdered (ranges_at f g lo k us)
ranges_ordered f g lo fg k [] = All-none IsOrdered
ranges_ordered f g lo fg k (u ∷ us) = All-cons IsOrdered (record { at = distance lo u; low = f k; high = g k })
    (ranges_at f g lo (k + 1) us) (fg k) (ranges_ordered f g lo fg (k + 1) us)

pub lows_are : (f g : ℕ → ℕ) (lo : Dec) (k : ℕ) (us : List Dec)
    → sure_mass (ranges_at f g lo k us) ≡ sum_over (λ t u. f (t - 1)) (k + 1) us
lows_are f g lo k [] = refl
lows_are f g lo k (u ∷ us) =
    let here : k ≡ k + 1 - 1 = omega arith in
    ap₂ (λ m n. m + n) (ap f here) (lows_are f g lo (k + 1) us)

pub sums_same : (f g : ℕ → ℕ) → ((t : ℕ) → 1 ≤ t → f t ≡ g t) → (t : ℕ) (us : List Dec) → 1 ≤ t
    → sum_over (λ t u. f t) t us ≡ sum_over (λ t u. g t) t us
sums_same f g h t [] from = refl
sums_same f g h t (u ∷ us) from = ap₂ (λ m n. m + n) (h t from) (sums_same f g h (t + 1) us (omega arith))

pub sure_has : MeansHaveErrors → (b : Block) (box : List Interval) (e : ℕ → ℕ → Span ℕ) (o : ℕ) (x : Output)
    → x.lo.0 <ℤ x.hi.0 → (h : ℕ) → 1 ≤ h → IsSure b box o x → (n : ℕ) × IsSureBound b box e o x h n
sure_has have b box e o x range h hh s =
    have (scale b box o x h) (byte_ranges b box o x) (deviations b box e o x)
    (record { width = omega (arith, ints); sum = s.sum; parts = hh })
    (ranges_ordered (λ k. byte_low_of b box o (k + 1)) (λ k. byte_high_of b box o (k + 1)) x.lo
    (λ j. bytes_ordered_at b box o (j + 1)) 0 x.singletons)
    (subst (λ n. 1 ≤ n) (sym lows) s.bytes)
  where
    lows : sure_mass (byte_ranges b box o x) ≡ sure_bytes b box o x
    lows = lows_are (λ k. byte_low_of b box o (k + 1)) (λ k. byte_high_of b box o (k + 1)) x.lo 0 x.singletons
        ∙ sums_same (λ t. byte_low_of b box o (t - 1 + 1)) (λ t. byte_low_of b box o t)
        (λ t from. let back : t - 1 + 1 ≡ t = omega arith in ap (byte_low_of b box o) back) 1 x.singletons (omega arith)

-- ---- the mass of a term lies between its ends, and no lower end is above the upper one

-- ---- one mass, in c parts

pub record IsMassBetween (c l h : ℕ) (f : Fraction) : Type 0 where
  pub low : l * f.den ≤ c * f.num
  pub high : c * f.num ≤ h * f.den

down_le : (c : ℕ) (s f : Fraction) → IsProper s → AtMost s f → (c * s.num / s.den) * f.den ≤ c * f.num
down_le c s f p l =
    let q = c * s.num / s.den in
    let d = p.pos in
    let a : s.den * q ≤ c * s.num = omega arith in
    let a1 : (s.den * q) * f.den ≤ (c * s.num) * f.den = mul-le-mul_right f.den a in
    let a2 : (s.num * f.den) * c ≤ (f.num * s.den) * c = mul-le-mul_right c l.cross in
    let a3 : (q * f.den) * s.den ≤ (c * f.num) * s.den = omega arith in
    le_of_mul-le-mul_right a3 d

up_le : (c : ℕ) (s f : Fraction) → IsProper s → AtMost f s → c * f.num ≤ up_div (c * s.num) s.den * f.den
up_le c s f p l =
    let d = p.pos in
    let q = up_div (c * s.num) s.den in
    let a : c * s.num ≤ q * s.den = le-up_div (c * s.num) s.den d in
    let a1 : (c * s.num) * f.den ≤ (q * s.den) * f.den = mul-le-mul_right f.den a in
    let a2 : (f.num * s.den) * c ≤ (s.num * f.den) * c = mul-le-mul_right c l.cross in
    let a3 : (c * f.num) * s.den ≤ (q * f.den) * s.den = omega arith in
    le_of_mul-le-mul_right a3 d

part_between : (c : ℕ) (l f h : Fraction) → AreOrdered l f → AreOrdered f h
    → IsMassBetween c (c * l.num / l.den) (up_div (c * h.num) h.den) f
part_between c l f h a b = record { low = down_le c l f a.left a.below; high = up_le c h f b.right b.below }

low_more : (c l : ℕ) (f g : Fraction) → IsProper f → AtMost f g → l * f.den ≤ c * f.num → l * g.den ≤ c * g.num
low_more c l f g p k h =
    let a1 : (l * f.den) * g.den ≤ (c * f.num) * g.den = mul-le-mul_right g.den h in
    let a2 : (f.num * g.den) * c ≤ (g.num * f.den) * c = mul-le-mul_right c k.cross in
    let a3 : (l * g.den) * f.den ≤ (c * g.num) * f.den = omega arith in
    le_of_mul-le-mul_right a3 p.pos

max_le : (a b d n : ℕ) → a * d ≤ n → b * d ≤ n → max a b * d ≤ n
max_le a b d n h k = ⊎_elim
    (λ (l : a < b). let e : b ≡ max a b = omega arith in subst (λ m. m * d ≤ n) e k)
    (λ (l : b ≤ a). let e : a ≡ max a b = omega arith in subst (λ m. m * d ≤ n) e h)
    (cases_lt a b)

between_greater : (c l1 h1 l2 h2 : ℕ) (f g : Fraction) → IsProper f → IsProper g → IsMassBetween c l1 h1 f
    → IsMassBetween c l2 h2 g → IsMassBetween c (max l1 l2) (max h1 h2) (greater f g)
between_greater c l1 h1 l2 h2 f g pf pg bf bg = by_greater (IsMassBetween c (max l1 l2) (max h1 h2)) f g
    (λ k. record {
      low = max_le l1 l2 f.den (c * f.num) bf.low (low_more c l2 g f pg k bg.low);
      high = let m : h1 * f.den ≤ max h1 h2 * f.den = mul-le-mul_right f.den (omega arith) in
          let a = bf.high in omega arith;
    })
    (λ k. record {
      low = max_le l1 l2 g.den (c * g.num) (low_more c l1 f g pf k bf.low) bg.low;
      high = let m : h2 * g.den ≤ max h1 h2 * g.den = mul-le-mul_right g.den (omega arith) in
          let a = bg.high in omega arith;
    })

module _ (b : Block) (box : List Interval) (bytes : List ℕ) (xs : List Dec) (e : ℕ → ℕ → Span ℕ)
    (l : (i t : ℕ) → IsWithinSpans billion (literal_degree b xs i t) (literal_grade b bytes i t) (e i t)
    (literal_span b box i t) (literal_byte_span b box i t)) (o : ℕ) where
  pub mass_between : (t : ℕ) (rs : List Rule) → All (λ r. IfSome r.weight IsWeight) rs
      → IsMassBetween (255 * billion) (greatest_of (low_part b box) o t rs) (greatest_of (high_part b box) o t rs)
      (mass_among b xs o t rs)
  mass_between t [] h = record { low = omega arith; high = omega arith }
  mass_between t (r ∷ rs) h =
      let hs : All (λ r. IfSome r.weight IsWeight) rs = λ k d i. h (suc k) d (omega arith) in
      by_bool (rule_within b box bytes xs e l r (h 0 r (omega arith))).between
      (term_held b box bytes xs e l o t rs hs).proper (mass_between t rs hs) (concludes r o t)
    where
      by_bool : IsBetween AreOrdered (rule_span b box r) (strength b xs r) → IsProper (mass_among b xs o t rs)
          → IsMassBetween (255 * billion) (greatest_of (low_part b box) o t rs) (greatest_of (high_part b box) o t rs)
          (mass_among b xs o t rs) → (c : Bool)
          → IsMassBetween (255 * billion)
          (if c then max (low_part b box r) (greatest_of (low_part b box) o t rs)
          else greatest_of (low_part b box) o t rs)
          (if c then max (high_part b box r) (greatest_of (high_part b box) o t rs)
          else greatest_of (high_part b box) o t rs)
          (if c then greater (strength b xs r) (mass_among b xs o t rs) else mass_among b xs o t rs)
      by_bool bt proper rest true =
          between_greater (255 * billion) (low_part b box r) (high_part b box r) (greatest_of (low_part b box) o t rs)
          (greatest_of (high_part b box) o t rs) (strength b xs r) (mass_among b xs o t rs) bt.low.right proper
          (part_between (255 * billion) (rule_span b box r).low (strength b xs r) (rule_span b box r).high bt.low
          bt.high) rest
      by_bool bt proper rest false = rest

-- ---- the two ends

-- a cell's start lies in it
pub start_in : (w b : ℕ) → 0 < w → IsInCell w b (cell_start w b)
start_in w b p = record {
  proper = record { pos = omega arith };
  place = inside (AtMost-refl (cell_start w b)) (record { cross = omega arith });
}

-- a literal's degree somewhere in the box
abbrev pub IsSomewhere : Block → List Interval → ℕ → ℕ → Type 0
IsSomewhere b box i t = (f : Fraction) × IsBetween AreOrdered (literal_span b box i t) f

parts_ordered : (c : ℕ) (l f h : Fraction) → AreOrdered l f → AreOrdered f h
    → c * l.num / l.den ≤ up_div (c * h.num) h.den
parts_ordered c l f h a b =
    let m = part_between c l f h a b in
    let k : (c * l.num / l.den) * f.den ≤ up_div (c * h.num) h.den * f.den = along m.low m.high in
    le_of_mul-le-mul_right k a.right.pos
  where
    along : {x y z : ℕ} → x ≤ y → y ≤ z → x ≤ z
    along p q = omega arith

module _ (b : Block) (box : List Interval) (valid : IsValid b) (count : length box ≡ length b.inputs) (is : IsBox box)
  where
    nowhere : IsBetween AreOrdered (record { low = none; high = none }) none
    nowhere =
        let same = ordered-refl none (record { pos = omega arith }) in record { low = same; high = same }

    by_term : (i t : ℕ) (x : Input) → input_at b i ≡ Some x → (o : Option Trapezoid) → slice_get x.terms (t - 1) ≡ o
        → IsSomewhere b box i t
    by_term i t x ex None et = (none, rw (ex, et) nowhere)
    by_term i t x ex (Some term) et =
        let l : i - 1 < length b.inputs = slice_get_within b.inputs (i - 1) x ex in
        let v = some_at box (i - 1) (omega arith) in
        let ev : slice_get box (i - 1) ≡ Some v.0 = v.1 in
        let vx : IsValidInput x = All-slice_get IsValidInput b.inputs (i - 1) x valid.inputs ex in
        let w = distance x.lo x.hi in
        let hw = width_pos x vx in
        let s = is.some (i - 1) v.0 ev in
        let errors : AreTermErrors b box (term_errors b box) = term_errors-are b box valid is in
        let er : IsTermDeviation x term v.0 (term_deviation x term v.0) =
        rw (ex, et, ev) at (errors.error i t x term v.0 ex et ev) in
        let p = at_place x term v.0 v.0.from (term_deviation x term v.0) (cell_start w v.0.from) er hw (omega arith) s.0
        (start_in w v.0.from hw) in
        (degree_at (points_of x term) (cell_start w v.0.from), rw (ex, et, ev) p.between)

    pub by_input : (i t : ℕ) (o : Option Input) → input_at b i ≡ o → IsSomewhere b box i t
    by_input i t None ex = (none, rw ex nowhere)
    by_input i t (Some x) ex = by_term i t x ex (slice_get x.terms (t - 1)) refl

    pub rule_parts_ordered : (r : Rule) → low_part b box r ≤ high_part b box r
    rule_parts_ordered r =
        let at : (i t : ℕ) → IsSomewhere b box i t = λ i t. by_input i t (input_at b i) refl in
        let h = between truths_monotone {s = literal_span b box} {v = λ i t. (at i t).0} (λ i t. (at i t).1) r.cond in
        let w = weight_of r.weight in
        parts_ordered (255 * billion) (rule_span b box r).low _ (rule_span b box r).high
        (times_ordered _ _ w h.low) (times_ordered _ _ w h.high)

    pub ends_ordered : (o t : ℕ) (rs : List Rule)
        → greatest_of (low_part b box) o t rs ≤ greatest_of (high_part b box) o t rs
    ends_ordered o t rs = greatest_of-mono (low_part b box) (high_part b box) o t rs
        (λ k d l. rule_parts_ordered (get_or rs k d))

-- ---- a condition with a part that is true nowhere on a box, and the rule that it stands in

-- ---- conditions

module _ (b : Block) (box : List Interval) where
  abbrev highest : Condition → Fraction
  highest c = (span (literal_span b box) c).high

  highest_proper : (c : Condition) → IsProper (highest c)
  highest_proper c = (span_to_itself b box c).high.left

  nowhere_first : (c : Condition) (cs : Conditions) → IsNowhere b box c → IsNowhere b box (all (also c cs))
  nowhere_first c cs h = record {
    high = none_below (lesser (highest c) (highest (all cs))) (highest c) (highest_proper c)
        (AtMost-lesser_left (highest c) (highest (all cs))) h.high;
    byte_high = (let z = h.byte_high in omega arith);
  }

  nowhere_later : (c : Condition) (cs : Conditions) → IsNowhere b box (all cs) → IsNowhere b box (all (also c cs))
  nowhere_later c cs h = record {
    high = none_below (lesser (highest c) (highest (all cs))) (highest (all cs)) (highest_proper (all cs))
        (AtMost-lesser_right (highest c) (highest (all cs))) h.high;
    byte_high = (let z = h.byte_high in omega arith);
  }

  -- an AND is where one of its parts is
  pub nowhere_part : (parts : List Condition) (k : ℕ) (part : Condition) → slice_get parts k ≡ Some part
      → IsNowhere b box part → IsNowhere b box (all (conditions parts))
  nowhere_part [] k part e h = absurd (let z : ⊥ = cc in z)
  nowhere_part (c ∷ cs) zero part e h =
      let same : part ≡ c = cc in nowhere_first c (conditions cs) (subst (IsNowhere b box) same h)
  nowhere_part (c ∷ cs) (suc k) part e h = nowhere_later c (conditions cs) (nowhere_part cs k part e h)

-- ---- rules

module _ (b : Block) (box : List Interval) where
  abbrev IsUpright : Span ℕ → Type 0
  IsUpright s = s.low ≤ s.high

  literal_upright : (i t : ℕ) → IsUpright (literal_byte_span b box i t)
  literal_upright = at_literal-holds b box IsUpright grades_over (only 0) (omega arith) (λ x term v.
      let g = grade_of (row_of x term) in
      let l = least_le g v.from (v.to - v.from) v.from (omega arith) (omega arith) in
      let u = le_greatest g v.from (v.to - v.from) v.from (omega arith) (omega arith) in
      omega arith)

  rule_upright : (r : Rule) → IsUpright (rule_byte_span b box r)
  rule_upright r =
      let h = between levels_monotone {s = literal_byte_span b box} {v = λ i t. (literal_byte_span b box i t).low}
      (λ i t. record { low = omega arith; high = literal_upright i t }) r.cond in
      let s = byte_span (literal_byte_span b box) r.cond in
      let l : s.low ≤ s.high = (let x = h.low in let y = h.high in omega arith) in
      scaled-mono s.low s.high (weight_byte_of r.weight + 1) l

  -- a rule that is still counts for no deviation
  pub still_moves : (r : Rule) (n : ℕ) → IsStill b box r → if_moving b box r n ≡ 0
  still_moves r n still = rw (still.high, still.byte_high) refl

  -- nor does a leaf count on it
  pub IsCandidate-still : (o n : ℕ) (r : Rule) → slice_get b.rules n ≡ Some r
      → (concludes_some r o ≡ true → IsStill b box r) → (k : ℕ) → IsCandidate b box o (n + 1) k → ⊥
  IsCandidate-still o n r found still k c =
      let same = candidate-rule b box o n r found c.rule c.rule_is in
      let quiet = still (subst (λ q. concludes_some q o ≡ true) same c.concludes_one) in
      let low = subst (λ q. 1 ≤ (rule_byte_span b box q).low) same c.byte_low in
      let none = quiet.byte_high in
      let upright = rule_upright r in
      omega arith
