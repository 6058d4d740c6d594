-- The strength of a rule and the mass of a term over a box: errors, spans, and what is read from fractions.
use Rattle.std.proofs.Common.{◌≡◌, ℕ, ◌+◌, ◌-◌, ◌*◌, ◌/◌, ◌≤◌, List, Option, Some, None, sym, subst, arith}
use Rattle.std.proofs.Common.{mul-le-mul_right, mul-pos, zero, suc, ◌<◌, max, Bool, true, false, cond, [], ◌∷◌, refl}
use Rattle.std.proofs.Common.{ap, ◌∙◌, le_of_mul-le-mul_right, ⊎_elim}
use Rattle.std.proofs.{lemmas.Bool.cond_both, lemmas.Bool.cases_lt, lemmas.Bool.Decides.nat_tests, lemmas.Nat.le-div}
use Rattle.std.proofs.{lemmas.List.Sums.sum_by-cons, lemmas.Int.ints}
use Rattle.std.specs.Prelude.{IfSome, ◌==◌, All, IsTrue, ◌&&◌, if◌then◌else◌}
use Rattle.fz_num.specs.Fractions.{Fraction, IsProper, AtMost, times, one, IsNear, up_div, greater, Quotient, over}
use Rattle.fz_num.specs.{Fractions.IsBelow, Fractions.none, declared.dec.Dec.Dec}
use Rattle.fz_num.proofs.Algebra.{le-up_div, by_greater, AtMost-trans, AtMost-greater_left, AtMost-greater_right}
use Rattle.fz_num.proofs.Algebra.{up_div-le}
use Rattle.fuzzy_meaning.specs.Meaning.{literal_degree, truth, weight_of, strength, concludes, mass_among, mass, Share}
use Rattle.fuzzy_meaning.specs.Meaning.{shares_from, common_den, total_mass, weighted_sum, centre}
use Rattle.fuzzy_meaning.specs.{declared.block.Output.Output, declared.block.Block.Block, declared.block.Rule.Rule}
use Rattle.fuzzy_meaning.specs.Blocks.{IsWeight}
use Rattle.byte_scaling.specs.{Weights.weight_byte_of, Cells.nearest_byte}
use Rattle.point_slope.specs.Bytes.{literal_grade, byte_truth, byte_strength, ByteShare, byte_mass_among, byte_mass}
use Rattle.point_slope.specs.{Bytes.byte_shares_from, Bytes.total_mass as byte_total, Tables.row_of, Tables.grade_of}
use Rattle.error_bound.specs.Boxes.{literal_span, literal_byte_span, rule_span, rule_byte_span, least_from}
use Rattle.error_bound.specs.Faults.{parts_down, parts_up, IsStrongFault, weak, still, IsSilentFault, silent, loud}
use Rattle.error_bound.specs.declared.boxes.LeafFault.TheVariants.{Weak, Silent, Loud}
use Rattle.error_bound.specs.Spans.{span, byte_span, deviation, only, Span}
use Rattle.error_bound.specs.{Tight.greatest_of, Tight.low_part, Tight.is_still, Tight.if_moving}
use Rattle.error_bound.specs.Errors.{billion, apart, weight_error, rule_rise, rule_fall}
use Rattle.error_bound.specs.Leaves.{IsStill}
use Rattle.error_bound.specs.{declared.boxes.LeafFault.LeafFault, Boxes.greatest_from, Boxes.grades_over}
use Rattle.error_bound.specs.{declared.boxes.Interval.Interval, declared.boxes.Leaf.Leaf, Flattening.IsSame}
use Rattle.error_bound.proofs.Literals.{IsHeld, IsWithinSpans, within_spans, held_joined, within_none}
use Rattle.error_bound.proofs.SpanLemmas.{AreOrdered, between, levels_monotone}
use Rattle.error_bound.proofs.FlatteningLemmas.{at_literal-holds, span_good}

-- q parts for g (v + 1)/256; what rounding down may lose counts upwards alone
pub weighted_near : (t g rise fall v w ew er q : ℕ) (f : Fraction) → v ≤ 256 → w ≤ 10000 → AtMost f one
    → IsNear t g f rise fall → v * 10000 * t ≤ w * 256 * t + ew * 2560000 → w * 256 * t ≤ v * 10000 * t + ew * 2560000
    → v * g * t ≤ 256 * q * t + er * 256 * 255 → 256 * q ≤ v * g
    → IsNear t q (times f w) (rise + ew + er) (fall + ew)
weighted_near t g rise fall v w ew er q f hv hw h1 n w1 w2 q1 q2 =
    let fd : f.num ≤ f.den = (let h = h1.cross in omega arith) in
    let a1 : (w * 256 * t) * (f.num * 255) ≤ (v * 10000 * t + ew * 2560000) * (f.num * 255) =
    mul-le-mul_right (f.num * 255) w2 in
    let a1' : f.num * (ew * 2560000 * 255) ≤ f.den * (ew * 2560000 * 255) = mul-le-mul_right (ew * 2560000 * 255) fd in
    let a2 : (f.num * 255 * t) * (v * 10000) ≤ (g * f.den * t + rise * 255 * f.den) * (v * 10000) =
    mul-le-mul_right (v * 10000) n.up in
    let a2' : v * (10000 * rise * 255 * f.den) ≤ 256 * (10000 * rise * 255 * f.den) =
    mul-le-mul_right (10000 * rise * 255 * f.den) hv in
    let a3 : (v * g * t) * (10000 * f.den) ≤ (256 * q * t + er * 256 * 255) * (10000 * f.den) =
    mul-le-mul_right (10000 * f.den) q1 in
    let b1 : (v * 10000 * t) * (f.num * 255) ≤ (w * 256 * t + ew * 2560000) * (f.num * 255) =
    mul-le-mul_right (f.num * 255) w1 in
    let b2 : (g * f.den * t) * (v * 10000) ≤ (f.num * 255 * t + fall * 255 * f.den) * (v * 10000) =
    mul-le-mul_right (v * 10000) n.down in
    let b2' : v * (10000 * fall * 255 * f.den) ≤ 256 * (10000 * fall * 255 * f.den) =
    mul-le-mul_right (10000 * fall * 255 * f.den) hv in
    let b3 : (256 * q) * (t * 10000 * f.den) ≤ (v * g) * (t * 10000 * f.den) =
    mul-le-mul_right (t * 10000 * f.den) q2 in
    record { up = omega (arith, a1, a1', a2, a2', a3); down = omega (arith, a1', b1, b2, b2', b3) }

pub times_one : (f : Fraction) (w : ℕ) → w ≤ 10000 → AtMost f one → AtMost (times f w) one
times_one f w hw h = let p : f.num * w ≤ f.den * w = mul-le-mul_right w (let c = h.cross in omega arith) in
    let q : w * f.den ≤ 10000 * f.den = mul-le-mul_right f.den hw in record { cross = omega arith }

pub times_mono : (f g : Fraction) (w : ℕ) → AtMost f g → AtMost (times f w) (times g w)
times_mono f g w l = record { cross = (let p = mul-le-mul_right (w * 10000) l.cross in omega arith) }

pub times_proper : (f : Fraction) (w : ℕ) → IsProper f → IsProper (times f w)
times_proper f w p = record { pos = mul-pos p.pos (omega arith) }

pub times_ordered : (f g : Fraction) (w : ℕ) → AreOrdered f g → AreOrdered (times f w) (times g w)
times_ordered f g w a = record {
  left = times_proper f w a.left;
  right = times_proper g w a.right;
  below = times_mono f g w a.below;
}

-- 256 and a weight byte
pub scaled-mono : (a b v : ℕ) → a ≤ b → a * v / 256 ≤ b * v / 256
scaled-mono a b v h = let p : a * v ≤ b * v = mul-le-mul_right v h in omega arith

byte_floor : (t g b : ℕ) → g ≤ 255 → (b + 1) * g * t ≤ 256 * (g * (b + 1) / 256) * t + up_div t 255 * 256 * 255
byte_floor t g b hg =
    let q = g * (b + 1) / 256 in
    let a : (b + 1) * g ≤ 256 * q + 255 = omega arith in
    let p : ((b + 1) * g) * t ≤ (256 * q + 255) * t = mul-le-mul_right t a in
    let u = le-up_div t 255 (omega arith) in
    omega arith

floor_part : (t g b : ℕ) → g ≤ 255
    → (b + 1) * g * t ≤ 256 * (g * (b + 1) / 256) * t + (if b == 255 then 0 else up_div t 255) * 256 * 255
floor_part t g b hg =
    cond_both (b == 255) 0 (up_div t 255) (λ (n : ℕ). (b + 1) * g * t ≤ 256 * (g * (b + 1) / 256) * t + n * 256 * 255)
    (λ e. let eb : b ≡ 255 = grind (arith, nat_tests) in
    subst (λ (c : ℕ). (c + 1) * g * t ≤ 256 * (g * (c + 1) / 256) * t + 0 * 256 * 255) (sym eb)
    (let x : g * 256 / 256 ≡ g = omega arith in
    subst (λ (n : ℕ). 256 * g * t ≤ 256 * n * t + 0) (sym x) (omega arith)))
    (λ _. byte_floor t g b hg)

-- a truth times a weight, and a byte scaled by its byte
scaled_held : (t g : ℕ) (e : Span ℕ) (v w ew : ℕ) (f : Fraction) → v ≤ 255 → w ≤ 10000
    → (v + 1) * 10000 * t ≤ w * 256 * t + ew * 2560000
    → w * 256 * t ≤ (v + 1) * 10000 * t + ew * 2560000 → IsHeld t g f e
    → IsHeld t (g * (v + 1) / 256) (times f w)
    (record { low = e.low + ew; high = e.high + ew + (if v == 255 then 0 else up_div t 255) })
scaled_held t g e v w ew f hv hw w1 w2 h =
    let q = g * (v + 1) / 256 in
    record {
      proper = times_proper f w h.proper;
      to_one = times_one f w hw h.to_one;
      to_255 = (let p : g * (v + 1) ≤ 255 * (v + 1) = mul-le-mul_right (v + 1) h.to_255 in omega arith);
      near = weighted_near t g e.high e.low (v + 1) w ew (if v == 255 then 0 else up_div t 255) q f
          (omega arith) hw h.to_one h.near w1 w2 (floor_part t g v h.to_255) (omega arith);
    }

weight_parts : (t x y : ℕ)
    → (x * t ≤ y * t + up_div (apart x y * t) 2560000 * 2560000)
    × (y * t ≤ x * t + up_div (apart x y * t) 2560000 * 2560000)
weight_parts t x y =
    let k = le-up_div (apart x y * t) 2560000 (omega arith) in
    let w1 : x * t ≤ (y + (x - y + (y - x))) * t = mul-le-mul_right t (omega arith) in
    let w2 : y * t ≤ (x + (x - y + (y - x))) * t = mul-le-mul_right t (omega arith) in
    (omega arith, omega arith)

pub weight_in : (w : Option Dec) → IfSome w IsWeight → weight_of w ≤ 10000
weight_in None h = omega arith
weight_in (Some w) h = omega (arith, ints, h.low, h.high)

byte_in : (w : Option Dec) → IfSome w IsWeight → weight_byte_of w ≤ 255
byte_in None h = omega arith
byte_in (Some w) h = let l = weight_in (Some w) h in omega arith

-- from a rule's fall to its rise
abbrev pub rule_deviation : (ℕ → ℕ → Span ℕ) → Rule → Span ℕ
rule_deviation e r = record { low = rule_fall e r; high = rule_rise e r }

module _ (b : Block) (box : List Interval) (bytes : List ℕ) (xs : List Dec) (e : ℕ → ℕ → Span ℕ)
    (l : (i t : ℕ) → IsWithinSpans billion (literal_degree b xs i t) (literal_grade b bytes i t) (e i t)
    (literal_span b box i t) (literal_byte_span b box i t)) where
  -- a strength is at most that over bytes with the rule's rise, and at least that without its fall
  pub rule_within : (r : Rule) → IfSome r.weight IsWeight
      → IsWithinSpans billion (strength b xs r) (byte_strength b bytes r) (rule_deviation e r) (rule_span b box r)
      (rule_byte_span b box r)
  rule_within r hw =
      let c = r.cond in
      let h = within_spans billion (literal_degree b xs) (literal_grade b bytes) e (literal_span b box)
      (literal_byte_span b box) l c in
      let w = weight_of r.weight in
      let v = weight_byte_of r.weight in
      let s = span (literal_span b box) c in
      let m = byte_span (literal_byte_span b box) c in
      let p = weight_parts billion ((v + 1) * 10000) (w * 256) in
      record {
        held = scaled_held billion (byte_truth b bytes c) (deviation e c) v w (weight_error r)
            (truth (literal_degree b xs) c) (byte_in r.weight hw) (weight_in r.weight hw) p.0 p.1 h.held;
        between = record {
          low = times_ordered s.low (truth (literal_degree b xs) c) w h.between.low;
          high = times_ordered (truth (literal_degree b xs) c) s.high w h.between.high;
        };
        ordered = record {
          low = scaled-mono m.low (byte_truth b bytes c) (v + 1) h.ordered.low;
          high =
              scaled-mono (byte_truth b bytes c) m.high (v + 1) h.ordered.high;
        };
      }

-- ---- a rule's strengths over a box: the low's denominator is above 0, and over bytes the low is at most the high

pub least_to_greatest : (g : ℕ → ℕ) (p n : ℕ) → least_from g p n ≤ greatest_from g p n
least_to_greatest g p zero = omega arith
least_to_greatest g p (suc n) = let h = least_to_greatest g p n in omega arith

module _ (b : Block) (box : List Interval) where
  pub rule_low_proper : (r : Rule) → IsProper (rule_span b box r).low
  rule_low_proper r = times_proper _ _ (span_good b box r.cond).low.proper

  pub bytes_ordered : (r : Rule) → (rule_byte_span b box r).low ≤ (rule_byte_span b box r).high
  bytes_ordered r =
      let literal = at_literal-holds b box (λ m. m.low ≤ m.high) grades_over (only 0) (omega arith)
      (λ x term v. least_to_greatest (grade_of (row_of x term)) v.from (v.to - v.from)) in
      let h = between levels_monotone {s = literal_byte_span b box} {v = λ i t. (literal_byte_span b box i t).low}
      (λ i t. record { low = omega arith; high = literal i t }) r.cond in
      scaled-mono _ _ _ (omega (arith, h.low, h.high))

-- ---- on a silent leaf nothing fires

zero_times : (n d : ℕ) → n * d ≤ 0 → 0 < d → n ≡ 0
zero_times n d h hd = let p : n ≤ 0 = le_of_mul-le-mul_right {k = d} (omega arith) hd in omega arith

-- what is at most a fraction of 0 is 0
pub none_below : (f g : Fraction) → IsProper g → AtMost f g → g.num ≡ 0 → f.num ≡ 0
none_below f g pg l z =
    let c = l.cross in
    let p : g.num * f.den ≡ 0 = ap (λ n. n * f.den) z ∙ omega arith in
    zero_times f.num g.den (omega arith) pg.pos

either_none : (x y : Fraction) → x.num ≡ 0 → y.num ≡ 0 → (greater x y).num ≡ 0
either_none x y a b = by_greater (λ f. f.num ≡ 0) x y (λ _. a) (λ _. b)

pub centre_none : (ss : List Share) (otherwise : Quotient) → total_mass ss ≡ 0 → centre ss otherwise ≡ otherwise
centre_none ss otherwise h = let e : (total_mass ss == 0) ≡ true = grind (arith, nat_tests) in
    ap (λ c. cond c otherwise (record { num = weighted_sum ss; den = total_mass ss * 10000 })) e

module _ (b : Block) (box : List Interval) (bytes : List ℕ) (xs : List Dec) (e : ℕ → ℕ → Span ℕ)
    (l : (i t : ℕ) → IsWithinSpans billion (literal_degree b xs i t) (literal_grade b bytes i t) (e i t)
    (literal_span b box i t) (literal_byte_span b box i t)) (o : ℕ) where
  pub still_rule : (r : Rule) → IfSome r.weight IsWeight → IsStill b box r
      → ((strength b xs r).num ≡ 0) × (byte_strength b bytes r ≡ 0)
  still_rule r hw s =
      let bt = rule_within b box bytes xs e l r hw in
      let m1 : byte_strength b bytes r ≤ (rule_byte_span b box r).high = bt.ordered.high in
      let m0 : (rule_byte_span b box r).high ≡ 0 = s.byte_high in
      let high = bt.between.high in
      (none_below (strength b xs r) (rule_span b box r).high high.right high.below s.high, none_at m1 m0)
    where
      none_at : {a c : ℕ} → a ≤ c → c ≡ 0 → a ≡ 0
      none_at h1 h2 = omega arith

  still_mass : (t : ℕ) (rs : List Rule) → All (λ r. IfSome r.weight IsWeight) rs
      → All (λ r. (t : ℕ) → IsTrue (concludes r o t) → IsStill b box r) rs
      → ((mass_among b xs o t rs).num ≡ 0) × (byte_mass_among b bytes o t rs ≡ 0)
  still_mass t [] hw h = (refl, refl)
  still_mass t (r ∷ rs) hw h =
      more (still_mass t rs (λ k d i. hw (suc k) d (omega arith)) (λ k d i. h (suc k) d (omega arith)))
      (concludes r o t) (λ c. still_rule r (hw 0 r (omega arith)) (h 0 r (omega arith) t c))
    where
      more : ((mass_among b xs o t rs).num ≡ 0) × (byte_mass_among b bytes o t rs ≡ 0) → (c : Bool)
          → (IsTrue c → ((strength b xs r).num ≡ 0) × (byte_strength b bytes r ≡ 0))
          → ((if c then greater (strength b xs r) (mass_among b xs o t rs) else mass_among b xs o t rs).num ≡ 0)
          × ((if c then max (byte_strength b bytes r) (byte_mass_among b bytes o t rs) else byte_mass_among b bytes
          o t rs) ≡ 0)
      more p true q = let s = q refl in
          (either_none (strength b xs r) (mass_among b xs o t rs) s.0 p.0, omega (arith, s.1, p.1))
      more p false q = p

  pub still_sums : (x : Output) (t : ℕ) (us : List Dec) → All (λ r. IfSome r.weight IsWeight) b.rules
      → All (λ r. (t : ℕ) → IsTrue (concludes r o t) → IsStill b box r) b.rules
      → (total_mass (shares_from b xs o t us) ≡ 0) × (byte_total (byte_shares_from b bytes o x t us) ≡ 0)
  still_sums x t [] hw h = (refl, refl)
  still_sums x t (u ∷ us) hw h =
      let k = still_sums x (t + 1) us hw h in
      let m = still_mass t b.rules hw h in
      let ss = shares_from b xs o (t + 1) us in
      let f = mass b xs o t in
      let a1 : f.num * common_den ss ≡ 0 = ap (λ n. n * common_den ss) m.0 ∙ omega arith in
      let a2 : f.den * total_mass ss ≡ 0 = ap (λ n. f.den * n) k.0 ∙ omega arith in
      let g0 : byte_mass b bytes o t ≡ 0 = m.1 in
      let k1 : byte_total (byte_shares_from b bytes o x (t + 1) us) ≡ 0 = k.1 in (
        omega (arith, a1, a2),
        omega (
          arith,
          g0,
          k1,
          sum_by-cons (λ (s : ByteShare). s.mass) (record { byte = nearest_byte x u; mass = byte_mass b bytes o t })
              (byte_shares_from b bytes o x (t + 1) us),
        ),
      )

-- ---- how far a term's mass reaches over a box

both_true : (a c : Bool) → (a && c) ≡ true → (a ≡ true) × (c ≡ true)
both_true true c h = (refl, h)
both_true false c h = absurd (let z : ⊥ = cc in z)

pub IsStill-test : (b : Block) (box : List Interval) (r : Rule) → is_still b box r ≡ true → IsStill b box r
IsStill-test b box r h =
    let p = both_true ((rule_span b box r).high.num == 0) ((rule_byte_span b box r).high == 0) h in
    record { high = zero_test p.0; byte_high = zero_test p.1 }
  where
    zero_test : {n : ℕ} → (n == 0) ≡ true → n ≡ 0
    zero_test h = grind (arith, nat_tests)

floor_least : (n d : ℕ) → 255 * billion * n / d * d ≤ n * (255 * billion)
floor_least n d = omega arith

pub part_least : (f : Fraction) → IsProper f → AtMost (over (255 * billion * f.num / f.den) (255 * billion)) f
part_least f p = record { cross = floor_least f.num f.den }

joined_least : (n a c : ℕ) (f g : Fraction) → IsProper f → IsProper g → AtMost (over a n) f → AtMost (over c n) g
    → AtMost (over (max a c) n) (greater f g)
joined_least n a c f g pf pg h k = ⊎_elim
    (λ (l : a < c). (
    let e : c ≡ max a c = omega arith in
    subst (λ m. AtMost (over m n) (greater f g)) e
    (AtMost-trans (over c n) g (greater f g) pg k (AtMost-greater_right f g))))
    (λ (l : c ≤ a). (
    let e : a ≡ max a c = omega arith in
    subst (λ m. AtMost (over m n) (greater f g)) e
    (AtMost-trans (over a n) f (greater f g) pf h (AtMost-greater_left f g))))
    (cases_lt a c)

-- from its fall to its rise, 0 where it is still
abbrev pub moving_deviation : Block → List Interval → (ℕ → ℕ → Span ℕ) → Rule → Span ℕ
moving_deviation b box e r =
    record { low = if_moving b box r (rule_fall e r); high = if_moving b box r (rule_rise e r) }

-- the greatest of the rules that conclude term t of output o
abbrev pub deviation_among : Block → List Interval → (ℕ → ℕ → Span ℕ) → ℕ → ℕ → List Rule → Span ℕ
deviation_among b box e o t rs = record {
  low = greatest_of (λ r. if_moving b box r (rule_fall e r)) o t rs;
  high = greatest_of (λ r. if_moving b box r (rule_rise e r)) o t rs;
}

max-mono : {a b c d : ℕ} → a ≤ c → b ≤ d → max a b ≤ max c d
max-mono h k = omega arith

module _ (b : Block) (box : List Interval) (bytes : List ℕ) (xs : List Dec) (e : ℕ → ℕ → Span ℕ)
    (l : (i t : ℕ) → IsWithinSpans billion (literal_degree b xs i t) (literal_grade b bytes i t) (e i t)
    (literal_span b box i t) (literal_byte_span b box i t)) (o : ℕ) where
  resting : (g : ℕ) (f : Fraction) → f.num ≡ 0 → g ≡ 0 → IsNear billion g f 0 0
  resting g f n z = let p : g * f.den ≡ 0 = ap (λ m. m * f.den) z ∙ omega arith in
      record { up = omega arith; down = omega arith }

  moving_held : (r : Rule) → IfSome r.weight IsWeight
      → IsHeld billion (byte_strength b bytes r) (strength b xs r) (moving_deviation b box e r)
  moving_held r hw = by_bool (is_still b box r) refl
    where
      k : IsHeld billion (byte_strength b bytes r) (strength b xs r) (rule_deviation e r)
      k = (rule_within b box bytes xs e l r hw).held

      by_bool : (c : Bool) → is_still b box r ≡ c
          → IsHeld billion (byte_strength b bytes r) (strength b xs r)
          (record { low = if c then 0 else rule_fall e r; high = if c then 0 else rule_rise e r })
      by_bool true h =
          let z = still_rule b box bytes xs e l o r hw (IsStill-test b box r h) in
          record {
            proper = k.proper;
            to_one = k.to_one;
            to_255 = k.to_255;
            near = resting (byte_strength b bytes r) (strength b xs r) z.0 z.1;
          }
      by_bool false h = k

  -- its bytes' mass is so near to it
  pub term_held : (t : ℕ) (rs : List Rule) → All (λ r. IfSome r.weight IsWeight) rs
      → IsHeld billion (byte_mass_among b bytes o t rs) (mass_among b xs o t rs) (deviation_among b box e o t rs)
  term_held t [] hw = (within_none billion (only 0)).held
  term_held t (r ∷ rs) hw = by_bool (term_held t rs (λ k d i. hw (suc k) d (omega arith))) (concludes r o t)
    where
      by_bool : IsHeld billion (byte_mass_among b bytes o t rs) (mass_among b xs o t rs) (deviation_among b box e o t rs)
          → (c : Bool)
          → IsHeld billion
          (if c then max (byte_strength b bytes r) (byte_mass_among b bytes o t rs) else byte_mass_among b bytes o t rs)
          (if c then greater (strength b xs r) (mass_among b xs o t rs) else mass_among b xs o t rs)
          (record {
            low = if c then max (moving_deviation b box e r).low (deviation_among b box e o t rs).low else
                (deviation_among b box e o t rs).low;
            high = if c then max (moving_deviation b box e r).high (deviation_among b box e o t rs).high else
                (deviation_among b box e o t rs).high;
          })
      by_bool rest true = held_joined billion true (byte_strength b bytes r) (byte_mass_among b bytes o t rs)
          (moving_deviation b box e r) (deviation_among b box e o t rs) (strength b xs r) (mass_among b xs o t rs)
          (moving_held r (hw 0 r (omega arith))) rest
      by_bool rest false = rest

  -- and it is at least so much
  pub term_low : (t : ℕ) (rs : List Rule) → All (λ r. IfSome r.weight IsWeight) rs
      → AtMost (over (greatest_of (low_part b box) o t rs) (255 * billion)) (mass_among b xs o t rs)
  term_low t [] hw = record { cross = omega arith }
  term_low t (r ∷ rs) hw = by_bool (term_low t rs (λ k d i. hw (suc k) d (omega arith))) (concludes r o t)
    where
      w : IsWithinSpans billion (strength b xs r) (byte_strength b bytes r) (rule_deviation e r) (rule_span b box r)
          (rule_byte_span b box r)
      w = rule_within b box bytes xs e l r (hw 0 r (omega arith))

      part : AtMost (over (low_part b box r) (255 * billion)) (strength b xs r)
      part = AtMost-trans (over (low_part b box r) (255 * billion)) (rule_span b box r).low (strength b xs r)
          w.between.low.left (part_least (rule_span b box r).low w.between.low.left) w.between.low.below

      rest_proper : IsProper (mass_among b xs o t rs)
      rest_proper = (term_held t rs (λ k d i. hw (suc k) d (omega arith))).proper

      by_bool : AtMost (over (greatest_of (low_part b box) o t rs) (255 * billion)) (mass_among b xs o t rs)
          → (c : Bool)
          → AtMost (over (if c then max (low_part b box r) (greatest_of (low_part b box) o t rs) else
          greatest_of (low_part b box) o t rs) (255 * billion))
          (if c then greater (strength b xs r) (mass_among b xs o t rs) else mass_among b xs o t rs)
      by_bool rest true = joined_least (255 * billion) (low_part b box r) (greatest_of (low_part b box) o t rs)
          (strength b xs r) (mass_among b xs o t rs) w.between.low.right rest_proper part rest
      by_bool rest false = rest

  -- its bytes' mass is at least so much, and at most
  pub term_bytes : (t : ℕ) (rs : List Rule) → All (λ r. IfSome r.weight IsWeight) rs
      → (greatest_of (λ r. (rule_byte_span b box r).low) o t rs ≤ byte_mass_among b bytes o t rs)
      × (byte_mass_among b bytes o t rs ≤ greatest_of (λ r. (rule_byte_span b box r).high) o t rs)
  term_bytes t [] hw = (omega arith, omega arith)
  term_bytes t (r ∷ rs) hw = by_bool (term_bytes t rs (λ k d i. hw (suc k) d (omega arith))) (concludes r o t)
    where
      w : IsWithinSpans billion (strength b xs r) (byte_strength b bytes r) (rule_deviation e r) (rule_span b box r)
          (rule_byte_span b box r)
      w = rule_within b box bytes xs e l r (hw 0 r (omega arith))

      by_bool : (greatest_of (λ r. (rule_byte_span b box r).low) o t rs ≤ byte_mass_among b bytes o t rs)
          × (byte_mass_among b bytes o t rs ≤ greatest_of (λ r. (rule_byte_span b box r).high) o t rs)
          → (c : Bool)
          → ((if c then max (rule_byte_span b box r).low (greatest_of (λ r. (rule_byte_span b box r).low) o t rs) else
          greatest_of (λ r. (rule_byte_span b box r).low) o t rs)
          ≤ (if c then max (byte_strength b bytes r) (byte_mass_among b bytes o t rs) else byte_mass_among b bytes o t
          rs))
          × ((if c then max (byte_strength b bytes r) (byte_mass_among b bytes o t rs) else byte_mass_among b bytes o t
          rs)
          ≤ (if c then max (rule_byte_span b box r).high (greatest_of (λ r. (rule_byte_span b box r).high) o t rs) else
          greatest_of (λ r. (rule_byte_span b box r).high) o t rs))
      by_bool rest true = (max-mono w.ordered.low rest.0, max-mono w.ordered.high rest.1)
      by_bool rest false = rest

-- ---- what is read from fractions of one value

-- ---- times a weight

pub times_same : (f g : Fraction) (w : ℕ) → IsSame f g → IsSame (times f w) (times g w)
times_same f g w a = record {
  left = times_proper f w a.left;
  right = times_proper g w a.right;
  below = times_mono f g w a.below;
  above = times_mono g f w a.above;
}

-- ---- what is read

both_ways : {m n : ℕ} → m ≤ n → n ≤ m → m ≡ n
both_ways l k = omega arith

floor_below : (c : ℕ) (f g : Fraction) → IsProper f → IsProper g → AtMost f g → f.num * c / f.den ≤ g.num * c / g.den
floor_below c f g pf pg l =
    let q = f.num * c / f.den in
    let a : q * f.den ≤ f.num * c = (let p = pf.pos in omega arith) in
    let b : (q * f.den) * g.den ≤ (f.num * c) * g.den = mul-le-mul_right g.den a in
    let d : (f.num * g.den) * c ≤ (g.num * f.den) * c = mul-le-mul_right c l.cross in
    let e : (q * g.den) * f.den ≤ (g.num * c) * f.den = omega arith in
    le-div q (g.num * c) g.den pg.pos (le_of_mul-le-mul_right e pf.pos)

floor_same : (c : ℕ) (f g : Fraction) → IsSame f g → f.num * c / f.den ≡ g.num * c / g.den
floor_same c f g a = both_ways (floor_below c f g a.left a.right a.below) (floor_below c g f a.right a.left a.above)

pub down_same : (f g : Fraction) → IsSame f g → parts_down f ≡ parts_down g
down_same f g a = floor_same billion f g a

turned : (c n d : ℕ) → c * n / d ≡ n * c / d
turned c n d = let e : c * n ≡ n * c = omega arith in ap (λ m. m / d) e

pub part_same : (f g : Fraction) → IsSame f g → 255 * f.num / f.den ≡ 255 * g.num / g.den
part_same f g a = subst (λ m. m ≡ 255 * g.num / g.den) (sym (turned 255 f.num f.den))
    (subst (λ m. f.num * 255 / f.den ≡ m) (sym (turned 255 g.num g.den)) (floor_same 255 f g a))

up_below : (f g : Fraction) → IsProper f → IsProper g → AtMost f g → parts_up f ≤ parts_up g
up_below f g pf pg l =
    let e = parts_up g in
    let a : g.num * billion ≤ e * g.den = le-up_div (g.num * billion) g.den pg.pos in
    let b : (g.num * billion) * f.den ≤ (e * g.den) * f.den = mul-le-mul_right f.den a in
    let d : (f.num * g.den) * billion ≤ (g.num * f.den) * billion = mul-le-mul_right billion l.cross in
    let h : (f.num * billion) * g.den ≤ (e * f.den) * g.den = omega arith in
    up_div-le (f.num * billion) f.den e pf.pos (le_of_mul-le-mul_right h pg.pos)

pub up_same : (f g : Fraction) → IsSame f g → parts_up f ≡ parts_up g
up_same f g a = both_ways (up_below f g a.left a.right a.below) (up_below g f a.right a.left a.above)

pub below_same : (f g h : Fraction) → IsSame f g → IsBelow f h → IsBelow g h
below_same f g h a l = ⊎_elim
    (λ (k : g.num * h.den < h.num * g.den). record { cross = k })
    (λ (k : h.num * g.den ≤ g.num * h.den). absurd
    (let reached : AtMost h f = AtMost-trans h g f a.right (record { cross = k }) a.above in
    let x = reached.cross in let y = l.cross in omega arith))
    (cases_lt (g.num * h.den) (h.num * g.den))

pub none_same : (f g : Fraction) → IsSame f g → f.num ≡ 0 → g.num ≡ 0
none_same f g a z = none_below g f a.left a.above z

pub some_same : (f g : Fraction) → IsSame f g → 0 < f.num → 0 < g.num
some_same f g a some = ⊎_elim
    (λ (k : 0 < g.num). k)
    (λ (k : g.num ≤ 0). absurd (let z = none_below f g a.right a.below (omega arith) in omega arith))
    (cases_lt 0 g.num)

-- ---- faults

pub strong_same : (leaf : Leaf) (f : Fraction) (n : ℕ) (r : Span Fraction) (m : Span ℕ) (fault : LeafFault)
    → IsSame f r.low → n ≡ m.low → IsStrongFault leaf (only f) (only n) fault → IsStrongFault leaf r m fault
strong_same leaf f n r m fault a e (weak l) =
    subst (λ k. IsStrongFault leaf r m (Weak leaf.rule leaf.k (record { 0 = k }))) (sym (down_same f r.low a))
    (weak (below_same f r.low (over leaf.k 255) a l))
strong_same leaf f n r m fault a e (still l none) =
    still (AtMost-trans (over leaf.k 255) f r.low a.left l a.below) (sym e ∙ none)

pub silent_same : (k : ℕ) (f : Fraction) (n : ℕ) (r : Span Fraction) (m : Span ℕ) (fault : LeafFault)
    → IsSame f r.high → n ≡ m.high → IsSilentFault k (only f) (only n) fault → IsSilentFault k r m fault
silent_same k f n r m fault a e (silent some) =
    subst (λ j. IsSilentFault k r m (Silent k (record { 0 = j }))) (sym (up_same f r.high a))
    (silent (some_same f r.high a some))
silent_same k f n r m fault a e (loud none some) =
    subst (λ j. IsSilentFault k r m (Loud k j)) (sym e) (loud (none_same f r.high a none) (subst (λ j. 0 < j) e some))
