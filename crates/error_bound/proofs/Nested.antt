-- Bounds by their parts, and how they fall on a smaller box and with the parts.
use Rattle.std.proofs.Common.{◌≡◌, ℕ, ◌*◌, ◌<◌, ◌≤◌, true, false, cond, min, ap, arith, mul-le-mul_right}
use Rattle.std.proofs.Common.{le_of_mul-le-mul_right, mul-pos, zero, suc, refl, ◌-◌, ◌+◌, List, length, get_or, Option}
use Rattle.std.proofs.Common.{Some, None, max, Bool, [], ◌∷◌, sym, ◌∙◌}
use Rattle.std.proofs.{lemmas.Option.slice_get_within, lemmas.Bool.Decides.nat_tests, lemmas.Int.ints}
use Rattle.std.specs.Prelude.{◌==◌, ◌<ℤ◌, slice_get, All, if◌then◌else◌}
use Rattle.fz_num.specs.Fractions.{Fraction, over, IsProper, AtMost, up_div, none}
use Rattle.fz_num.specs.{declared.dec.Dec.Dec, Decimals.distance}
use Rattle.fz_num.proofs.Algebra.{le-up_div, up_div-le, AtMost-trans}
use Rattle.fuzzy_meaning.specs.Blocks.{IsValidOutput, IsValid, IsValidInput, IsValidTerm, input_at, IsValidRule}
use Rattle.fuzzy_meaning.specs.{declared.block.Trapezoid.Trapezoid, Blocks.HasTerm, Blocks.IsValidCondition}
use Rattle.fuzzy_meaning.specs.{declared.block.Output.Output, Meaning.weight_of, Meaning.concludes, Places.points_of}
use Rattle.fuzzy_meaning.specs.{declared.block.Block.Block, declared.block.Input.Input, declared.block.Rule.Rule}
use Rattle.fuzzy_meaning.specs.Conditions.{Condition}
use Rattle.error_bound.specs.Bounds.{plus, in_millionths, ratio_bound, strong_bound, silent_bound, greatest_offset}
use Rattle.error_bound.specs.Laws.{BoundsFallWithParts, IsInside, LeavesHoldInside, BoundsFallInside}
use Rattle.error_bound.specs.Boxes.{degrees_over, grades_over, least_from, greatest_from, literal_span}
use Rattle.error_bound.specs.Errors.{billion, eps, AreTermErrors, rule_error, rule_rise, rule_fall, weight_error}
use Rattle.error_bound.specs.Errors.{floor_error, output_error_among}
use Rattle.error_bound.specs.Boxes.{literal_byte_span, rule_span, rule_byte_span, IsBox}
use Rattle.error_bound.specs.{Bounds.bound, Bounds.errors_from, Bounds.IsBound, declared.boxes.Interval.Interval}
use Rattle.error_bound.specs.{Spans.Span, Spans.only, Spans.deviation, Laws.BoundsAreDetermined}
use Rattle.error_bound.specs.{Leaves.Holds, Leaves.strong, Leaves.silent, declared.boxes.Leaf.Leaf}
use Rattle.fz_list.proofs.Algebra.{All-slice_get, some_at, IsSomeAnd-some, IsSomeAnd-within}
use Rattle.byte_scaling.specs.{Cells.cell_start, Cells.cell_end, Weights.weight_byte_of}
use Rattle.point_slope.specs.Tables.{row_of, grade_of}
use Rattle.error_bound.proofs.SpanLemmas.{IsNarrower, narrower, AreOrdered, ordered-refl, truths_monotone}
use Rattle.error_bound.proofs.{Literals.cells_bounded, Literals.wider, Literals.width_pos, Literals.least_le}
use Rattle.error_bound.proofs.CellErrors.{le_greatest}
use Rattle.error_bound.proofs.RuleLemmas.{times_ordered, scaled-mono, none_below}
use Rattle.error_bound.proofs.{CellErrors.low_proper, CellErrors.high_proper, SpanLemmas.levels_monotone}
use Rattle.fuzzy_meaning.proofs.Algebra.{evaluate-related}

-- an order of numbers that are known by equations
pub moved : {a b c d : ℕ} → a ≡ c → b ≡ d → c ≤ d → a ≤ b
moved e f h = omega arith

pub bound_strong : (x : Output) (h k s : ℕ) → 1 ≤ k
    → (if k == 0 then silent_bound x else strong_bound x h s k) ≡ strong_bound x h s k
bound_strong x h k s p = let e : (k == 0) ≡ false = grind (arith, nat_tests) in
    ap (λ c. cond c (silent_bound x) (strong_bound x h s k)) e

pub bound_silent : (x : Output) (h k s : ℕ) → k ≡ 0
    → (if k == 0 then silent_bound x else strong_bound x h s k) ≡ silent_bound x
bound_silent x h k s p = let e : (k == 0) ≡ true = grind (arith, nat_tests) in
    ap (λ c. cond c (silent_bound x) (strong_bound x h s k)) e

plus-mono : (f g h : Fraction) → AtMost g h → AtMost (plus f g) (plus f h)
plus-mono f g h l =
    let m : (g.num * h.den) * (f.den * f.den) ≤ (h.num * g.den) * (f.den * f.den) =
    mul-le-mul_right (f.den * f.den) l.cross in
    record { cross = omega arith }

plus-less : (f g h : Fraction) → AtMost f g → AtMost (plus f h) (plus g h)
plus-less f g h l =
    let m : (f.num * g.den) * (h.den * h.den) ≤ (g.num * f.den) * (h.den * h.den) =
    mul-le-mul_right (h.den * h.den) l.cross in
    record { cross = omega arith }

plus_proper : (f g : Fraction) → IsProper f → IsProper g → IsProper (plus f g)
plus_proper f g pf pg = record { pos = mul-pos pf.pos pg.pos }

both-mono : (f g h k : Fraction) → IsProper f → IsProper g → IsProper h → IsProper k → AtMost f h → AtMost g k
    → AtMost (plus f g) (plus h k)
both-mono f g h k pf pg ph pk l m =
    AtMost-trans (plus f g) (plus h g) (plus h k) (plus_proper h g ph pg) (plus-less f h g l) (plus-mono h g k m)

pub in_millionths-mono : (f g : Fraction) → IsProper f → IsProper g → AtMost f g → in_millionths f ≤ in_millionths g
in_millionths-mono f g pf pg l =
    let e = up_div (1000000 * g.num) g.den in
    let a = le-up_div (1000000 * g.num) g.den pg.pos in
    let b : (1000000 * g.num) * f.den ≤ (e * g.den) * f.den = mul-le-mul_right f.den a in
    let c = l.cross in
    let d : (1000000 * f.num) * g.den ≤ (e * f.den) * g.den = omega arith in
    least (up_div-le (1000000 * f.num) f.den e pf.pos (le_of_mul-le-mul_right d pg.pos))
  where
    least : {a b : ℕ} → a ≤ b → min 1000000 a ≤ min 1000000 b
    least h = omega arith

-- a Bound rises with the ratio and with delta, and falls with the parts to a byte
pub ratio-mono : (w h j num den num' den' d d' : ℕ) → 0 < w → 1 ≤ j → j ≤ h → 0 < den → 0 < den'
    → num * den' ≤ num' * den → d ≤ d' → ratio_bound w h num den d ≤ ratio_bound w j num' den' d'
ratio-mono w h j num den num' den' d d' wp jp hj p p' l m =
    let hp : 0 < 255 * h = omega arith in
    let jq : 0 < 255 * j = omega arith in
    let w5 : 0 < 255 * w = omega arith in
    let f = over num den in
    let f' = over num' den' in
    let g = over d (255 * w) in
    let g' = over d' (255 * w) in
    let k = over 1 (255 * h) in
    let k' = over 1 (255 * j) in
    let pf : IsProper f = record { pos = p } in
    let pf' : IsProper f' = record { pos = p' } in
    let pg : IsProper g = record { pos = w5 } in
    let pg' : IsProper g' = record { pos = w5 } in
    let pk : IsProper k = record { pos = hp } in
    let pk' : IsProper k' = record { pos = jq } in
    let lf : AtMost f f' = record { cross = l } in
    let lg : AtMost g g' = record { cross = mul-le-mul_right (255 * w) m } in
    let lk : AtMost k k' = record { cross = omega arith } in
    let rest = both-mono g k g' k' pg pk pg' pk' lg lk in
    in_millionths-mono (plus f (plus g k)) (plus f' (plus g' k')) (plus_proper f (plus g k) pf (plus_proper g k pg pk))
    (plus_proper f' (plus g' k') pf' (plus_proper g' k' pg' pk'))
    (both-mono f (plus g k) f' (plus g' k') pf (plus_proper g k pg pk) pf' (plus_proper g' k' pg' pk') lf rest)

-- ---- a wide answer's Bound is at most that of bytes

strong-least : (x : Output) (h s k : ℕ) → x.lo.0 <ℤ x.hi.0 → 1 ≤ h → 1 ≤ k → strong_bound x h s k ≤ strong_bound x 1 s k
strong-least x h s k range hh hk =
    let w = distance x.lo x.hi in
    let d = greatest_offset x x.singletons in
    let wp : 0 < w = omega (arith, ints) in
    let kp : 0 < billion * k = omega arith in
    ratio-mono w h 1 (s * 255) (billion * k) (s * 255) (billion * k) d d wp (omega arith) hh kp kp (omega arith)
    (omega arith)

-- no Bound rises
wide_bound-le : (b : Block) (e : ℕ → ℕ → Span ℕ) (o : ℕ) (x : Output) (h : ℕ) (leaf : Leaf) → x.lo.0 <ℤ x.hi.0 → 1 ≤ h
    → bound b e o x h leaf ≤ bound b e o x 1 leaf
wide_bound-le b e o x h leaf range hh = by_k leaf.k
  where
    by_k : (k : ℕ) → (if k == 0 then silent_bound x else strong_bound x h (errors_from b e o 1 x.singletons) k)
        ≤ (if k == 0 then silent_bound x else strong_bound x 1 (errors_from b e o 1 x.singletons) k)
    by_k zero = omega arith
    by_k (suc k) = moved (bound_strong x h (suc k) (errors_from b e o 1 x.singletons) (omega arith))
        (bound_strong x 1 (suc k) (errors_from b e o 1 x.singletons) (omega arith))
        (strong-least x h (errors_from b e o 1 x.singletons) (suc k) range hh (omega arith))

pub bounds_fall_with_parts : BoundsFallWithParts
bounds_fall_with_parts b box o x h leaf n valid ex some p =
    let vx = All-slice_get IsValidOutput b.outputs (o - 1) x valid.outputs ex in
    let e = p.errors in
    let le = wide_bound-le b e o x h leaf vx.range some in
    (bound b e o x h leaf, record { errors = e; are_errors = p.are_errors; is = refl }, least_is le p.is)
  where
    least_is : {a c d : ℕ} → a ≤ c → d ≡ c → a ≤ d
    least_is h e = omega arith

-- ---- on a smaller box spans are narrower, errors no greater, leaves that hold hold, and Bounds do not rise

-- the least of some is at least what is at most each
le_least : (g : ℕ → ℕ) (p n m : ℕ) → ((v : ℕ) → p ≤ v → v ≤ p + n → m ≤ g v) → m ≤ least_from g p n
le_least g p zero m h = h p (omega arith) (omega arith)
le_least g p (suc n) m h = let a = le_least g p n m (λ v l k. h v l (omega arith)) in
    let c = h (p + suc n) (omega arith) (omega arith) in omega arith

greatest_le : (g : ℕ → ℕ) (p n m : ℕ) → ((v : ℕ) → p ≤ v → v ≤ p + n → g v ≤ m) → greatest_from g p n ≤ m
greatest_le g p zero m h = h p (omega arith) (omega arith)
greatest_le g p (suc n) m h = let a = greatest_le g p n m (λ v l k. h v l (omega arith)) in
    let c = h (p + suc n) (omega arith) (omega arith) in omega arith

-- a span and a byte span within others
pub record IsNarrow (s r : Span Fraction) (m q : Span ℕ) : Type 0 where
  pub span : IsNarrower AreOrdered s r
  pub byte_span : IsNarrower (λ m n. m ≤ n) m q

only_none : IsNarrow (only none) (only none) (only 0) (only 0)
only_none =
    let same = ordered-refl none (record { pos = omega arith }) in
    record {
      span = record { low = same; high = same };
      byte_span = record { low = omega arith; high = omega arith };
    }

module _ (b : Block) (small box : List Interval) (valid : IsValid b) (count : length box ≡ length b.inputs)
    (ins : IsInside small box) (some : IsBox small) where
  found : (i t : ℕ) (x : Input) (term : Trapezoid) (u v : Interval) → input_at b i ≡ Some x
      → slice_get x.terms (t - 1) ≡ Some term → slice_get small (i - 1) ≡ Some u → slice_get box (i - 1) ≡ Some v
      → IsNarrow (degrees_over x term u) (degrees_over x term v) (grades_over x term u) (grades_over x term v)
  found i t x term u v ex et eu ev =
      let vx : IsValidInput x = All-slice_get IsValidInput b.inputs (i - 1) x valid.inputs ex in
      let vt : IsValidTerm x.lo x.hi term = All-slice_get (IsValidTerm x.lo x.hi) x.terms (t - 1) term vx.terms et in
      let w = distance x.lo x.hi in
      let k = points_of x term in
      let g = grade_of (row_of x term) in
      let n = ins.within (i - 1) u v eu ev in
      let n0 = n.0 in
      let n1 = n.1 in
      let f = (some.some (i - 1) u eu).0 in
      let at_small = cells_bounded x term u vx vt f in
      let at_box = cells_bounded x term v vx vt (omega arith) in
      let ps : (m : ℕ) → IsProper (over m 256) = λ m. record { pos = omega arith } in
      let pl : (y : Interval) → IsProper (degrees_over x term y).low =
      λ y. low_proper k (cell_start w y.from) (cell_end w y.to) (record { pos = omega arith })
      (record { pos = omega arith }) in
      let ph : (y : Interval) → IsProper (degrees_over x term y).high =
      λ y. high_proper k (cell_start w y.from) (cell_end w y.to) (y.to == 255) (record { pos = omega arith })
      (record { pos = omega arith }) in
      let wp = width_pos x vx in
      record {
        span = record {
          low = record {
            left = pl v;
            right = pl u;
            below = at_small.greatest (degrees_over x term v).low (pl v)
                (λ y py inn. at_box.lower y py (wider w v.from v.to u.from u.to y wp py n0 n1 inn));
          };
          high = record {
            left = ph u;
            right = ph v;
            below = at_small.least (degrees_over x term v).high (ph v)
                (λ y py inn. at_box.upper y py (wider w v.from v.to u.from u.to y wp py n0 n1 inn));
          };
        };
        byte_span = record {
          low = le_least g u.from (u.to - u.from) (least_from g v.from (v.to - v.from))
              (λ j l h. least_le g v.from (v.to - v.from) j (omega arith) (omega arith));
          high = greatest_le g u.from (u.to - u.from) (greatest_from g v.from (v.to - v.from))
              (λ j l h. le_greatest g v.from (v.to - v.from) j (omega arith) (omega arith));
        };
      }

  by_term : (i t : ℕ) (x : Input) → input_at b i ≡ Some x → (o : Option Trapezoid) → slice_get x.terms (t - 1) ≡ o
      → IsNarrow (literal_span b small i t) (literal_span b box i t) (literal_byte_span b small i t)
      (literal_byte_span b box i t)
  by_term i t x ex None et = rw (ex, et) only_none
  by_term i t x ex (Some term) et =
      let l : i - 1 < length b.inputs = slice_get_within b.inputs (i - 1) x ex in
      let c1 = ins.count in
      let u = some_at small (i - 1) (omega arith) in
      let v = some_at box (i - 1) (omega arith) in
      let eu : slice_get small (i - 1) ≡ Some u.0 = u.1 in
      let ev : slice_get box (i - 1) ≡ Some v.0 = v.1 in
      rw (ex, et, eu, ev) (found i t x term u.0 v.0 ex et eu ev)

  pub by_input : (i t : ℕ) (o : Option Input) → input_at b i ≡ o
      → IsNarrow (literal_span b small i t) (literal_span b box i t) (literal_byte_span b small i t)
      (literal_byte_span b box i t)
  by_input i t None ex = rw ex only_none
  by_input i t (Some x) ex = by_term i t x ex (slice_get x.terms (t - 1)) refl

  pub rule_narrow : (r : Rule)
      → IsNarrow (rule_span b small r) (rule_span b box r) (rule_byte_span b small r) (rule_byte_span b box r)
  rule_narrow r =
      let w = weight_of r.weight in
      let v = weight_byte_of r.weight + 1 in
      let literals : (i t : ℕ) → IsNarrow (literal_span b small i t) (literal_span b box i t)
      (literal_byte_span b small i t) (literal_byte_span b box i t) = λ i t. by_input i t (input_at b i) refl in
      let h = narrower truths_monotone (λ i t. (literals i t).span) r.cond in
      let k = narrower levels_monotone (λ i t. (literals i t).byte_span) r.cond in
      record {
        span = record { low = times_ordered _ _ w h.low; high = times_ordered _ _ w h.high };
        byte_span = record { low = scaled-mono _ _ v k.low; high = scaled-mono _ _ v k.high };
      }

  -- a leaf that holds on a box holds on a smaller one
  pub holds_inside : (o : ℕ) (leaf : Leaf) → Holds b box o leaf → Holds b small o leaf
  holds_inside o leaf (strong r from k_from k_to er s) =
      let h = rule_narrow r in
      let low = AtMost-trans (over leaf.k 255) (rule_span b box r).low (rule_span b small r).low h.span.low.left s.low
      h.span.low.below in
      strong r from k_from k_to er
      (record {
        term = s.term;
        concludes_it = s.concludes_it;
        low = low;
        byte_low =
            still_some s.byte_low h.byte_span.low;
      })
    where
      still_some : {a c : ℕ} → 1 ≤ a → a ≤ c → 1 ≤ c
      still_some h k = omega arith
  holds_inside o leaf (silent z k every) = silent z k (λ n d l t c.
      let r = every n d l t c in
      let h = rule_narrow (get_or b.rules n d) in
      record {
        high = none_below (rule_span b small (get_or b.rules n d)).high
            (rule_span b box (get_or b.rules n d)).high h.span.high.right h.span.high.below r.high;
        byte_high =
            still_none h.byte_span.high r.byte_high;
      })
    where
      still_none : {a c : ℕ} → a ≤ c → c ≡ 0 → a ≡ 0
      still_none h k = omega arith

pub leaves_hold_inside : LeavesHoldInside
leaves_hold_inside b small box o leaf valid count ins some h = holds_inside b small box valid count ins some o leaf h

-- ---- on a smaller box no eps rises, and no Bound

-- neither side is greater
abbrev IsLess : Span ℕ → Span ℕ → Type 0
IsLess s r = (s.low ≤ r.low) × (s.high ≤ r.high)

max-mono : (a b c d : ℕ) → a ≤ c → b ≤ d → max a b ≤ max c d
max-mono a b c d h k = omega arith

module _ (b : Block) (small box : List Interval) (e f : ℕ → ℕ → Span ℕ) (count : length box ≡ length b.inputs)
    (ins : IsInside small box) (es : AreTermErrors b small e) (fs : AreTermErrors b box f) where
  less_literal : (i t : ℕ) → HasTerm b i t → IsLess (e i t) (f i t)
  less_literal i t has =
      let in_block : i - 1 < length b.inputs =
      IsSomeAnd-within (λ x. t ≤ length x.terms) b.inputs (i - 1) has.term_to in
      let x = some_at b.inputs (i - 1) in_block in
      let few : t ≤ length x.0.terms =
      IsSomeAnd-some (λ y. t ≤ length y.terms) (slice_get b.inputs (i - 1)) x.0 x.1 has.term_to in
      let from = has.term_from in
      let c = ins.count in
      let term = some_at x.0.terms (t - 1) (omega arith) in
      let u = some_at small (i - 1) (omega arith) in
      let v = some_at box (i - 1) (omega arith) in
      let n = ins.within (i - 1) u.0 v.0 u.1 v.1 in
      let n0 = n.0 in
      let n1 = n.1 in
      let p = es.error i t x.0 term.0 u.0 x.1 term.1 u.1 in
      let q = fs.error i t x.0 term.0 v.0 x.1 term.1 v.1 in
      p.least (f i t) (λ m l h y inn. q.covers m (omega arith) (omega arith) y inn)

  less_deviation : (c : Condition) → IsValidCondition b c → IsLess (deviation e c) (deviation f c)
  less_deviation = evaluate-related IsLess
      (record {
        none = λ or. (omega arith, omega arith);
        join = λ or k m l n h i. (
          max-mono k.low m.low l.low n.low h.0 i.0,
          max-mono k.high m.high l.high n.high h.1 i.1,
        );
      })
      (λ m n h. (h.1, h.0)) less_literal

  pub less_rise : (r : Rule) → IsValidRule b r → rule_rise e r ≤ rule_rise f r
  less_rise r h = let s = less_deviation r.cond h.condition in let l = s.1 in omega arith

  pub less_fall : (r : Rule) → IsValidRule b r → rule_fall e r ≤ rule_fall f r
  less_fall r h = let s = less_deviation r.cond h.condition in let l = s.0 in omega arith

  pub less_rule : (r : Rule) → IsValidRule b r → rule_error e r ≤ rule_error f r
  less_rule r h = more (weight_error r) (floor_error r) (less_deviation r.cond h.condition)
    where
      more : {p q : Span ℕ} (w z : ℕ) → IsLess p q → eps p + w + z ≤ eps q + w + z
      more w z h = let l = h.0 in let r = h.1 in omega arith

  less_output : (o t : ℕ) (rs : List Rule) → All (IsValidRule b) rs
      → output_error_among e o t rs ≤ output_error_among f o t rs
  less_output o t [] h = omega arith
  less_output o t (r ∷ rs) h =
      by_bool (less_rule r (h 0 r (omega arith))) (less_output o t rs (λ k d l. h (suc k) d (omega arith)))
      (concludes r o t)
    where
      by_bool : rule_error e r ≤ rule_error f r → output_error_among e o t rs ≤ output_error_among f o t rs → (c : Bool)
          → (if c then max (rule_error e r) (output_error_among e o t rs) else output_error_among e o t rs)
          ≤ (if c then max (rule_error f r) (output_error_among f o t rs) else output_error_among f o t rs)
      by_bool h k true = max-mono (rule_error e r) (output_error_among e o t rs) (rule_error f r)
          (output_error_among f o t rs) h k
      by_bool h k false = k

  less_errors : (valid : IsValid b) (o t : ℕ) (us : List Dec) → errors_from b e o t us ≤ errors_from b f o t us
  less_errors valid o t [] = omega arith
  less_errors valid o t (u ∷ us) = sum (less_output o t b.rules valid.rules) (less_errors valid o (t + 1) us)
    where
      sum : {p q w z : ℕ} → p ≤ q → w ≤ z → p + w ≤ q + z
      sum h k = omega arith

strong-less : (x : Output) (h s r k : ℕ) → x.lo.0 <ℤ x.hi.0 → 1 ≤ h → 1 ≤ k → s ≤ r
    → strong_bound x h s k ≤ strong_bound x h r k
strong-less x h s r k range hh hk le =
    let w = distance x.lo x.hi in
    let d = greatest_offset x x.singletons in
    let wp : 0 < w = omega (arith, ints) in
    let kp : 0 < billion * k = omega arith in
    let m : s * (255 * (billion * k)) ≤ r * (255 * (billion * k)) = mul-le-mul_right (255 * (billion * k)) le in
    ratio-mono w h h (s * 255) (billion * k) (r * 255) (billion * k) d d wp hh (omega arith) kp kp (omega arith)
    (omega arith)

pub bound_inside : (b : Block) (small box : List Interval) (o : ℕ) (x : Output) (h : ℕ) (leaf : Leaf) (n m : ℕ)
    → IsValid b → x.lo.0 <ℤ x.hi.0 → 1 ≤ h → length box ≡ length b.inputs → IsInside small box
    → IsBound b small o x h leaf n → IsBound b box o x h leaf m → n ≤ m
bound_inside b small box o x h leaf n m valid range hh count ins p q =
    let s = less_errors b small box p.errors q.errors count ins p.are_errors q.are_errors valid o 1 x.singletons in
    moved p.is q.is (by_k leaf.k s)
  where
    by_k : {s r : ℕ} → (k : ℕ) → s ≤ r
        → (if k == 0 then silent_bound x else strong_bound x h s k)
        ≤ (if k == 0 then silent_bound x else strong_bound x h r k)
    by_k zero l = omega arith
    by_k {s} {r} (suc k) l =
        moved (bound_strong x h (suc k) s (omega arith)) (bound_strong x h (suc k) r (omega arith))
        (strong-less x h s r (suc k) range hh (omega arith) l)

pub bounds_fall : BoundsFallInside
bounds_fall b small box o x h leaf n m valid ex hh count ins p q =
    bound_inside b small box o x h leaf n m valid
    (All-slice_get IsValidOutput b.outputs (o - 1) x valid.outputs ex).range hh count ins p q

pub inside_itself : (box : List Interval) → IsInside box box
inside_itself box = record { count = refl; within = at }
  where
    at : (k : ℕ) (u v : Interval) → slice_get box k ≡ Some u → slice_get box k ≡ Some v
        → (v.from ≤ u.from) × (u.to ≤ v.to)
    at k u v e f =
        let same : u ≡ v = cc in
        let a : u.from ≡ v.from = ap (λ i. i.from) same in
        let c : u.to ≡ v.to = ap (λ i. i.to) same in
        (omega arith, omega arith)

pub bounds_unique : BoundsAreDetermined
bounds_unique b box o x h leaf n m valid count p q =
    let there = less_errors b box box p.errors q.errors count (inside_itself box) p.are_errors q.are_errors valid o 1
    x.singletons in
    let back = less_errors b box box q.errors p.errors count (inside_itself box) q.are_errors p.are_errors valid o 1
    x.singletons in
    let same : errors_from b p.errors o 1 x.singletons ≡ errors_from b q.errors o 1 x.singletons =
    omega (arith, there, back) in
    p.is ∙ ap (λ k. if leaf.k == 0 then silent_bound x else strong_bound x h k leaf.k) same ∙ sym q.is
