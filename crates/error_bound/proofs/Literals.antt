-- Conditions and literals on a box: errors, and the spans that truths and levels lie in.
use Rattle.std.proofs.Common.{ℕ, ◌-◌, ◌≤◌, min, Bool, true, false, arith, ◌≡◌, ⊎_elim, zero, suc, ◌+◌, ◌*◌, ◌<◌}
use Rattle.std.proofs.Common.{List, length, Option, Some, None, refl, subst, mul-le-mul_right, mul-pos}
use Rattle.std.proofs.{lemmas.Option.slice_get_within, lemmas.Option.slice_get-get_or, lemmas.Bool.Decides.nat_tests}
use Rattle.std.proofs.{lemmas.Bool.cases_lt, lemmas.Int.ints}
use Rattle.fz_num.specs.Fractions.{Fraction, IsProper, AtMost, lesser, one_minus, one, none, IsNear, over}
use Rattle.fz_num.specs.{declared.dec.Dec.Dec, Decimals.distance}
use Rattle.fz_num.proofs.Algebra.{AtMost-refl, AtMost-trans, IsProper-lesser, IsProper-greater, AtMost-lesser_left}
use Rattle.fz_num.proofs.Algebra.{AtMost-greater, IsNear-lesser, IsNear-greater, IsNear-one_minus}
use Rattle.fz_num.proofs.Algebra.{IsNear-more}
use Rattle.fuzzy_meaning.specs.Conditions.{Condition, is, negation, all, any, Conditions, end, also, levels, level}
use Rattle.fuzzy_meaning.specs.Places.{Points, points_of, rise_at, fall_at, degree_at, NumbersHaveTheirDegrees}
use Rattle.fuzzy_meaning.specs.Blocks.{IsValid, IsValidInput, IsValidTerm, input_at}
use Rattle.fuzzy_meaning.specs.{Meaning.truths, Meaning.truth, Meaning.literal_degree, declared.block.Block.Block}
use Rattle.fuzzy_meaning.specs.{declared.block.Trapezoid.Trapezoid, declared.block.Input.Input, Degrees.degree}
use Rattle.fuzzy_meaning.specs.Conditions.{evaluate_parts}
use Rattle.error_bound.specs.Boxes.{LieIn, LieInCells, degrees_over, grades_over, least_from}
use Rattle.error_bound.specs.Spans.{Span, only, span, byte_span, deviation, spans, reversed, greatest}
use Rattle.error_bound.specs.Errors.{billion, eps, IsTermDeviation, IsTermError, AreTermErrors}
use Rattle.error_bound.specs.{Boxes.literal_span, Boxes.literal_byte_span, Laws.CellsHaveBounds, Laws.TermErrorsAre}
use Rattle.error_bound.specs.{CellErrors.term_deviation, CellErrors.term_errors, declared.boxes.Interval.Interval}
use Rattle.error_bound.proofs.Sides.{none_least, low_bounds, high_bounds, side_rise_proper, degree_proper, rise_all}
use Rattle.error_bound.proofs.SpanLemmas.{IsBetween, between, AreOrdered, ordered-refl, truths_monotone}
use Rattle.error_bound.proofs.CellErrors.{low_proper, high_proper, cells_bounds, cells_least, le_greatest}
use Rattle.error_bound.proofs.{Sides.low_greatest, Sides.high_least, Sides.IsPeaked-points, SpanLemmas.levels_monotone}
use Rattle.std.specs.Prelude.{◌==◌, slice_get, slice_index, if◌then◌else◌}
use Rattle.fz_list.proofs.Algebra.{All-slice_get, some_at}
use Rattle.byte_scaling.specs.Cells.{IsFromTo, inside, at_end, IsInCell, cell_start, cell_end}
use Rattle.point_slope.specs.{Tables.row_of, Tables.grade_of, Bytes.literal_grade}

-- a truth from 0 to 1 that is at most so many parts of t above a byte, and below
pub record IsHeld (t g : ℕ) (f : Fraction) (e : Span ℕ) : Type 0 where
  pub proper : IsProper f
  pub to_one : AtMost f one
  pub to_255 : g ≤ 255
  pub near : IsNear t g f e.high e.low

-- and within spans
pub record IsWithinSpans (t : ℕ) (f : Fraction) (g : ℕ) (e : Span ℕ) (s : Span Fraction) (r : Span ℕ) : Type 0 where
  pub held : IsHeld t g f e
  pub between : IsBetween AreOrdered s f
  pub ordered : IsBetween (λ m n. m ≤ n) r g

minus_one : (f : Fraction) → AtMost (one_minus f) one
minus_one f = record { cross = omega arith }

held_minus : (t g : ℕ) (e : Span ℕ) (f : Fraction) → IsHeld t g f e
    → IsHeld t (255 - g) (one_minus f) (reversed (λ n. n) e)
held_minus t g e f h =
    record {
      proper = record { pos = h.proper.pos };
      to_one = minus_one f;
      to_255 = omega arith;
      near = IsNear-one_minus t g e.high e.low f h.to_255 h.to_one h.near;
    }

-- an OR, or an AND
pub held_joined : (t : ℕ) (or : Bool) (g1 g2 : ℕ) (e1 e2 : Span ℕ) (f1 f2 : Fraction) → IsHeld t g1 f1 e1
    → IsHeld t g2 f2 e2
    → IsHeld t ((levels 255).join or g1 g2) (truths.join or f1 f2) ((spans greatest).join or e1 e2)
held_joined t true g1 g2 e1 e2 f1 f2 h1 h2 =
    record {
      proper = IsProper-greater f1 f2 h1.proper h2.proper;
      to_one = AtMost-greater f1 f2 one h1.to_one h2.to_one;
      to_255 = (let a = h1.to_255 in let b = h2.to_255 in omega arith);
      near = IsNear-greater t g1 g2 e1.high e2.high e1.low e2.low f1 f2 h1.proper h2.proper h1.near h2.near;
    }
held_joined t false g1 g2 e1 e2 f1 f2 h1 h2 =
    record {
      proper = IsProper-lesser f1 f2 h1.proper h2.proper;
      to_one = AtMost-trans (lesser f1 f2) f1 one h1.proper (AtMost-lesser_left f1 f2) h1.to_one;
      to_255 = (let a = h1.to_255 in omega arith);
      near = IsNear-lesser t g1 g2 e1.high e2.high e1.low e2.low f1 f2 h1.proper h2.proper h1.near h2.near;
    }

-- of no parts
none_held : (t : ℕ) (e : Span ℕ) → IsHeld t 0 none e
none_held t e = record {
  proper = record { pos = omega arith };
  to_one = none_least one;
  to_255 = omega arith;
  near = record { up = omega arith; down = omega arith };
}

no_parts_held : (t : ℕ) (or : Bool) → IsHeld t ((levels 255).none or) (truths.none or) (only 0)
no_parts_held t true = none_held t (only 0)
no_parts_held t false = record {
  proper = record { pos = omega arith };
  to_one = AtMost-refl one;
  to_255 = omega arith;
  near = record { up = omega arith; down = omega arith };
}

pub within_none : (t : ℕ) (e : Span ℕ) → IsWithinSpans t none 0 e (only none) (only 0)
within_none t e =
    let h = none_held t e in
    let same = ordered-refl none h.proper in
    record {
      held = h;
      between = record { low = same; high = same };
      ordered = record { low = omega arith; high = omega arith };
    }

module _ (t : ℕ) (d : ℕ → ℕ → Fraction) (g : ℕ → ℕ → ℕ) (e : ℕ → ℕ → Span ℕ)
    (l : (i k : ℕ) → IsHeld t (g i k) (d i k) (e i k)) where
  mutual
    held : (c : Condition) → IsHeld t (level 255 g c) (truth d c) (deviation e c)
    held (is i k) = l i k
    held (negation c) = held_minus t _ _ _ (held c)
    held (all cs) = parts_held false cs
    held (any cs) = parts_held true cs

    parts_held : (or : Bool) (cs : Conditions)
        → IsHeld t (evaluate_parts (λ n. 255 - n) (levels 255) g or cs) (evaluate_parts one_minus truths d or cs)
        (evaluate_parts (reversed (λ n. n)) (spans greatest) e or cs)
    parts_held or end = no_parts_held t or
    parts_held or (also c cs) = held_joined t or _ _ _ _ _ _ (held c) (parts_held or cs)

pub within_spans : (t : ℕ) (d : ℕ → ℕ → Fraction) (g : ℕ → ℕ → ℕ) (e : ℕ → ℕ → Span ℕ) (s : ℕ → ℕ → Span Fraction)
    (r : ℕ → ℕ → Span ℕ) → ((i k : ℕ) → IsWithinSpans t (d i k) (g i k) (e i k) (s i k) (r i k)) → (c : Condition)
    → IsWithinSpans t (truth d c) (level 255 g c) (deviation e c) (span s c) (byte_span r c)
within_spans t d g e s r l c = record {
  held = held t d g e (λ i k. (l i k).held) c;
  between = between truths_monotone (λ i k. (l i k).between) c;
  ordered = between levels_monotone (λ i k. (l i k).ordered) c;
}

-- ---- the literals of a block on a box: their grades are within the errors, and degrees and grades within the spans

-- a place of an interval lies in each that has its bytes
pub wider : (w p q p' q' : ℕ) (x : Fraction) → 0 < w → IsProper x → p ≤ p' → q' ≤ q
    → IsFromTo (cell_start w p') (cell_end w q') (q' == 255) x → IsFromTo (cell_start w p) (cell_end w q) (q == 255) x
wider w p q p' q' x hw px h1 h2 (inside a b) =
    let m1 : p * (w * x.den) ≤ p' * (w * x.den) = mul-le-mul_right (w * x.den) h1 in
    let m2 : q' * (w * x.den) ≤ q * (w * x.den) = mul-le-mul_right (w * x.den) h2 in
    inside (record { cross = (let c = a.cross in omega arith) }) (record { cross = (let c = b.cross in omega arith) })
wider w p q p' q' x hw px h1 h2 (at_end a b t) =
    let e : q' ≡ 255 = grind (arith, nat_tests) in
    let m1 : p * (w * x.den) ≤ p' * (w * x.den) = mul-le-mul_right (w * x.den) h1 in
    let m2 : q' * (w * x.den) ≤ q * (w * x.den) = mul-le-mul_right (w * x.den) h2 in
    ⊎_elim
    (λ (l : 255 < q).
    let m3 : suc q' * (w * x.den) ≤ q * (w * x.den) = mul-le-mul_right (w * x.den) (omega arith) in
    let some : 0 < w * x.den = mul-pos hw px.pos in
    inside (record { cross = (let c = a.cross in omega arith) }) (record { cross = (let c = b.cross in omega arith) }))
    (λ (l : q ≤ 255).
    let eq : q ≡ 255 = omega arith in
    at_end (record { cross = (let c = a.cross in omega arith) }) (record { cross = (let c = b.cross in omega arith) })
    (grind (arith, nat_tests)))
    (cases_lt 255 q)

pub in_interval : (w p q v : ℕ) (x : Fraction) → 0 < w → p ≤ v → v ≤ q → IsInCell w v x
    → IsFromTo (cell_start w p) (cell_end w q) (q == 255) x
in_interval w p q v x hw h1 h2 c = wider w p q v v x hw c.proper h1 h2 c.place

-- a number among n + 1
pub least_le : (g : ℕ → ℕ) (p n v : ℕ) → p ≤ v → v ≤ p + n → least_from g p n ≤ g v
least_le g p zero v h1 h2 = let e : p ≡ v = omega arith in subst (λ m. g p ≤ g m) e (omega arith)
least_le g p (suc n) v h1 h2 = ⊎_elim
    (λ (l : v < p + suc n). let r = least_le g p n v h1 (omega arith) in omega arith)
    (λ (l : p + suc n ≤ v). let e : p + suc n ≡ v = omega arith in
    subst (λ m. min (least_from g p n) (g (p + suc n)) ≤ g m) e (omega arith))
    (cases_lt v (p + suc n))

degree_one : (t : Points) (x : Fraction) → IsProper x → AtMost (degree_at t x) one
degree_one t x px = AtMost-trans (degree_at t x) (rise_at t.a t.b x) one (side_rise_proper t.a t.b x px)
    (AtMost-lesser_left (rise_at t.a t.b x) (fall_at t.c t.d x)) (rise_all t.a t.b x)

either_small : (c : Bool) (n : ℕ) → n ≤ 255 → (if c then 0 else n) ≤ 255
either_small true n h = omega arith
either_small false n h = h

capped : (n : ℕ) → min 255 n ≤ 255
capped n = omega arith

pub grade-le : (row : List ℕ) (v : ℕ) → grade_of row v ≤ 255
grade-le row v = either_small _ _ (capped _)

-- a term at a byte of the interval and a place of its cell
pub at_place : (i : Input) (t : Trapezoid) (v : Interval) (n : ℕ) (e : Span ℕ) (x : Fraction) → IsTermDeviation i t v e
    → 0 < distance i.lo i.hi → v.from ≤ n → n ≤ v.to → IsInCell (distance i.lo i.hi) n x
    → IsWithinSpans billion (degree_at (points_of i t) x) (grade_of (row_of i t) n) e (degrees_over i t v)
    (grades_over i t v)
at_place i t v n e x er hw h1 h2 c =
    let px = c.proper in
    let w = distance i.lo i.hi in
    let k = points_of i t in
    let s = cell_start w v.from in
    let f = cell_end w v.to in
    let g = grade_of (row_of i t) in
    let ps : IsProper s = record { pos = omega arith } in
    let pf : IsProper f = record { pos = omega arith } in
    let inn = in_interval w v.from v.to n x hw h1 h2 c in
    record {
      held = record {
        proper = degree_proper k x px;
        to_one = degree_one k x px;
        to_255 =
            grade-le (row_of i t) n;
        near = er.covers n h1 h2 x c;
      };
      between = record {
        low = record {
          left = low_proper k s f ps pf;
          right = degree_proper k x px;
          below = low_bounds k s f x (v.to == 255) ps pf px inn;
        };
        high = record {
          left = degree_proper k x px;
          right = high_proper k s f (v.to == 255) ps pf;
          below = high_bounds k s f x (v.to == 255) ps pf px inn;
        };
      };
      ordered = record {
        low = least_le g v.from (v.to - v.from) n h1 (omega arith);
        high =
            le_greatest g v.from (v.to - v.from) n h1 (omega arith);
      };
    }

pub width_pos : (i : Input) → IsValidInput i → 0 < distance i.lo i.hi
width_pos i v = let r = v.range in omega (arith, ints)

index_at : (xs : List ℕ) (k : ℕ) → k < length xs → slice_get xs k ≡ Some (slice_index xs k)
index_at xs k h = slice_get-get_or xs k 0 h

module _ (of_numbers : NumbersHaveTheirDegrees) (b : Block) (box : List Interval) (bytes : List ℕ) (xs : List Dec)
    (e : ℕ → ℕ → Span ℕ) (valid : IsValid b) (cells : LieInCells b bytes xs) (inside_box : LieIn box bytes)
    (errors : AreTermErrors b box e) where
  found : (i t : ℕ) (x : Input) (term : Trapezoid) (v : Interval) (n : ℕ) (y : Dec) → input_at b i ≡ Some x
      → slice_get x.terms (t - 1) ≡ Some term → slice_get box (i - 1) ≡ Some v → slice_get bytes (i - 1) ≡ Some n
      → slice_get xs (i - 1) ≡ Some y
      → IsWithinSpans billion (degree term y) (grade_of (row_of x term) n) (e i t) (degrees_over x term v)
      (grades_over x term v)
  found i t x term v n y ex et ev en ey =
      let vx : IsValidInput x = All-slice_get IsValidInput b.inputs (i - 1) x valid.inputs ex in
      let vt : IsValidTerm x.lo x.hi term = All-slice_get (IsValidTerm x.lo x.hi) x.terms (t - 1) term vx.terms et in
      let yw = cells.inputs.within (i - 1) x y ex ey in
      let w = inside_box.within (i - 1) v n ev en in
      subst (λ f. IsWithinSpans billion f (grade_of (row_of x term) n) (e i t) (degrees_over x term v)
      (grades_over x term v)) (of_numbers x term y vt yw.low)
      (at_place x term v n (e i t) (over (distance x.lo y) 1) (errors.error i t x term v ex et ev)
      (width_pos x vx) w.0 w.1 (cells.cell (i - 1) x n y ex en ey).cell)

  by_term : (i t : ℕ) (x : Input) → input_at b i ≡ Some x → (o : Option Trapezoid) → slice_get x.terms (t - 1) ≡ o
      → IsWithinSpans billion (literal_degree b xs i t) (literal_grade b bytes i t) (e i t) (literal_span b box i t)
      (literal_byte_span b box i t)
  by_term i t x ex None et = rw (ex, et) (within_none billion (e i t))
  by_term i t x ex (Some term) et =
      let l : i - 1 < length b.inputs = slice_get_within b.inputs (i - 1) x ex in
      let c1 = cells.count in
      let c2 = inside_box.count in
      let c3 = cells.inputs.count in
      let y = some_at xs (i - 1) (omega arith) in
      let v = some_at box (i - 1) (omega arith) in
      let en = index_at bytes (i - 1) (omega arith) in
      let ey : slice_get xs (i - 1) ≡ Some y.0 = y.1 in
      let ev : slice_get box (i - 1) ≡ Some v.0 = v.1 in
      rw (ex, et, ey, ev) (found i t x term v.0 (slice_index bytes (i - 1)) y.0 ex et ev en ey)

  by_input : (i t : ℕ) (o : Option Input) → input_at b i ≡ o
      → IsWithinSpans billion (literal_degree b xs i t) (literal_grade b bytes i t) (e i t) (literal_span b box i t)
      (literal_byte_span b box i t)
  by_input i t None ex = rw ex (within_none billion (e i t))
  by_input i t (Some x) ex = by_term i t x ex (slice_get x.terms (t - 1)) refl

  pub literals : (i t : ℕ)
      → IsWithinSpans billion (literal_degree b xs i t) (literal_grade b bytes i t) (e i t) (literal_span b box i t)
      (literal_byte_span b box i t)
  literals i t = by_input i t (input_at b i) refl

-- ---- laws of boxes and their errors

start_below : (w p q : ℕ) → 0 < w → p ≤ q → p * w < (q + 1) * w
start_below w p q hw h = let m : p * w ≤ q * w = mul-le-mul_right w h in omega arith

pub cells_bounded : CellsHaveBounds
cells_bounded i t v vi vt h =
    let w = distance i.lo i.hi in
    let k = points_of i t in
    let s = cell_start w v.from in
    let f = cell_end w v.to in
    let c = v.to == 255 in
    let ps : IsProper s = record { pos = omega arith } in
    let pf : IsProper f = record { pos = omega arith } in
    let lt = start_below w v.from v.to (width_pos i vi) h in
    record {
      lower = λ x px inn. low_bounds k s f x c ps pf px inn;
      greatest = λ u pu g. low_greatest k (v.from * w) ((v.to + 1) * w) 256 c u (omega arith) lt pu g;
      upper = λ x px inn. high_bounds k s f x c ps pf px inn;
      least = λ u pu g. high_least k (v.from * w) ((v.to + 1) * w) 256 c u (omega arith) lt pu
          (IsPeaked-points i t vt) g;
    }

pub term_deviation-are : (i : Input) (t : Trapezoid) (v : Interval) → IsValidInput i → IsValidTerm i.lo i.hi t
    → v.from ≤ v.to → IsTermDeviation i t v (term_deviation i t v)
term_deviation-are i t v vi vt h =
    let w = distance i.lo i.hi in
    let k = points_of i t in
    let g = grade_of (row_of i t) in
    let m = v.to - v.from in
    record {
      covers = λ n h1 h2 x c. cells_bounds billion w k g v.from m n h1 (omega arith) x c;
      least = λ f c. cells_least billion w k g v.from m f (IsPeaked-points i t vt) (width_pos i vi) (omega arith)
          (λ n h1 h2 x inn. c n h1 (omega arith) x inn);
    }

-- on both sides the greater of the two
pub term_error-is : (i : Input) (t : Trapezoid) (v : Interval) (e : Span ℕ) → IsTermDeviation i t v e
    → IsTermError i t v (eps e)
term_error-is i t v e s = record {
  covers = λ n h1 h2 x c. IsNear-more billion (grade_of (row_of i t) n) e.high (eps e) e.low (eps e)
      (degree_at (points_of i t) x) (omega arith) (omega arith) (s.covers n h1 h2 x c);
  least = λ f c. let p = s.least (only f) c in let l = p.0 in let r = p.1 in omega arith;
}

-- where each interval has a byte
pub term_errors-from : (b : Block) (box : List Interval) → IsValid b
    → ((k : ℕ) (v : Interval) → slice_get box k ≡ Some v → v.from ≤ v.to) → AreTermErrors b box (term_errors b box)
term_errors-from b box valid some = record {
  error = λ i t x term v ex et ev.
      let vx : IsValidInput x = All-slice_get IsValidInput b.inputs (i - 1) x valid.inputs ex in
      let vt : IsValidTerm x.lo x.hi term = All-slice_get (IsValidTerm x.lo x.hi) x.terms (t - 1) term vx.terms et in
      rw (ex, et, ev) (term_deviation-are x term v vx vt (some (i - 1) v ev));
}

pub term_errors-are : TermErrorsAre
term_errors-are b box valid some = term_errors-from b box valid (λ k v e. (some.some k v e).0)
