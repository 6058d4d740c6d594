-- The degree of a trapezoid along the points that it is read from: on the zeros before its ones, on
-- its ones, and on the zeros behind them.
use Rattle.fcl_check.proofs.Words.{[], ◌&&◌, ◌*◌, ◌++◌, ◌+◌, ◌<ℤ◌, ◌<◌, ◌∙◌, ◌∷◌, ◌≡◌, ◌≤ℤ◌, ◌≤◌, ◌⊎◌, abscissa_of}
use Rattle.fcl_check.proofs.Words.{AllByRecursion, ap, AreCornersOf, arith, at_each, at_if, Bool, cases_Bool, cond}
use Rattle.fcl_check.proofs.Words.{Corners, Dec, drop_while, falling_in, false, filter, first, get_or}
use Rattle.fcl_check.proofs.Words.{has_one, has_shape, has_zero, inl, inr, int_eq, int_lt, ints, last, length, List}
use Rattle.fcl_check.proofs.Words.{list_all, list_any, nat_le, nat_tests, None, not, number_of, Option, option_map}
use Rattle.fcl_check.proofs.Words.{option_or, Point, points_of, refl, Some, sym, take, take_more, take_while}
use Rattle.fcl_check.proofs.Words.{take_while-cons, Term, Trapezoid, true, x_of, ℕ, ℤ}
use Rattle.std.proofs.{Common.ap₂}
use Rattle.std.specs.{Int.Signed.le_z}
use Rattle.fcl_check.specs.{Sections.is_below}
use Rattle.fz_num.specs.Fractions.{one, none, Fraction, over, lesser}
use Rattle.fuzzy_meaning.specs.Degrees.{rise, fall, degree}
use Rattle.fcl_check.specs.Courses.{course, height, on_line, AreSame, width}
use Rattle.fcl_check.proofs.Elements.{last-push, first-push, take_while-all, drop_while-all, list_all-push}
use Rattle.fcl_check.proofs.Elements.{take_while-push, drop_while-push, filter-pass, filter-fail, none-passes}
use Rattle.fcl_check.proofs.Elements.{one-passes}

-- ---- Points that ascend, and where they stand.

-- ---- where a point stands

-- whether left of x, at it, or right of it
pub record Stands (is_left is_at is_right : Bool) (p : Point) (x : ℤ) : Type 0 where
  pub less : int_lt (x_of p) x ≡ is_left
  pub same : int_eq (x_of p) x ≡ is_at
  pub more : int_lt x (x_of p) ≡ is_right

pub left : (p : Point) (x : ℤ) → x_of p <ℤ x → Stands true false false p x
left p x h = record { less = grind (arith, ints); same = grind (arith, ints); more = grind (arith, ints) }

pub right : (p : Point) (x : ℤ) → x <ℤ x_of p → Stands false false true p x
right p x h = record { less = grind (arith, ints); same = grind (arith, ints); more = grind (arith, ints) }

pub here : (p : Point) (x : ℤ) → x_of p ≡ x → Stands false true false p x
here p x h = record { less = grind (arith, ints); same = grind (arith, ints); more = grind (arith, ints) }

pub place : (a x : ℤ) → (a <ℤ x) ⊎ ((a ≡ x) ⊎ (x <ℤ a))
place a x = elim (cases_Bool (int_lt a x)) [
  | inl e ↦ inl (grind (arith, ints))
  | inr e ↦ elim (cases_Bool (int_lt x a)) [
    | inl f ↦ inr (inr (grind (arith, ints)))
    | inr f ↦ inr (inl (grind (arith, ints)))
  ]
]

-- ---- points that ascend

abbrev pub NotBelow : ℤ → List Point → Type 0
NotBelow low points = AllByRecursion (λ (p : Point). low ≤ℤ x_of p) points

abbrev pub Ascends : List Point → Type 0
Ascends [] = Unit {0}
Ascends (p ∷ points) = NotBelow (x_of p) points × Ascends points

pub NotBelow-lower : (low high : ℤ) (points : List Point) → low ≤ℤ high → NotBelow high points → NotBelow low points
NotBelow-lower low high [] h all = tt
NotBelow-lower low high (p ∷ points) h all = (omega (arith, ints, h, all.0), NotBelow-lower low high points h all.1)

abbrev falls : List Point → Point → List ℕ
falls before p = at_if (is_below p (first before)) p.open_at

ascends-on : (q : Point) (before points : List Point) → at_each falls (q ∷ before) points ≡ []
    → NotBelow (x_of q) points × Ascends points
ascends-on q before [] h = (tt, tt)
ascends-on q before (p ∷ points) h =
    elim (int_lt (x_of p) (x_of q)) as
    (λ b. int_lt (x_of p) (x_of q) ≡ b → at_if b p.open_at ++ at_each falls (p ∷ q ∷ before) points ≡ []
    → NotBelow (x_of q) (p ∷ points) × Ascends (p ∷ points)) [
      | true ↦ λ e k. cc
      | false ↦ λ e k.
          let on = ascends-on p (q ∷ before) points k in
          let below : x_of q ≤ℤ x_of p = grind (arith, ints) in
          ((below, NotBelow-lower (x_of q) (x_of p) points below on.0), on)
    ] refl h

pub ascends : (t : Term) → falling_in t ≡ [] → Ascends (points_of t)
ascends t h = ascends-on t.first [] t.more h

-- ---- zeros

pub head-zero : (p : Point) (points : List Point) → list_all has_zero (p ∷ points) ≡ true → has_one p ≡ false
head-zero p points h =
    elim (has_one p) as (λ b. (not b && list_all has_zero points) ≡ true → b ≡ false)
    [ true ↦ λ k. cc | false ↦ λ k. refl ] h

pub tail-zero : (p : Point) (points : List Point) → list_all has_zero (p ∷ points) ≡ true
    → list_all has_zero points ≡ true
tail-zero p points h =
    elim (has_one p) as (λ b. (not b && list_all has_zero points) ≡ true → list_all has_zero points ≡ true)
    [ true ↦ λ k. cc | false ↦ λ k. k ] h

-- ---- where all points stand on one side

abbrev pub at_x : ℤ → List Point → List Point
at_x x points = filter (λ (p : Point). int_eq (x_of p) x) points

abbrev pub left_of : ℤ → List Point → List Point
left_of x points = filter (λ (p : Point). int_lt (x_of p) x) points

none-at : (low x : ℤ) (points : List Point) → x <ℤ low → NotBelow low points → at_x x points ≡ []
none-at low x [] h all = refl
none-at low x (p ∷ points) h all = let r = right p x (omega (arith, ints, h, all.0)) in
    rw r.same (none-at low x points h all.1)

none-left : (low x : ℤ) (points : List Point) → x <ℤ low → NotBelow low points → left_of x points ≡ []
none-left low x [] h all = refl
none-left low x (p ∷ points) h all = let r = right p x (omega (arith, ints, h, all.0)) in
    rw r.less (none-left low x points h all.1)

-- ---- the course, point after point

pub last-over : {A : Type 0} (x y : A) (l : List A) → last (x ∷ y ∷ l) ≡ last (y ∷ l)
last-over x y l = elim (last l) as (λ o. option_or (option_or o (Some y)) (Some x) ≡ option_or o (Some y))
    [ None ↦ refl | Some z ↦ refl ]

module _ (x : ℤ) where
  pub course-step : (p q : Point) (points : List Point) → x_of p <ℤ x → x_of q <ℤ x
      → course (p ∷ q ∷ points) x ≡ course (q ∷ points) x
  course-step p q points h k =
      let r = left p x h in
      let s = left q x k in
      rw (r.same, r.less, r.more, s.same, s.less, s.more, last-over p q (left_of x points)) refl

  pub course-end : (p : Point) → x_of p <ℤ x → course (p ∷ []) x ≡ height p
  course-end p h = let r = left p x h in rw (r.same, r.less, r.more) refl

  pub course-start : (p : Point) (points : List Point) → x <ℤ x_of p → NotBelow (x_of p) points
      → course (p ∷ points) x ≡ height p
  course-start p points h all =
      let r = right p x h in
      rw (r.same, r.less, r.more, none-at (x_of p) x points h all, none-left (x_of p) x points h all) refl

  pub course-between : (p q : Point) (points : List Point) → x_of p <ℤ x → x <ℤ x_of q → NotBelow (x_of q) points
      → course (p ∷ q ∷ points) x ≡ on_line p q x
  course-between p q points h k all =
      let r = left p x h in
      let s = right q x k in
      rw (
        r.same,
        r.less,
        r.more,
        s.same,
        s.less,
        s.more,
        none-at (x_of q) x points k all,
        none-left (x_of q) x points k all,
      ) refl

  -- a point at x behind one that stands before it
  pub course-reach : (p q : Point) (points : List Point) → x_of p <ℤ x → x_of q ≡ x
      → course (p ∷ q ∷ points) x ≡ course (q ∷ points) x
  course-reach p q points h k =
      let r = left p x h in
      let s = here q x k in
      rw (r.same, s.same) refl

  pub course-top : (p : Point) (points : List Point) → x_of p ≡ x → has_one p ≡ true → course (p ∷ points) x ≡ one
  course-top p points h top = let r = here p x h in rw (r.same, top) refl

  -- a zero at x behind or before other points at x
  pub course-run : (p q : Point) (points : List Point) → x_of p ≡ x → has_one p ≡ false → x_of q ≡ x
      → course (p ∷ q ∷ points) x ≡ course (q ∷ points) x
  course-run p q points h zero k =
      let r = here p x h in
      let s = here q x k in
      rw (r.same, s.same, zero) refl

  pub course-lone : (p q : Point) (points : List Point) → x_of p ≡ x → has_one p ≡ false → x <ℤ x_of q
      → NotBelow (x_of q) points
      → course (p ∷ q ∷ points) x ≡ none
  course-lone p q points h zero k all =
      let r = here p x h in
      let s = right q x k in
      rw (r.same, s.same, none-at (x_of q) x points k all, zero) refl

  no-one : (points : List Point) → list_all has_zero points ≡ true → list_any has_one (at_x x points) ≡ false
  no-one [] h = refl
  no-one (p ∷ points) h =
      let zero = head-zero p points h in
      elim (int_eq (x_of p) x) as (λ b. list_any has_one (cond b (p ∷ at_x x points) (at_x x points)) ≡ false) [
        | true ↦ rw zero (no-one points (tail-zero p points h))
        | false ↦ no-one points (tail-zero p points h)
      ]

  pub course-zeros : (p : Point) (points : List Point) → x_of p ≡ x → list_all has_zero (p ∷ points) ≡ true
      → course (p ∷ points) x ≡ none
  course-zeros p points h zeros =
      let r = here p x h in
      rw (r.same, head-zero p points zeros, no-one points (tail-zero p points zeros)) refl

-- ---- The points below the one before them, as a term's points are walked.

-- the same, behind a point at this place
abbrev pub falling_from : ℤ → List Point → List ℕ
falling_from x [] = []
falling_from x (p ∷ points) = at_if (int_lt (x_of p) x) p.open_at ++ falling_from (x_of p) points

falling_behind : (q : Point) (before points : List Point)
    → at_each (λ (before : List Point) (p : Point). at_if (is_below p (first before)) p.open_at)
    (q ∷ before) points ≡ falling_from (x_of q) points
falling_behind q before [] = refl
falling_behind q before (p ∷ points) =
    ap (λ ns. at_if (int_lt (x_of p) (x_of q)) p.open_at ++ ns) (falling_behind p (q ∷ before) points)

pub falling_in_first : (t : Term) → falling_in t ≡ falling_from (x_of t.first) t.more
falling_in_first t = falling_behind t.first [] t.more

-- ---- The degree of a trapezoid by where a number stands, and the lines between points.

yes : (a b : ℤ) → a ≤ℤ b → le_z a b ≡ true
yes a b h = grind (arith, ints)

no : (a b : ℤ) → b <ℤ a → le_z a b ≡ false
no a b h = grind (arith, ints)

-- ---- the two sides

rise-top : (a : Option Dec) (b x : Dec) → b.0 ≤ℤ x.0 → rise a b x ≡ one
rise-top None b x h = refl
rise-top (Some a) b x h = rw (yes b.0 x.0 h) refl

rise-foot : (a : Option Dec) (b x : Dec) (foot : ℤ) → number_of a ≡ Some foot → x.0 ≤ℤ foot → x.0 <ℤ b.0
    → rise a b x ≡ none
rise-foot None b x foot e h k = cc
rise-foot (Some a) b x foot e h k = let same : a.0 ≡ foot = cc in let low : x.0 ≤ℤ a.0 = rw same h in
    rw (no b.0 x.0 k, yes x.0 a.0 low) refl

rise-course : (a : Option Dec) (b x : Dec) (foot : ℤ) → number_of a ≡ Some foot → foot <ℤ x.0 → x.0 <ℤ b.0
    → rise a b x ≡ over (width foot x.0) (width foot b.0)
rise-course None b x foot e h k = cc
rise-course (Some a) b x foot e h k = let same : a.0 ≡ foot = cc in let low : a.0 <ℤ x.0 = rw same h in
    rw (no b.0 x.0 k, no x.0 a.0 low, same) refl

fall-top : (c : Dec) (d : Option Dec) (x : Dec) → x.0 ≤ℤ c.0 → fall c d x ≡ one
fall-top c None x h = refl
fall-top c (Some d) x h = rw (yes x.0 c.0 h) refl

fall-foot : (c : Dec) (d : Option Dec) (x : Dec) (foot : ℤ) → number_of d ≡ Some foot → foot ≤ℤ x.0 → c.0 <ℤ x.0
    → fall c d x ≡ none
fall-foot c None x foot e h k = cc
fall-foot c (Some d) x foot e h k = let same : d.0 ≡ foot = cc in let low : d.0 ≤ℤ x.0 = rw same h in
    rw (no x.0 c.0 k, yes d.0 x.0 low) refl

fall-course : (c : Dec) (d : Option Dec) (x : Dec) (foot : ℤ) → number_of d ≡ Some foot → x.0 <ℤ foot → c.0 <ℤ x.0
    → fall c d x ≡ over (width x.0 foot) (width c.0 foot)
fall-course c None x foot e h k = cc
fall-course c (Some d) x foot e h k = let same : d.0 ≡ foot = cc in let low : x.0 <ℤ d.0 = rw same h in
    rw (no x.0 c.0 k, no d.0 x.0 low, same) refl

lesser-one : (p q : ℕ) → p ≤ q → lesser (over p q) one ≡ over p q
lesser-one p q h = let e : nat_le (p * 1) (1 * q) ≡ true = grind (arith, nat_tests) in ap (λ t. cond t (over p q) one) e

one-lesser : (p q : ℕ) → p < q → lesser one (over p q) ≡ over p q
one-lesser p q h = let e : nat_le (1 * q) (p * 1) ≡ false = grind (arith, nat_tests) in
    ap (λ t. cond t one (over p q)) e

-- ---- the degree

module _ (z : Trapezoid) (x : Dec) where
  sides : (f g : Fraction) → rise z.a z.b x ≡ f → fall z.c z.d x ≡ g → degree z x ≡ lesser f g
  sides f g e h = ap₂ lesser e h

  pub at-top : z.b.0 ≤ℤ x.0 → x.0 ≤ℤ z.c.0 → degree z x ≡ one
  at-top h k = sides one one (rise-top z.a z.b x h) (fall-top z.c z.d x k)

  no-foot : (a : Option Dec) → number_of a ≡ None → a ≡ None
  no-foot None e = refl
  no-foot (Some a) e = cc

  pub open-left : number_of z.a ≡ None → x.0 ≤ℤ z.c.0 → degree z x ≡ one
  open-left e k = sides one one (ap (λ a. rise a z.b x) (no-foot z.a e)) (fall-top z.c z.d x k)

  pub open-right : number_of z.d ≡ None → z.b.0 ≤ℤ x.0 → degree z x ≡ one
  open-right e h = sides one one (rise-top z.a z.b x h) (ap (λ d. fall z.c d x) (no-foot z.d e))

  pub before : (foot : ℤ) → number_of z.a ≡ Some foot → x.0 ≤ℤ foot → x.0 <ℤ z.b.0 → x.0 ≤ℤ z.c.0 → degree z x ≡ none
  before foot e h k m = sides none one (rise-foot z.a z.b x foot e h k) (fall-top z.c z.d x m)

  pub behind : (foot : ℤ) → number_of z.d ≡ Some foot → foot ≤ℤ x.0 → z.c.0 <ℤ x.0 → z.b.0 ≤ℤ x.0 → degree z x ≡ none
  behind foot e h k m = sides one none (rise-top z.a z.b x m) (fall-foot z.c z.d x foot e h k)

  pub on-rise : (foot : ℤ) → number_of z.a ≡ Some foot → foot <ℤ x.0 → x.0 <ℤ z.b.0 → x.0 ≤ℤ z.c.0
      → degree z x ≡ over (width foot x.0) (width foot z.b.0)
  on-rise foot e h k m =
      sides (over (width foot x.0) (width foot z.b.0)) one (rise-course z.a z.b x foot e h k) (fall-top z.c z.d x m)
      ∙ lesser-one (width foot x.0) (width foot z.b.0) (omega (arith, ints, h, k))

  pub on-fall : (foot : ℤ) → number_of z.d ≡ Some foot → x.0 <ℤ foot → z.c.0 <ℤ x.0 → z.b.0 ≤ℤ x.0
      → degree z x ≡ over (width x.0 foot) (width z.c.0 foot)
  on-fall foot e h k m =
      sides one (over (width x.0 foot) (width z.c.0 foot)) (rise-top z.a z.b x m) (fall-course z.c z.d x foot e h k)
      ∙ one-lesser (width x.0 foot) (width z.c.0 foot) (omega (arith, ints, h, k))

-- ---- heights and lines

pub AreSame-refl : (f g : Fraction) → f ≡ g → AreSame f g
AreSame-refl f g e = rw e (record { cross = refl })

pub height-one : (p : Point) → has_one p ≡ true → height p ≡ one
height-one p h = rw h refl

pub height-zero : (p : Point) → has_one p ≡ false → height p ≡ none
height-zero p h = rw h refl

module _ (p q : Point) (x : ℤ) where
  pub line-low : has_one p ≡ false → has_one q ≡ false → AreSame none (on_line p q x)
  line-low h k = rw (h, k) (record { cross = omega arith })

  pub line-high : has_one p ≡ true → has_one q ≡ true → x_of p <ℤ x → x <ℤ x_of q → AreSame one (on_line p q x)
  line-high h k l m = rw (h, k) (record { cross = omega (arith, ints, l, m) })

  pub line-rising : has_one p ≡ false → has_one q ≡ true
      → AreSame (over (width (x_of p) x) (width (x_of p) (x_of q))) (on_line p q x)
  line-rising h k = rw (h, k) (record { cross = ap (λ n. n * width (x_of p) (x_of q)) (omega arith) })

  pub line-falling : has_one p ≡ true → has_one q ≡ false
      → AreSame (over (width x (x_of q)) (width (x_of p) (x_of q))) (on_line p q x)
  line-falling h k = rw (h, k) (record { cross = ap (λ n. n * width (x_of p) (x_of q)) (omega arith) })

-- ---- The corners of a term's points with one more point.

none-mapped : {A B : Type 0} (f : A → B) (o : Option A) → None ≡ option_map f o → o ≡ None
none-mapped f None h = refl
none-mapped f (Some x) h = cc

some-mapped : {A B : Type 0} (f : A → B) (o : Option A) (y : B) → Some y ≡ option_map f o → (x : A) × (o ≡ Some x)
some-mapped f None y h = cc
some-mapped f (Some x) y h = (x, refl)

or-mapped : (o : Option Dec) (q : Option Point) (x : Dec) (p : Point) → x.0 ≡ x_of p → number_of o ≡ abscissa_of q
    → number_of (option_or o (Some x)) ≡ abscissa_of (option_or q (Some p))
or-mapped None None x p same held = ap Some same
or-mapped None (Some q) x p same held = cc
or-mapped (Some y) None x p same held = cc
or-mapped (Some y) (Some q) x p same held = held

and-false : (b c : Bool) → c ≡ false → (b && c) ≡ false
and-false true c h = h
and-false false c h = refl

module _ (seen : List Point) (p : Point) (k : Corners) (held : AreCornersOf seen k) where
  all-zero : k.top ≡ None → list_all has_zero seen ≡ true
  all-zero none = none-passes has_one seen
      (none-mapped x_of _ (ap (option_map (λ (t : Dec × Dec). t.0.0)) (sym none) ∙ held.b))

  not-all-zero : (t : Dec × Dec) → k.top ≡ Some t → list_all has_zero seen ≡ false
  not-all-zero t some =
      let found = some-mapped x_of (first (filter has_one seen)) t.0.0
      (ap (option_map (λ (t : Dec × Dec). t.0.0)) (sym some) ∙ held.b) in
      one-passes has_one seen found.0 found.1

  -- a zero before every one
  pub rising : (x : Dec) → x.0 ≡ x_of p → has_one p ≡ false → k.top ≡ None
      → AreCornersOf (seen ++ p ∷ []) (record { a = Some x; top = k.top; d = k.d })
  rising x same zero none =
      let before = all-zero none in
      let all : list_all has_zero (seen ++ p ∷ []) ≡ true = rw (list_all-push has_zero seen p, before, zero) refl in
      record {
        a = rw (take_while-all has_zero (seen ++ p ∷ []) all, last-push seen p) (ap Some same);
        b = rw (filter-fail has_one seen p zero) held.b;
        c = rw (filter-fail has_one seen p zero) held.c;
        d = rw (drop_while-all has_zero (seen ++ p ∷ []) all) (rw (drop_while-all has_zero seen before) at held.d);
      }

  -- a zero behind a one
  pub falling : (t : Dec × Dec) (x : Dec) → x.0 ≡ x_of p → has_one p ≡ false → k.top ≡ Some t
      → AreCornersOf (seen ++ p ∷ []) (record { a = k.a; top = k.top; d = option_or k.d (Some x) })
  falling t x same zero some =
      let broken : (list_all has_zero seen && has_zero p) ≡ false = rw (not-all-zero t some) refl in
      let zeros : filter has_zero (drop_while has_zero (seen ++ p ∷ [])) ≡ filter has_zero (drop_while has_zero seen)
      ++ p ∷ [] =
      ap (filter has_zero) (drop_while-push has_zero seen p broken)
      ∙ filter-pass has_zero (drop_while has_zero seen) p (ap not zero) in
      record {
        a = rw (take_while-push has_zero seen p broken) held.a;
        b = rw (filter-fail has_one seen p zero) held.b;
        c = rw (filter-fail has_one seen p zero) held.c;
        d = rw (zeros, first-push (filter has_zero (drop_while has_zero seen)) p)
            (or-mapped k.d (first (filter has_zero (drop_while has_zero seen))) x p same held.d);
      }

  -- a one
  topping : (b x : Dec) → x.0 ≡ x_of p → has_one p ≡ true
      → Some b.0 ≡ abscissa_of (option_or (first (filter has_one seen)) (Some p))
      → AreCornersOf (seen ++ p ∷ []) (record { a = k.a; top = Some (b, x); d = k.d })
  topping b x same top begun =
      let broken : (list_all has_zero seen && has_zero p) ≡ false = and-false _ _ (ap not top) in
      let zeros : filter has_zero (drop_while has_zero (seen ++ p ∷ [])) ≡ filter has_zero (drop_while has_zero seen) =
      ap (filter has_zero) (drop_while-push has_zero seen p broken)
      ∙ filter-fail has_zero (drop_while has_zero seen) p (ap not top) in
      record {
        a = rw (take_while-push has_zero seen p broken) held.a;
        b = rw (filter-pass has_one seen p top, first-push (filter has_one seen) p) begun;
        c = rw (filter-pass has_one seen p top, last-push (filter has_one seen) p) (ap Some same);
        d = rw zeros held.d;
      }

  -- the first one
  pub beginning : (x : Dec) → x.0 ≡ x_of p → has_one p ≡ true → k.top ≡ None
      → AreCornersOf (seen ++ p ∷ []) (record { a = k.a; top = Some (x, x); d = k.d })
  beginning x same top none =
      let empty = none-mapped x_of (first (filter has_one seen))
      (ap (option_map (λ (t : Dec × Dec). t.0.0)) (sym none) ∙ held.b) in
      topping x x same top (rw empty (ap Some same))

  -- a one behind another
  pub going-on : (t : Dec × Dec) (x : Dec) → x.0 ≡ x_of p → has_one p ≡ true → k.top ≡ Some t
      → AreCornersOf (seen ++ p ∷ []) (record { a = k.a; top = Some (t.0, x); d = k.d })
  going-on t x same top some =
      let begun : Some t.0.0 ≡ abscissa_of (first (filter has_one seen)) =
      ap (option_map (λ (t : Dec × Dec). t.0.0)) (sym some) ∙ held.b in
      let found = some-mapped x_of (first (filter has_one seen)) t.0.0 begun in
      topping t.0 x same top (rw found.1 (rw found.1 at begun))

pub AreCornersOf-more : (first : Point) (points read : List Point) (i : ℕ) (d : Point) (k : Corners) → read ≡ points
    → i < length points
    → AreCornersOf ((first ∷ take i points) ++ get_or read i d ∷ []) k → AreCornersOf (first ∷ take (i + 1) points) k
AreCornersOf-more first points read i d k same within held = rw (take_more points i d within) (rw same at held)

-- ---- the first and the last of some points

NotBelow-filter : (low : ℤ) (test : Point → Bool) (points : List Point) → NotBelow low points
    → NotBelow low (filter test points)
NotBelow-filter low test [] all = tt
NotBelow-filter low test (p ∷ points) all =
    elim (test p) as (λ b. NotBelow low (cond b (p ∷ filter test points) (filter test points))) [
      | true ↦ (all.0, NotBelow-filter low test points all.1)
      | false ↦ NotBelow-filter low test points all.1
    ]

NotBelow-front : (low : ℤ) (test : Point → Bool) (points : List Point) → NotBelow low points
    → NotBelow low (take_while test points)
NotBelow-front low test [] all = tt
NotBelow-front low test (p ∷ points) all =
    rw (take_while-cons test p points) (elim (test p) as (λ b. NotBelow low (cond b (p ∷ take_while test points) [])) [
      | true ↦ (all.0, NotBelow-front low test points all.1)
      | false ↦ tt
    ])

first-above : (low n : ℤ) (points : List Point) → NotBelow low points → Some n ≡ abscissa_of (first points) → low ≤ℤ n
first-above low n [] all e = cc
first-above low n (p ∷ points) all e = let same : n ≡ x_of p = cc in rw same all.0

last-above : (low n : ℤ) (points : List Point) → NotBelow low points → Some n ≡ abscissa_of (last points) → low ≤ℤ n
last-above low n [] all e = cc
last-above low n (p ∷ []) all e = let same : n ≡ x_of p = cc in rw same all.0
last-above low n (p ∷ q ∷ points) all e = last-above low n (q ∷ points) all.1 (rw (last-over p q points) at e)

-- the last of some points is there, and not below any bound of them
last-of : (low : ℤ) (p : Point) (points : List Point) → NotBelow low (p ∷ points)
    → (n : ℤ) × (abscissa_of (last (p ∷ points)) ≡ Some n) × (low ≤ℤ n)
last-of low p [] all = (x_of p, refl, all.0)
last-of low p (q ∷ points) all =
    let on = last-of low q points all.1 in
    (on.0, ap abscissa_of (last-over p q points) ∙ on.1, on.2)

pub no-ones : (points : List Point) → list_all has_zero points ≡ true → filter has_one points ≡ []
no-ones [] h = refl
no-ones (p ∷ points) h = rw (head-zero p points h) (no-ones points (tail-zero p points h))

module _ (z : Trapezoid) (x : Dec) where
  -- the degree is the course
  abbrev Keeps : List Point → Type 0
  Keeps points = AreSame (degree z x) (course points x.0)

  agree : (points : List Point) → degree z x ≡ one → course points x.0 ≡ one → Keeps points
  agree points e f = AreSame-refl (degree z x) (course points x.0) (e ∙ sym f)

  vanish : (points : List Point) → degree z x ≡ none → course points x.0 ≡ none → Keeps points
  vanish points e f = AreSame-refl (degree z x) (course points x.0) (e ∙ sym f)

  -- ones do not end left of the first of them
  top-below : (p : Point) (points : List Point) → Some z.c.0 ≡ abscissa_of (last (p ∷ filter has_one points))
      → NotBelow (x_of p) points → x_of p ≤ℤ z.c.0
  top-below p points c all = last-above (x_of p) z.c.0 (p ∷ filter has_one points)
      (omega (arith, ints), NotBelow-filter (x_of p) has_one points all) c

  -- at a one
  topped : (p : Point) (points : List Point) → has_one p ≡ true → z.b.0 ≤ℤ x_of p → x_of p ≤ℤ z.c.0 → x_of p ≡ x.0
      → Keeps (p ∷ points)
  topped p points top b c k = agree (p ∷ points)
      (at-top z x (omega (arith, ints, b, k)) (omega (arith, ints, c, k))) (course-top x.0 p points k top)

  -- behind d
  falling-on : (p : Point) (points : List Point) → degree z x ≡ none → list_all has_zero (p ∷ points) ≡ true
      → Ascends (p ∷ points) → x_of p <ℤ x.0
      → Keeps (p ∷ points)
  falling-on p [] low zeros up h = vanish (p ∷ []) low (course-end x.0 p h ∙ height-zero p (head-zero p [] zeros))
  falling-on p (q ∷ points) low zeros up h =
      let zero = head-zero p (q ∷ points) zeros in
      let rest = tail-zero p (q ∷ points) zeros in
      elim (place (x_of q) x.0) [
        | inl k ↦ rw (course-step x.0 p q points h k) (falling-on q points low rest up.1 k)
        | inr (inl k) ↦ rw (course-reach x.0 p q points h k)
            (vanish (q ∷ points) low (course-zeros x.0 q points k rest))
        | inr (inr k) ↦ rw (course-between x.0 p q points h k up.1.0, low)
            (line-low p q x.0 zero (head-zero q points rest))
      ]

  -- from b to d
  pub topping-on : (p : Point) (points : List Point) → has_one p ≡ true → z.b.0 ≤ℤ x_of p
      → Some z.c.0 ≡ abscissa_of (last (p ∷ filter has_one points))
      → number_of z.d ≡ abscissa_of (first (filter has_zero points))
      → list_all has_zero (drop_while has_one points) ≡ true → Ascends (p ∷ points)
      → x_of p <ℤ x.0 → Keeps (p ∷ points)
  topping-on p [] top b c d shape up h =
      agree (p ∷ []) (open-right z x d (omega (arith, ints, b, h))) (course-end x.0 p h ∙ height-one p top)
  topping-on p (q ∷ points) top b c d shape up h =
      elim (cases_Bool (has_one q)) [
        | inl f ↦
            let cs : Some z.c.0 ≡ abscissa_of (last (q ∷ filter has_one points)) =
            rw (f, last-over p q (filter has_one points)) at c in
            let ds : number_of z.d ≡ abscissa_of (first (filter has_zero points)) = rw f at d in
            let shapes : list_all has_zero (drop_while has_one points) ≡ true = rw f at shape in
            let bs : z.b.0 ≤ℤ x_of q = omega (arith, ints, b, up.0.0) in
            let above = top-below q points cs up.1.0 in
            elim (place (x_of q) x.0) [
              | inl k ↦ rw (course-step x.0 p q points h k) (topping-on q points f bs cs ds shapes up.1 k)
              | inr (inl k) ↦ rw (course-reach x.0 p q points h k) (topped q points f bs above k)
              | inr (inr k) ↦ rw (
                course-between x.0 p q points h k up.1.0,
                at-top z x (omega (arith, ints, b, h)) (omega (arith, ints, above, k)),
              ) (line-high p q x.0 top f h k)
            ]
        | inr f ↦
            let zeros : list_all has_zero (q ∷ points) ≡ true = rw f at shape in
            let same : z.c.0 ≡ x_of p =
            let cs : Some z.c.0 ≡ Some (x_of p) = rw (f, no-ones points (tail-zero q points zeros)) at c in cc in
            let ds : number_of z.d ≡ Some (x_of q) = rw f at d in
            let past : z.c.0 <ℤ x.0 = rw same h in
            let under : z.b.0 ≤ℤ x.0 = omega (arith, ints, b, h) in
            elim (place (x_of q) x.0) [
              | inl k ↦ rw (course-step x.0 p q points h k)
                  (falling-on q points (behind z x (x_of q) ds (omega (arith, ints, k)) past under) zeros up.1 k)
              | inr (inl k) ↦ rw (course-reach x.0 p q points h k)
                  (vanish (q ∷ points) (behind z x (x_of q) ds (omega (arith, ints, k)) past under)
                  (course-zeros x.0 q points k zeros))
              | inr (inr k) ↦ rw (course-between x.0 p q points h k up.1.0, on-fall z x (x_of q) ds k past under, same)
                  (line-falling p q x.0 top f)
            ]
      ]

  -- left of a zero with the ones behind it
  low-before : (p : Point) (points : List Point) → number_of z.a ≡ abscissa_of (last (p ∷ take_while has_zero points))
      → Some z.b.0 ≡ abscissa_of (first (filter has_one points))
      → Some z.c.0 ≡ abscissa_of (last (filter has_one points)) → NotBelow (x_of p) points
      → x.0 <ℤ x_of p → degree z x ≡ none
  low-before p points a b c all h =
      let foot = last-of (x_of p) p (take_while has_zero points)
      (omega (arith, ints), NotBelow-front (x_of p) has_zero points all) in
      let ones = NotBelow-filter (x_of p) has_one points all in
      let from = first-above (x_of p) z.b.0 (filter has_one points) ones b in
      let to = last-above (x_of p) z.c.0 (filter has_one points) ones c in
      before z x foot.0 (a ∙ foot.1) (omega (arith, ints, foot.2, h)) (omega (arith, ints, from, h))
      (omega (arith, ints, to, h))

  -- behind the zeros before a one
  zeros-behind : (p : Point) (points : List Point) → has_one p ≡ true
      → number_of z.d ≡ abscissa_of (first (filter has_zero (drop_while has_zero (p ∷ points))))
      → number_of z.d ≡ abscissa_of (first (filter has_zero points))
  zeros-behind p points f d = rw f at (rw f at d)

  shape-behind : (p : Point) (points : List Point) → has_one p ≡ true → has_shape (p ∷ points) ≡ true
      → list_all has_zero (drop_while has_one points) ≡ true
  shape-behind p points f shape = rw f at (rw f at shape)

  -- up to b, on the last points at x
  zero-run : (p : Point) (points : List Point) → has_one p ≡ false
      → number_of z.a ≡ abscissa_of (last (p ∷ take_while has_zero points))
      → Some z.b.0 ≡ abscissa_of (first (filter has_one points))
      → Some z.c.0 ≡ abscissa_of (last (filter has_one points)) → Ascends (p ∷ points) → x_of p ≡ x.0
      → Keeps (p ∷ points)
  zero-run p [] zero a b c up h = cc
  zero-run p (q ∷ points) zero a b c up h =
      elim (cases_Bool (has_one q)) [
        | inl f ↦
            let foot : number_of z.a ≡ Some (x_of p) = rw (take_while-cons has_zero q points, f) at a in
            let bs : z.b.0 ≡ x_of q = let same : Some z.b.0 ≡ Some (x_of q) = rw f at b in cc in
            let above = top-below q points (rw f at c) up.1.0 in
            elim (place (x_of q) x.0) [
              | inl k ↦ absurd (omega (arith, ints, up.0.0, h, k))
              | inr (inl k) ↦ rw (course-run x.0 p q points h zero k)
                  (topped q points f (omega (arith, ints, bs)) above k)
              | inr (inr k) ↦ vanish (p ∷ q ∷ points)
                  (before z x (x_of p) foot (omega (arith, ints, h)) (omega (arith, ints, bs, k))
                  (omega (arith, ints, above, k))) (course-lone x.0 p q points h zero k up.1.0)
            ]
        | inr f ↦
            let feet : number_of z.a ≡ abscissa_of (last (q ∷ take_while has_zero points)) =
            rw (take_while-cons has_zero q points, f, last-over p q (take_while has_zero points)) at a in
            let bs : Some z.b.0 ≡ abscissa_of (first (filter has_one points)) = rw f at b in
            let cs : Some z.c.0 ≡ abscissa_of (last (filter has_one points)) = rw f at c in
            elim (place (x_of q) x.0) [
              | inl k ↦ absurd (omega (arith, ints, up.0.0, h, k))
              | inr (inl k) ↦ rw (course-run x.0 p q points h zero k) (zero-run q points f feet bs cs up.1 k)
              | inr (inr k) ↦ vanish (p ∷ q ∷ points) (low-before q points feet bs cs up.1.0 k)
                  (course-lone x.0 p q points h zero k up.1.0)
            ]
      ]

  -- up to b
  rising-on : (p : Point) (points : List Point) → has_one p ≡ false
      → number_of z.a ≡ abscissa_of (last (p ∷ take_while has_zero points))
      → Some z.b.0 ≡ abscissa_of (first (filter has_one points))
      → Some z.c.0 ≡ abscissa_of (last (filter has_one points))
      → number_of z.d ≡ abscissa_of (first (filter has_zero (drop_while has_zero points))) → has_shape points ≡ true
      → Ascends (p ∷ points) → x_of p <ℤ x.0
      → Keeps (p ∷ points)
  rising-on p [] zero a b c d shape up h = cc
  rising-on p (q ∷ points) zero a b c d shape up h =
      elim (cases_Bool (has_one q)) [
        | inl f ↦
            let foot : number_of z.a ≡ Some (x_of p) = rw (take_while-cons has_zero q points, f) at a in
            let bs : z.b.0 ≡ x_of q = let same : Some z.b.0 ≡ Some (x_of q) = rw f at b in cc in
            let cs : Some z.c.0 ≡ abscissa_of (last (q ∷ filter has_one points)) = rw f at c in
            let above = top-below q points cs up.1.0 in
            elim (place (x_of q) x.0) [
              | inl k ↦ rw (course-step x.0 p q points h k)
                  (topping-on q points f (omega (arith, ints, bs)) cs (zeros-behind q points f d)
                  (shape-behind q points f shape) up.1 k)
              | inr (inl k) ↦ rw (course-reach x.0 p q points h k)
                  (topped q points f (omega (arith, ints, bs)) above k)
              | inr (inr k) ↦ rw (
                course-between x.0 p q points h k up.1.0,
                on-rise z x (x_of p) foot h (omega (arith, ints, bs, k))
                    (omega (arith, ints, above, k)),
                bs,
              ) (line-rising p q x.0 zero f)
            ]
        | inr f ↦
            let feet : number_of z.a ≡ abscissa_of (last (q ∷ take_while has_zero points)) =
            rw (take_while-cons has_zero q points, f, last-over p q (take_while has_zero points)) at a in
            let bs : Some z.b.0 ≡ abscissa_of (first (filter has_one points)) = rw f at b in
            let cs : Some z.c.0 ≡ abscissa_of (last (filter has_one points)) = rw f at c in
            elim (place (x_of q) x.0) [
              | inl k ↦ rw (course-step x.0 p q points h k)
                  (rising-on q points f feet bs cs (rw f at d) (rw f at shape) up.1 k)
              | inr (inl k) ↦ rw (course-reach x.0 p q points h k) (zero-run q points f feet bs cs up.1 k)
              | inr (inr k) ↦ rw (course-between x.0 p q points h k up.1.0, low-before q points feet bs cs up.1.0 k)
                  (line-low p q x.0 zero f)
            ]
      ]

  -- from the first point
  pub keeps : (p : Point) (points : List Point) → number_of z.a ≡ abscissa_of (last (take_while has_zero (p ∷ points)))
      → Some z.b.0 ≡ abscissa_of (first (filter has_one (p ∷ points)))
      → Some z.c.0 ≡ abscissa_of (last (filter has_one (p ∷ points)))
      → number_of z.d ≡ abscissa_of (first (filter has_zero (drop_while has_zero (p ∷ points))))
      → has_shape (p ∷ points) ≡ true → Ascends (p ∷ points)
      → Keeps (p ∷ points)
  keeps p points a b c d shape up =
      elim (cases_Bool (has_one p)) [
        | inl f ↦
            let footless : number_of z.a ≡ None = rw (take_while-cons has_zero p points, f) at a in
            let bs : z.b.0 ≡ x_of p = let same : Some z.b.0 ≡ Some (x_of p) = rw f at b in cc in
            let cs : Some z.c.0 ≡ abscissa_of (last (p ∷ filter has_one points)) = rw f at c in
            let above = top-below p points cs up.0 in
            elim (place (x_of p) x.0) [
              | inl k ↦ topping-on p points f (omega (arith, ints, bs)) cs (zeros-behind p points f d)
                  (shape-behind p points f shape) up k
              | inr (inl k) ↦ topped p points f (omega (arith, ints, bs)) above k
              | inr (inr k) ↦ agree (p ∷ points) (open-left z x footless (omega (arith, ints, above, k)))
                  (course-start x.0 p points k up.0 ∙ height-one p f)
            ]
        | inr f ↦
            let feet : number_of z.a ≡ abscissa_of (last (p ∷ take_while has_zero points)) =
            rw (take_while-cons has_zero p points, f) at a in
            let bs : Some z.b.0 ≡ abscissa_of (first (filter has_one points)) = rw f at b in
            let cs : Some z.c.0 ≡ abscissa_of (last (filter has_one points)) = rw f at c in
            elim (place (x_of p) x.0) [
              | inl k ↦ rising-on p points f feet bs cs (rw f at d) (rw f at shape) up k
              | inr (inl k) ↦ zero-run p points f feet bs cs up k
              | inr (inr k) ↦ vanish (p ∷ points) (low-before p points feet bs cs up.0 k)
                  (course-start x.0 p points k up.0 ∙ height-zero p f)
            ]
      ]
