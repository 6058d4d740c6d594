-- The sides of a trapezoid, and the greatest lower and the least upper bound of its degree over a cell.
use Rattle.std.proofs.Common.{◌≡◌, ⊎_elim, ℕ, ◌-◌, ◌*◌, ◌<◌, ◌≤◌, true, false, Bool, Option, Some, None, ap, subst}
use Rattle.std.proofs.Common.{arith, mul-le-mul_right, le_of_mul-le-mul_right, lt_of_mul-lt-mul_right, mul-pos, zero}
use Rattle.std.proofs.{Common.suc, Common.◌+◌, Common.refl, Common.le_of_lt, lemmas.Bool.Decides.nat_tests}
use Rattle.std.proofs.{lemmas.Bool.cases_lt, lemmas.Int.ints}
use native.Mathlib.Nat.{mul-sub}
use Rattle.fz_num.specs.Fractions.{Fraction, over, IsProper, AtMost, IsBelow, one, none}
use Rattle.byte_scaling.specs.Cells.{IsFromTo, inside, at_end}
use Rattle.fuzzy_meaning.specs.Places.{Points, rise_at, fall_at, degree_at, points_of}
use Rattle.fuzzy_meaning.specs.{declared.block.Trapezoid.Trapezoid, declared.block.Input.Input, Blocks.IsValidTerm}
use Rattle.error_bound.specs.Places.{rise_until, rise_end, low, high}
use Rattle.fz_num.proofs.Algebra.{AtMost-refl, lesser-mono, AtMost-trans, AtMost-lesser_left, AtMost-lesser_right}
use Rattle.fz_num.proofs.Algebra.{AtMost-lesser, IsProper-lesser}

pub record IsPeaked (t : Points) : Type 0 where
  pub peak : t.b ≤ t.c

-- the three cases of a side
pub by_rise : (P : Fraction → Type 0) (a b : ℕ) (x : Fraction) → (b * x.den ≤ x.num → P one)
    → (x.num < b * x.den → x.num ≤ a * x.den → P none)
    → (a * x.den < x.num → x.num < b * x.den → P (over (x.num - a * x.den) ((b - a) * x.den)))
    → P (rise_at (Some a) b x)
by_rise P a b x p1 p2 p3 = ⊎_elim
    (λ (l : x.num < b * x.den). ⊎_elim
    (λ (m : a * x.den < x.num). subst P (grind (arith, nat_tests)) (p3 m l))
    (λ (m : x.num ≤ a * x.den). subst P (grind (arith, nat_tests)) (p2 l m))
    (cases_lt (a * x.den) x.num))
    (λ (l : b * x.den ≤ x.num). subst P (grind (arith, nat_tests)) (p1 l))
    (cases_lt x.num (b * x.den))

pub by_rise_to : (P : Fraction → Type 0) (a b : ℕ) (x : Fraction) → (b * x.den < x.num → P one)
    → (x.num ≤ b * x.den → x.num ≤ a * x.den → P none)
    → (a * x.den < x.num → x.num ≤ b * x.den → P (over (x.num - a * x.den) ((b - a) * x.den)))
    → P (rise_until (Some a) b x)
by_rise_to P a b x p1 p2 p3 = ⊎_elim
    (λ (l : b * x.den < x.num). subst P (grind (arith, nat_tests)) (p1 l))
    (λ (l : x.num ≤ b * x.den). ⊎_elim
    (λ (m : a * x.den < x.num). subst P (grind (arith, nat_tests)) (p3 m l))
    (λ (m : x.num ≤ a * x.den). subst P (grind (arith, nat_tests)) (p2 l m))
    (cases_lt (a * x.den) x.num))
    (cases_lt (b * x.den) x.num)

pub by_fall : (P : Fraction → Type 0) (c d : ℕ) (x : Fraction) → (x.num ≤ c * x.den → P one)
    → (c * x.den < x.num → d * x.den ≤ x.num → P none)
    → (c * x.den < x.num → x.num < d * x.den → P (over (d * x.den - x.num) ((d - c) * x.den)))
    → P (fall_at c (Some d) x)
by_fall P c d x p1 p2 p3 = ⊎_elim
    (λ (l : c * x.den < x.num). ⊎_elim
    (λ (m : x.num < d * x.den). subst P (grind (arith, nat_tests)) (p3 l m))
    (λ (m : d * x.den ≤ x.num). subst P (grind (arith, nat_tests)) (p2 l m))
    (cases_lt x.num (d * x.den)))
    (λ (l : x.num ≤ c * x.den). subst P (grind (arith, nat_tests)) (p1 l))
    (cases_lt (c * x.den) x.num)

-- a product of positives shows each factor positive
left_pos : (a x n : ℕ) → n < a * x → 0 < a
left_pos a x n h = ⊎_elim (λ (l : a < 1). absurd (let z : a ≡ 0 = omega arith in omega (arith, ap (λ k. k * x) z)))
    (λ (l : 1 ≤ a). l) (cases_lt a 1)

-- a slope's denominator is positive
pub width_pos : (a b n x : ℕ) → a * x < n → n < b * x → 0 < b - a
width_pos a b n x h1 h2 = left_pos (b - a) x 0 (omega (arith, mul-sub x b a))

-- the same where n may be at b
width_pos_at : (a b n x : ℕ) → a * x < n → n ≤ b * x → 0 < b - a
width_pos_at a b n x h1 h2 = left_pos (b - a) x 0 (omega (arith, mul-sub x b a))

rise_proper : (a b : ℕ) (x : Fraction) → IsProper x → IsProper (rise_at (Some a) b x)
rise_proper a b x px = by_rise IsProper a b x
    (λ _. record { pos = omega arith })
    (λ _ _. record { pos = omega arith })
    (λ h1 h2. record { pos = mul-pos (width_pos a b x.num x.den h1 h2) px.pos })

-- every side is at most 1
slope_one : (a b n x : ℕ) → n ≤ b * x → AtMost (over (n - a * x) ((b - a) * x)) one
slope_one a b n x h = record { cross = omega (arith, mul-sub x b a) }

-- a slope at two places
slope_mono : (a b : ℕ) (x y : Fraction) → AtMost x y
    → AtMost (over (x.num - a * x.den) ((b - a) * x.den)) (over (y.num - a * y.den) ((b - a) * y.den))
slope_mono a b x y l =
    let w = b - a in
    let p : (x.num - a * x.den) * y.den ≤ (y.num - a * y.den) * x.den =
    omega (arith, mul-sub y.den x.num (a * x.den), mul-sub x.den y.num (a * y.den), l.cross) in
    let q : ((x.num - a * x.den) * y.den) * w ≤ ((y.num - a * y.den) * x.den) * w = mul-le-mul_right w p in
    record { cross = omega arith }

-- none is at most all, and all that is at most one
pub none_least : (f : Fraction) → AtMost none f
none_least f = record { cross = omega arith }

pub rise_one : (a b : ℕ) (x : Fraction) → AtMost (rise_at (Some a) b x) one
rise_one a b x = by_rise (λ f. AtMost f one) a b x (λ _. AtMost-refl one) (λ _ _. none_least one)
    (λ _ h. slope_one a b x.num x.den (omega arith))

-- the order of two places against a third
past : (b : ℕ) (x y : Fraction) → IsProper x → AtMost x y → b * x.den ≤ x.num → b * y.den ≤ y.num
past b x y px l h =
    let p : (b * x.den) * y.den ≤ x.num * y.den = mul-le-mul_right y.den h in
    let q : (b * y.den) * x.den ≤ y.num * x.den = omega (arith, l.cross) in
    le_of_mul-le-mul_right q px.pos

before : (b : ℕ) (x y : Fraction) → IsProper y → AtMost x y → y.num ≤ b * y.den → x.num ≤ b * x.den
before b x y py l h =
    let p : y.num * x.den ≤ (b * y.den) * x.den = mul-le-mul_right x.den h in
    let q : x.num * y.den ≤ (b * x.den) * y.den = omega (arith, l.cross) in
    le_of_mul-le-mul_right q py.pos

pub at_most_of_less : (x y : Fraction) → IsBelow x y → AtMost x y
at_most_of_less x y l = record { cross = let h = l.cross in omega arith }

-- x below y, b at most x: b below y
past_less : (b : ℕ) (x y : Fraction) → IsProper x → IsBelow x y → b * x.den ≤ x.num → b * y.den < y.num
past_less b x y px l h =
    let p : (b * x.den) * y.den ≤ x.num * y.den = mul-le-mul_right y.den h in
    let q : (b * y.den) * x.den < y.num * x.den = omega (arith, l.cross) in
    lt_of_mul-lt-mul_right x.den q

-- before b a side is none up to a, and the slope at most that of a place to the right
early_none : (a b : ℕ) (x : Fraction) → (b * x.den ≤ x.num → ⊥) → x.num ≤ a * x.den
    → AtMost (rise_at (Some a) b x) none
early_none a b x early h = by_rise (λ f. AtMost f none) a b x (λ g. absurd (early g)) (λ _ _. AtMost-refl none)
    (λ g _. absurd (omega arith))

early_slope : (a b : ℕ) (x y : Fraction) → (b * x.den ≤ x.num → ⊥) → AtMost x y
    → AtMost (rise_at (Some a) b x) (over (y.num - a * y.den) ((b - a) * y.den))
early_slope a b x y early l = by_rise (λ f. AtMost f (over (y.num - a * y.den) ((b - a) * y.den))) a b x
    (λ g. absurd (early g)) (λ _ _. none_least (over (y.num - a * y.den) ((b - a) * y.den)))
    (λ _ _. slope_mono a b x y l)

pub rise_mono : (a b : ℕ) (x y : Fraction) → IsProper x → IsProper y → AtMost x y
    → AtMost (rise_at (Some a) b x) (rise_at (Some a) b y)
rise_mono a b x y px py l = by_rise (λ f. AtMost (rise_at (Some a) b x) f) a b y (λ _. rise_one a b x)
    (λ h1 h2. early_none a b x (λ g. let p = past b x y px l g in omega arith) (before a x y py l h2))
    (λ h1 h2. early_slope a b x y (λ g. let p = past b x y px l g in omega arith) l)

-- below y, a rising side is at most its limit at y
pub rise_limit : (a b : ℕ) (x y : Fraction) → IsProper x → IsProper y → IsBelow x y
    → AtMost (rise_at (Some a) b x) (rise_until (Some a) b y)
rise_limit a b x y px py s =
    let l = at_most_of_less x y s in
    by_rise_to (λ f. AtMost (rise_at (Some a) b x) f) a b y (λ _. rise_one a b x)
    (λ h1 h2. early_none a b x (λ g. let p = past_less b x y px s g in omega arith) (before a x y py l h2))
    (λ h1 h2. early_slope a b x y (λ g. let p = past_less b x y px s g in omega arith) l)

rise_to_proper : (a b : ℕ) (x : Fraction) → IsProper x → IsProper (rise_until (Some a) b x)
rise_to_proper a b x px = by_rise_to IsProper a b x
    (λ _. record { pos = omega arith })
    (λ _ _. record { pos = omega arith })
    (λ h1 h2. record { pos = mul-pos (width_pos_at a b x.num x.den h1 h2) px.pos })

pub rise_to_one : (a b : ℕ) (x : Fraction) → AtMost (rise_until (Some a) b x) one
rise_to_one a b x = by_rise_to (λ f. AtMost f one) a b x (λ _. AtMost-refl one) (λ _ _. none_least one)
    (λ _ h. slope_one a b x.num x.den h)

-- the falling side
fall_proper : (c d : ℕ) (x : Fraction) → IsProper x → IsProper (fall_at c (Some d) x)
fall_proper c d x px = by_fall IsProper c d x
    (λ _. record { pos = omega arith })
    (λ _ _. record { pos = omega arith })
    (λ h1 h2. record { pos = mul-pos (width_pos c d x.num x.den h1 h2) px.pos })

down_one : (c d n x : ℕ) → c * x ≤ n → AtMost (over (d * x - n) ((d - c) * x)) one
down_one c d n x h = record { cross = omega (arith, mul-sub x d c) }

pub fall_one : (c d : ℕ) (x : Fraction) → AtMost (fall_at c (Some d) x) one
fall_one c d x = by_fall (λ f. AtMost f one) c d x (λ _. AtMost-refl one) (λ _ _. none_least one)
    (λ h _. down_one c d x.num x.den (omega arith))

down_mono : (c d : ℕ) (x y : Fraction) → AtMost x y
    → AtMost (over (d * y.den - y.num) ((d - c) * y.den)) (over (d * x.den - x.num) ((d - c) * x.den))
down_mono c d x y l =
    let w = d - c in
    let p : (d * y.den - y.num) * x.den ≤ (d * x.den - x.num) * y.den =
    omega (arith, mul-sub x.den (d * y.den) y.num, mul-sub y.den (d * x.den) x.num, l.cross) in
    let q : ((d * y.den - y.num) * x.den) * w ≤ ((d * x.den - x.num) * y.den) * w = mul-le-mul_right w p in
    record { cross = omega arith }

pub fall_mono : (c d : ℕ) (x y : Fraction) → IsProper x → IsProper y → AtMost x y
    → AtMost (fall_at c (Some d) y) (fall_at c (Some d) x)
fall_mono c d x y px py l = by_fall (λ f. AtMost (fall_at c (Some d) y) f) c d x
    (λ _. fall_one c d y)
    (λ h1 h2. by_fall (λ f. AtMost f none) c d y
    (λ g. absurd (let p = before c x y py l g in omega arith))
    (λ _ _. AtMost-refl none)
    (λ _ g. absurd (let p = past d x y px l h2 in omega arith)))
    (λ h1 h2. by_fall (λ f. AtMost f (over (d * x.den - x.num) ((d - c) * x.den))) c d y
    (λ g. absurd (let p = before c x y py l g in omega arith))
    (λ _ _. none_least (over (d * x.den - x.num) ((d - c) * x.den)))
    (λ _ _. down_mono c d x y l))

-- whole sides
pub side_rise_proper : (a : Option ℕ) (b : ℕ) (x : Fraction) → IsProper x → IsProper (rise_at a b x)
side_rise_proper None b x px = record { pos = omega arith }
side_rise_proper (Some a) b x px = rise_proper a b x px

pub side_fall_proper : (c : ℕ) (d : Option ℕ) (x : Fraction) → IsProper x → IsProper (fall_at c d x)
side_fall_proper c None x px = record { pos = omega arith }
side_fall_proper c (Some d) x px = fall_proper c d x px

pub side_end_proper : (k : Bool) (a : Option ℕ) (b : ℕ) (x : Fraction) → IsProper x → IsProper (rise_end k a b x)
side_end_proper true a b x px = side_rise_proper a b x px
side_end_proper false None b x px = record { pos = omega arith }
side_end_proper false (Some a) b x px = rise_to_proper a b x px

pub side_rise_mono : (a : Option ℕ) (b : ℕ) (x y : Fraction) → IsProper x → IsProper y → AtMost x y
    → AtMost (rise_at a b x) (rise_at a b y)
side_rise_mono None b x y px py l = AtMost-refl one
side_rise_mono (Some a) b x y px py l = rise_mono a b x y px py l

pub side_fall_mono : (c : ℕ) (d : Option ℕ) (x y : Fraction) → IsProper x → IsProper y → AtMost x y
    → AtMost (fall_at c d y) (fall_at c d x)
side_fall_mono c None x y px py l = AtMost-refl one
side_fall_mono c (Some d) x y px py l = fall_mono c d x y px py l

pub side_limit : (a : Option ℕ) (b : ℕ) (x y : Fraction) → IsProper x → IsProper y → IsBelow x y
    → AtMost (rise_at a b x) (rise_until a b y)
side_limit None b x y px py l = AtMost-refl one
side_limit (Some a) b x y px py l = rise_limit a b x y px py l

in_low : (s e x : Fraction) (k : Bool) → IsFromTo s e k x → AtMost s x
in_low s e x k (inside a b) = a
in_low s e x k (at_end a b c) = a

in_high : (s e x : Fraction) (k : Bool) → IsFromTo s e k x → AtMost x e
in_high s e x k (inside a b) = at_most_of_less x e b
in_high s e x k (at_end a b c) = b

in_end : (a : Option ℕ) (b : ℕ) (s e x : Fraction) (k : Bool) → IsProper x → IsProper e → IsFromTo s e k x
    → AtMost (rise_at a b x) (rise_end k a b e)
in_end a b s e x true px pe h = side_rise_mono a b x e px pe (in_high s e x true h)
in_end a b s e x false px pe (inside h1 h2) = side_limit a b x e px pe h2
in_end a b s e x false px pe (at_end h1 h2 h3) = absurd (grind arith)

pub low_bounds : (t : Points) (s e x : Fraction) (k : Bool) → IsProper s → IsProper e → IsProper x → IsFromTo s e k x
    → AtMost (low t s e) (degree_at t x)
low_bounds t s e x k ps pe px h =
    lesser-mono (rise_at t.a t.b s) (fall_at t.c t.d e) (rise_at t.a t.b x) (fall_at t.c t.d x)
    (side_rise_proper t.a t.b s ps) (side_fall_proper t.c t.d e pe)
    (side_rise_mono t.a t.b s x ps px (in_low s e x k h)) (side_fall_mono t.c t.d x e px pe (in_high s e x k h))

pub high_bounds : (t : Points) (s e x : Fraction) (k : Bool) → IsProper s → IsProper e → IsProper x → IsFromTo s e k x
    → AtMost (degree_at t x) (high t s e k)
high_bounds t s e x k ps pe px h =
    lesser-mono (rise_at t.a t.b x) (fall_at t.c t.d x) (rise_end k t.a t.b e) (fall_at t.c t.d s)
    (side_rise_proper t.a t.b x px) (side_fall_proper t.c t.d x px) (in_end t.a t.b s e x k px pe h)
    (side_fall_mono t.c t.d s x ps px (in_low s e x k h))

-- ---- the bounds of a degree_at over a cell are the greatest lower and the least upper

-- a place just below e/m
abbrev pub close : ℕ → ℕ → ℕ → Fraction
close e m q = over (e * q - 1) (m * q)

-- from a q at most b q + r, with r below q
squeeze : (a b q r : ℕ) → a * q ≤ b * q + r → r < q → a ≤ b
squeeze a b q r h l =
    ⊎_elim (λ (k : b < a). absurd (let p : suc b * q ≤ a * q = mul-le-mul_right q k in omega arith)) (λ (k : a ≤ b). k)
    (cases_lt b a)

scaled_less : (x y q : ℕ) → x < y → x * q + q ≤ y * q
scaled_less x y q h = let p : suc x * q ≤ y * q = mul-le-mul_right q h in omega arith

close_proper : (e m q : ℕ) → 0 < m → 0 < q → IsProper (close e m q)
close_proper e m q hm hq = record { pos = mul-pos hm hq }

-- the place just below e is past what is below e
close_past : (c e m q : ℕ) → 2 ≤ q → c * m < e → e * q - 1 ≤ c * (m * q) → ⊥
close_past c e m q hq h g = let p = scaled_less (c * m) e q h in omega arith

drop_line : (p r w d e m q : ℕ) → p * (w * (m * q)) ≤ (d * (m * q) - (e * q - 1)) * r
    → p * (w * m) * q ≤ (r * (d * m - e)) * q + r
drop_line p r w d e m q k =
    let z : d * (m * q) - (e * q - 1) ≤ (d * m - e) * q + 1 = omega (arith, mul-sub q (d * m) e) in
    let y : (d * (m * q) - (e * q - 1)) * r ≤ ((d * m - e) * q + 1) * r = mul-le-mul_right r z in
    omega arith

zero_of : (p w : ℕ) → p * w ≤ 0 → 0 < w → p ≤ 0
zero_of p zero h l = absurd (omega arith)
zero_of p (suc w) h l = omega arith

pub fall_lim : (c d e m : ℕ) (v : Fraction) → 0 < m → 0 < e → IsProper v
    → AtMost v (fall_at c (Some d) (close e m (v.den + 2))) → AtMost v (fall_at c (Some d) (over e m))
fall_lim c d e m v hm he pv h = by_fall (AtMost v) c d (over e m)
    (λ _. AtMost-trans v (fall_at c (Some d) x) one (side_fall_proper c (Some d) x px) h (fall_one c d x))
    (λ h1 h2. by_fall (λ f. AtMost v f → AtMost v none) c d x
    (λ g. absurd (close_past c e m q (omega arith) h1 g))
    (λ _ _ k. k)
    (λ g1 g2 k. record {
      cross =
          let w : 0 < d - c = width_pos c d x.num x.den g1 g2 in
          let l = drop_line v.num v.den (d - c) d e m q k.cross in
          let z : d * m - e ≡ 0 = omega arith in
          let l0 : v.num * ((d - c) * m) * q ≤ (v.den * 0) * q + v.den =
          subst (λ n. v.num * ((d - c) * m) * q ≤ (v.den * n) * q + v.den) z l in
          let s = squeeze (v.num * ((d - c) * m)) 0 q v.den (omega arith) (omega arith) in
          let o = zero_of v.num ((d - c) * m) s (mul-pos w hm) in
          omega arith;
    }) h)
    (λ h1 h2. by_fall (λ f. AtMost v f → AtMost v (over (d * m - e) ((d - c) * m))) c d x
    (λ g. absurd (close_past c e m q (omega arith) h1 g))
    (λ _ _ k. AtMost-trans v none (over (d * m - e) ((d - c) * m)) (record { pos = omega arith }) k
    (none_least (over (d * m - e) ((d - c) * m))))
    (λ g1 g2 k. record {
      cross =
          let l = drop_line v.num v.den (d - c) d e m q k.cross in
          let s = squeeze (v.num * ((d - c) * m)) (v.den * (d * m - e)) q v.den l (omega arith) in
          omega arith;
    }) h)
  where
    q : ℕ
    q = v.den + 2

    x : Fraction
    x = close e m (v.den + 2)

    px : IsProper x
    px = close_proper e m (v.den + 2) hm (omega arith)

climb_line : (p r w a e m q : ℕ) → (e * q - 1 - a * (m * q)) * r ≤ p * (w * (m * q))
    → (r * (e - a * m)) * q ≤ p * (w * m) * q + r
climb_line p r w a e m q k =
    let z : (e - a * m) * q ≤ e * q - 1 - a * (m * q) + 1 = omega (arith, mul-sub q e (a * m)) in
    let y : ((e - a * m) * q) * r ≤ (e * q - 1 - a * (m * q) + 1) * r = mul-le-mul_right r z in
    omega arith

pub rise_lim : (a b e m : ℕ) (v : Fraction) → 0 < m → 0 < e → IsProper v
    → AtMost (rise_at (Some a) b (close e m (v.den + 2))) v → AtMost (rise_until (Some a) b (over e m)) v
rise_lim a b e m v hm he pv h = by_rise_to (λ f. AtMost f v) a b (over e m)
    (λ h1. by_rise (λ f. AtMost f v → AtMost one v) a b x
    (λ _ k. k)
    (λ g _ _. absurd (close_short h1 g))
    (λ _ g _. absurd (close_short h1 g)) h)
    (λ _ _. none_least v)
    (λ h1 h2. by_rise (λ f. AtMost f v → AtMost (over (e - a * m) ((b - a) * m)) v) a b x
    (λ g k. absurd (let p : e * q ≤ (b * m) * q = mul-le-mul_right q h2 in
    let p2 : 0 < e * q = mul-pos he (omega arith) in omega arith))
    (λ _ g k. absurd (close_past a e m q (omega arith) h1 g))
    (λ g1 g2 k. record {
      cross =
          let l = climb_line v.num v.den (b - a) a e m q k.cross in
          let s = squeeze (v.den * (e - a * m)) (v.num * ((b - a) * m)) q v.den l (omega arith) in
          omega arith;
    }) h)
  where
    q : ℕ
    q = v.den + 2

    x : Fraction
    x = close e m (v.den + 2)

    close_short : b * m < e → x.num < b * x.den → ⊥
    close_short h1 g = let p = scaled_less (b * m) e q h1 in omega arith

-- the place just below the end lies in the cell
close_in : (s e m q : ℕ) (k : Bool) → 0 < m → 0 < q → s < e → IsFromTo (over s m) (over e m) k (close e m q)
close_in s e m q k hm hq h =
    let p = scaled_less s e q h in
    let a : (s * q) * m + m ≤ (e * q) * m =
    (let w : suc (s * q) * m ≤ (e * q) * m = mul-le-mul_right m (omega arith) in omega arith) in
    let b : 0 < e * q = mul-pos (omega arith) hq in
    inside (record { cross = omega (arith, mul-sub m (e * q) 1) })
    (record { cross = omega (arith, mul-sub m (e * q) 1) })

-- degrees at a place by where it stands
pub rise_all : (a : Option ℕ) (b : ℕ) (x : Fraction) → AtMost (rise_at a b x) one
rise_all None b x = AtMost-refl one
rise_all (Some a) b x = rise_one a b x

pub fall_all : (c : ℕ) (d : Option ℕ) (x : Fraction) → AtMost (fall_at c d x) one
fall_all c None x = AtMost-refl one
fall_all c (Some d) x = fall_one c d x

rise_top : (a : Option ℕ) (b : ℕ) (x : Fraction) → b * x.den ≤ x.num → AtMost one (rise_at a b x)
rise_top None b x h = AtMost-refl one
rise_top (Some a) b x h =
    by_rise (AtMost one) a b x (λ _. AtMost-refl one) (λ g _. absurd (omega arith)) (λ _ g. absurd (omega arith))

fall_top : (c : ℕ) (d : Option ℕ) (x : Fraction) → x.num ≤ c * x.den → AtMost one (fall_at c d x)
fall_top c None x h = AtMost-refl one
fall_top c (Some d) x h =
    by_fall (AtMost one) c d x (λ _. AtMost-refl one) (λ g _. absurd (omega arith)) (λ g _. absurd (omega arith))

one_proper : IsProper one
one_proper = record { pos = omega arith }

pub end_all : (k : Bool) (a : Option ℕ) (b : ℕ) (x : Fraction) → AtMost (rise_end k a b x) one
end_all true a b x = rise_all a b x
end_all false None b x = AtMost-refl one
end_all false (Some a) b x = rise_to_one a b x

-- where the falling side is 1 the degree_at is the rising side, and the other way round
degree_rise : (t : Points) (x : Fraction) → x.num ≤ t.c * x.den → AtMost (rise_at t.a t.b x) (degree_at t x)
degree_rise t x h = AtMost-lesser (rise_at t.a t.b x) (rise_at t.a t.b x) (fall_at t.c t.d x)
    (AtMost-refl (rise_at t.a t.b x))
    (AtMost-trans (rise_at t.a t.b x) one (fall_at t.c t.d x) one_proper (rise_all t.a t.b x) (fall_top t.c t.d x h))

degree_fall : (t : Points) (x : Fraction) → t.b * x.den ≤ x.num → AtMost (fall_at t.c t.d x) (degree_at t x)
degree_fall t x h = AtMost-lesser (fall_at t.c t.d x) (rise_at t.a t.b x) (fall_at t.c t.d x)
    (AtMost-trans (fall_at t.c t.d x) one (rise_at t.a t.b x) one_proper (fall_all t.c t.d x) (rise_top t.a t.b x h))
    (AtMost-refl (fall_at t.c t.d x))

pub degree_proper : (t : Points) (x : Fraction) → IsProper x → IsProper (degree_at t x)
degree_proper t x px =
    IsProper-lesser (rise_at t.a t.b x) (fall_at t.c t.d x) (side_rise_proper t.a t.b x px)
    (side_fall_proper t.c t.d x px)

module _ (t : Points) (s e m : ℕ) (k : Bool) (v : Fraction) (hm : 0 < m) (he : s < e) (pv : IsProper v) where
  abbrev xs : Fraction
  xs = over s m

  ps : IsProper xs
  ps = record { pos = hm }

  start : IsFromTo (over s m) (over e m) k xs
  start = inside (AtMost-refl xs) (record { cross = (let p = scaled_less s e m he in omega arith) })

  -- no fraction above low is at most every degree_at of the cell
  pub low_greatest : ((x : Fraction) → IsProper x → IsFromTo (over s m) (over e m) k x → AtMost v (degree_at t x))
      → AtMost v (low t (over s m) (over e m))
  low_greatest h =
      AtMost-lesser v (rise_at t.a t.b (over s m)) (fall_at t.c t.d (over e m))
      (AtMost-trans v (degree_at t xs) (rise_at t.a t.b xs) (degree_proper t xs ps) (h xs ps start)
      (AtMost-lesser_left (rise_at t.a t.b xs) (fall_at t.c t.d xs)))
      (at_fall t.d (λ x px i. AtMost-trans v (degree_at t x) (fall_at t.c t.d x) (degree_proper t x px) (h x px i)
      (AtMost-lesser_right (rise_at t.a t.b x) (fall_at t.c t.d x))))
    where
      at_fall : (d : Option ℕ)
          → ((x : Fraction) → IsProper x → IsFromTo (over s m) (over e m) k x → AtMost v (fall_at t.c d x))
          → AtMost v (fall_at t.c d (over e m))
      at_fall None g = g xs ps start
      at_fall (Some d) g =
          fall_lim t.c d e m v hm (omega arith) pv
          (g (close e m (v.den + 2)) (close_proper e m (v.den + 2) hm (omega arith))
          (close_in s e m (v.den + 2) k hm (omega arith) he))

  -- no fraction below high is at least every degree_at of the cell
  pub high_least : IsPeaked t
      → ((x : Fraction) → IsProper x → IsFromTo (over s m) (over e m) k x → AtMost (degree_at t x) v)
      → AtMost (high t (over s m) (over e m) k) v
  high_least gt h = ⊎_elim right left (cases_lt (t.c * m) s)
    where
      xe : Fraction
      xe = over e m

      hd : Fraction
      hd = high t xs xe k

      -- to the right of c
      right : t.c * m < s → AtMost hd v
      right l =
          let b1 : t.b * m ≤ s = (let p : t.b * m ≤ t.c * m = mul-le-mul_right m gt.peak in omega arith) in
          AtMost-trans hd (fall_at t.c t.d xs) v (side_fall_proper t.c t.d xs ps)
          (AtMost-lesser_right (rise_end k t.a t.b xe) (fall_at t.c t.d xs))
          (AtMost-trans (fall_at t.c t.d xs) (degree_at t xs) v (degree_proper t xs ps) (degree_fall t xs b1)
          (h xs ps start))

      left : s ≤ t.c * m → AtMost hd v
      left l = AtMost-trans hd (rise_end k t.a t.b xe) v (side_end_proper k t.a t.b xe (record { pos = hm }))
          (AtMost-lesser_left (rise_end k t.a t.b xe) (fall_at t.c t.d xs))
          (⊎_elim (λ (g : t.b * m < e). AtMost-trans (rise_end k t.a t.b xe) one v one_proper (end_all k t.a t.b xe)
          (top g)) (λ (g : e ≤ t.b * m). early k t.a (λ x px i g2. by_rising x px (h x px i) g2) g)
          (cases_lt (t.b * m) e))
        where
          peak_c : t.b * m ≤ t.c * m
          peak_c = mul-le-mul_right m gt.peak

          -- a place of the peak lies in the cell
          top : t.b * m < e → AtMost one v
          top g = ⊎_elim
              (λ (n : s < t.b * m). let x = over (t.b * m) m in let px : IsProper x = record { pos = hm } in
              at_top x px (inside (record { cross = mul-le-mul_right m (le_of_lt n) })
              (record { cross = (let p = scaled_less (t.b * m) e m g in omega arith) })) (omega arith) peak_c)
              (λ (n : t.b * m ≤ s). at_top xs ps start n l)
              (cases_lt s (t.b * m))
            where
              at_top : (x : Fraction) → IsProper x → IsFromTo xs xe k x → t.b * x.den ≤ x.num → x.num ≤ t.c * x.den
                  → AtMost one v
              at_top x px i g1 g2 =
                  AtMost-trans one (rise_at t.a t.b x) v (side_rise_proper t.a t.b x px) (rise_top t.a t.b x g1)
                  (AtMost-trans (rise_at t.a t.b x) (degree_at t x) v (degree_proper t x px) (degree_rise t x g2)
                  (h x px i))

          by_rising : (x : Fraction) → IsProper x → AtMost (degree_at t x) v → x.num ≤ t.c * x.den
              → AtMost (rise_at t.a t.b x) v
          by_rising x px i g2 =
              AtMost-trans (rise_at t.a t.b x) (degree_at t x) v (degree_proper t x px) (degree_rise t x g2) i

          early : (k : Bool) (a : Option ℕ)
              → ((x : Fraction) → IsProper x → IsFromTo xs xe k x → x.num ≤ t.c * x.den → AtMost (rise_at a t.b x) v)
              → e ≤ t.b * m → AtMost (rise_end k a t.b xe) v
          early true a f g = f xe (record { pos = hm })
              (at_end (record { cross = mul-le-mul_right m (le_of_lt he) }) (AtMost-refl xe) refl)
              (omega (arith, peak_c))
          early false None f g =
              f xs ps (inside (AtMost-refl xs) (record { cross = (let p = scaled_less s e m he in omega arith) })) l
          early false (Some a) f g =
              rise_lim a t.b e m v hm (omega arith) pv
              (f (close e m (v.den + 2)) (close_proper e m (v.den + 2) hm (omega arith))
              (close_in s e m (v.den + 2) false hm (omega arith) he)
              (let p : e * (v.den + 2) ≤ (t.c * m) * (v.den + 2) =
              mul-le-mul_right (v.den + 2) (omega (arith, peak_c)) in
              omega arith))

-- ---- a term's points are in order

pub IsPeaked-points : (i : Input) (t : Trapezoid) → IsValidTerm i.lo i.hi t → IsPeaked (points_of i t)
IsPeaked-points i t v = record { peak = (let h = v.peak in let g = v.b_in in omega (arith, ints)) }
