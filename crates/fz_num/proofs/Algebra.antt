-- The algebra of fractions: their order, gaps to bytes, and what least, greatest and 1 minus do to a nearness.
use Rattle.std.proofs.Common.{◌≡◌, ⊎_elim, ℕ, ◌+◌, ◌-◌, ◌*◌, ◌<◌, ◌≤◌, min, max, subst, arith}
use Rattle.std.proofs.Common.{mul-le-mul_right, le_of_mul-le-mul_right, mul-pos}
use native.Mathlib.Nat.{mul-sub}
use Rattle.std.proofs.lemmas.Bool.{cases_lt}
use Rattle.std.proofs.lemmas.Bool.Decides.{nat_tests}
use Rattle.fz_num.specs.Fractions.{Fraction, IsProper, AtMost, lesser, greater, one_minus, one, up_div, IsNear}
use Rattle.fz_num.specs.Fractions.{rise, fall, Quotient, IsClose}

pub AtMost-refl : (f : Fraction) → AtMost f f
AtMost-refl f = record { cross = omega arith }

pub AtMost-trans : (f g h : Fraction) → IsProper g → AtMost f g → AtMost g h → AtMost f h
AtMost-trans f g h pg p q =
    let a : (f.num * g.den) * h.den ≤ (g.num * f.den) * h.den = mul-le-mul_right h.den p.cross in
    let b : (g.num * h.den) * f.den ≤ (h.num * g.den) * f.den = mul-le-mul_right f.den q.cross in
    let c : (f.num * h.den) * g.den ≤ (h.num * f.den) * g.den = omega arith in
    record { cross = le_of_mul-le-mul_right c pg.pos }

-- to show something of the lesser of two, show it of each where it is at most the other
pub by_lesser : (P : Fraction → Type 0) (f g : Fraction) → (AtMost f g → P f) → (AtMost g f → P g) → P (lesser f g)
by_lesser P f g pf pg = ⊎_elim
    (λ (l : g.num * f.den < f.num * g.den). subst P (grind (arith, nat_tests)) (pg (record { cross = omega arith })))
    (λ (l : f.num * g.den ≤ g.num * f.den). subst P (grind (arith, nat_tests)) (pf (record { cross = l })))
    (cases_lt (g.num * f.den) (f.num * g.den))

pub by_greater : (P : Fraction → Type 0) (f g : Fraction) → (AtMost g f → P f) → (AtMost f g → P g) → P (greater f g)
by_greater P f g pf pg = ⊎_elim
    (λ (l : g.num * f.den < f.num * g.den). subst P (grind (arith, nat_tests)) (pf (record { cross = omega arith })))
    (λ (l : f.num * g.den ≤ g.num * f.den). subst P (grind (arith, nat_tests)) (pg (record { cross = l })))
    (cases_lt (g.num * f.den) (f.num * g.den))

pub IsProper-lesser : (f g : Fraction) → IsProper f → IsProper g → IsProper (lesser f g)
IsProper-lesser f g pf pg = by_lesser IsProper f g (λ _. pf) (λ _. pg)

pub IsProper-greater : (f g : Fraction) → IsProper f → IsProper g → IsProper (greater f g)
IsProper-greater f g pf pg = by_greater IsProper f g (λ _. pf) (λ _. pg)

pub AtMost-lesser_left : (f g : Fraction) → AtMost (lesser f g) f
AtMost-lesser_left f g = by_lesser (λ h. AtMost h f) f g (λ _. AtMost-refl f) (λ l. l)

pub AtMost-lesser_right : (f g : Fraction) → AtMost (lesser f g) g
AtMost-lesser_right f g = by_lesser (λ h. AtMost h g) f g (λ l. l) (λ _. AtMost-refl g)

pub AtMost-lesser : (h f g : Fraction) → AtMost h f → AtMost h g → AtMost h (lesser f g)
AtMost-lesser h f g a b = by_lesser (AtMost h) f g (λ _. a) (λ _. b)

pub AtMost-greater_left : (f g : Fraction) → AtMost f (greater f g)
AtMost-greater_left f g = by_greater (AtMost f) f g (λ _. AtMost-refl f) (λ l. l)

pub AtMost-greater_right : (f g : Fraction) → AtMost g (greater f g)
AtMost-greater_right f g = by_greater (AtMost g) f g (λ l. l) (λ _. AtMost-refl g)

pub AtMost-greater : (f g h : Fraction) → AtMost f h → AtMost g h → AtMost (greater f g) h
AtMost-greater f g h a b = by_greater (λ k. AtMost k h) f g (λ _. a) (λ _. b)

pub lesser-mono : (f g h k : Fraction) → IsProper f → IsProper g → AtMost f h → AtMost g k
    → AtMost (lesser f g) (lesser h k)
lesser-mono f g h k pf pg a b =
    AtMost-lesser (lesser f g) h k (AtMost-trans (lesser f g) f h pf (AtMost-lesser_left f g) a)
    (AtMost-trans (lesser f g) g k pg (AtMost-lesser_right f g) b)

pub greater-mono : (f g h k : Fraction) → IsProper h → IsProper k → AtMost f h → AtMost g k
    → AtMost (greater f g) (greater h k)
greater-mono f g h k ph pk a b =
    AtMost-greater f g (greater h k) (AtMost-trans f h (greater h k) ph a (AtMost-greater_left h k))
    (AtMost-trans g k (greater h k) pk b (AtMost-greater_right h k))

-- 1 - f falls as f rises
pub AtMost-one_minus : (f g : Fraction) → AtMost f g → AtMost (one_minus g) (one_minus f)
AtMost-one_minus f g l = record { cross = omega (arith, mul-sub f.den g.den g.num, mul-sub g.den f.den f.num) }

pub le-up_div : (a b : ℕ) → 0 < b → a ≤ up_div a b * b
le-up_div a b h = omega arith

-- the least number whose product with b is a or more
pub up_div-le : (a b e : ℕ) → 0 < b → a ≤ e * b → up_div a b ≤ e
up_div-le a b e h le = ⊎_elim
    (λ (l : up_div a b < e + 1). omega arith)
    (λ (l : e + 1 ≤ up_div a b).
    let many : (e + 1) * b ≤ up_div a b * b = mul-le-mul_right b l in
    absurd (omega arith))
    (cases_lt (up_div a b) (e + 1))

pub sides-near : (t g : ℕ) (f : Fraction) → 0 < f.den → IsNear t g f (rise t g f) (fall t g f)
sides-near t g f h =
    let x = f.num * 255 in
    let y = g * f.den in
    let whole : 0 < 255 * f.den = mul-pos (omega arith) h in
    let u = le-up_div ((x - y) * t) (255 * f.den) whole in
    let d = le-up_div ((y - x) * t) (255 * f.den) whole in
    let a : x * t ≤ (y + (x - y)) * t = mul-le-mul_right t (omega arith) in
    let b : y * t ≤ (x + (y - x)) * t = mul-le-mul_right t (omega arith) in
    record { up = omega arith; down = omega arith }

pub rise-least : (t g : ℕ) (f : Fraction) (r d : ℕ) → 0 < f.den → IsNear t g f r d → rise t g f ≤ r
rise-least t g f r d h near =
    let x = f.num * 255 in
    let y = g * f.den in
    up_div-le ((x - y) * t) (255 * f.den) r (mul-pos (omega arith) h)
    (let u = near.up in omega (arith, mul-sub t x y))

pub fall-least : (t g : ℕ) (f : Fraction) (r d : ℕ) → 0 < f.den → IsNear t g f r d → fall t g f ≤ d
fall-least t g f r d h near =
    let x = f.num * 255 in
    let y = g * f.den in
    up_div-le ((y - x) * t) (255 * f.den) d (mul-pos (omega arith) h)
    (let u = near.down in omega (arith, mul-sub t y x))

-- the two halves
record Under (t g : ℕ) (f : Fraction) (r : ℕ) : Type 0 where
  pub up : f.num * 255 * t ≤ g * f.den * t + r * 255 * f.den

record Over (t g : ℕ) (f : Fraction) (d : ℕ) : Type 0 where
  pub down : g * f.den * t ≤ f.num * 255 * t + d * 255 * f.den

under_of : (t g e : ℕ) (f h : Fraction) → IsProper h → AtMost f h → Under t g h e → Under t g f e
under_of t g e f h ph b nh =
    let u1 : (f.num * h.den) * (255 * t) ≤ (h.num * f.den) * (255 * t) = mul-le-mul_right (255 * t) b.cross in
    let u2 : (h.num * 255 * t) * f.den ≤ (g * h.den * t + e * 255 * h.den) * f.den = mul-le-mul_right f.den nh.up in
    let u3 : (f.num * 255 * t) * h.den ≤ (g * f.den * t + e * 255 * f.den) * h.den = omega arith in
    record { up = le_of_mul-le-mul_right u3 ph.pos }

over_of : (t g e : ℕ) (f l : Fraction) → IsProper l → AtMost l f → Over t g l e → Over t g f e
over_of t g e f l pl a nl =
    let d1 : (l.num * f.den) * (255 * t) ≤ (f.num * l.den) * (255 * t) = mul-le-mul_right (255 * t) a.cross in
    let d2 : (g * l.den * t) * f.den ≤ (l.num * 255 * t + e * 255 * l.den) * f.den = mul-le-mul_right f.den nl.down in
    let d3 : (g * f.den * t) * l.den ≤ (f.num * 255 * t + e * 255 * f.den) * l.den = omega arith in
    record { down = le_of_mul-le-mul_right d3 pl.pos }

-- more bytes above, fewer below, more error
under_more : (t g g' e e' : ℕ) (f : Fraction) → g ≤ g' → e ≤ e' → Under t g f e → Under t g' f e'
under_more t g g' e e' f a b n =
    let p : g * (f.den * t) ≤ g' * (f.den * t) = mul-le-mul_right (f.den * t) a in
    let q : e * (255 * f.den) ≤ e' * (255 * f.den) = mul-le-mul_right (255 * f.den) b in
    record { up = let h = n.up in omega arith }

over_more : (t g g' e e' : ℕ) (f : Fraction) → g' ≤ g → e ≤ e' → Over t g f e → Over t g' f e'
over_more t g g' e e' f a b n =
    let p : g' * (f.den * t) ≤ g * (f.den * t) = mul-le-mul_right (f.den * t) a in
    let q : e * (255 * f.den) ≤ e' * (255 * f.den) = mul-le-mul_right (255 * f.den) b in
    record { down = let h = n.down in omega arith }

under : (t g : ℕ) (f : Fraction) (r d : ℕ) → IsNear t g f r d → Under t g f r
under t g f r d n = record { up = n.up }

above : (t g : ℕ) (f : Fraction) (r d : ℕ) → IsNear t g f r d → Over t g f d
above t g f r d n = record { down = n.down }

both : (t g : ℕ) (f : Fraction) (r d : ℕ) → Under t g f r → Over t g f d → IsNear t g f r d
both t g f r d a b = record { up = a.up; down = b.down }

near_same : {t g g' r r' d d' : ℕ} {f : Fraction} → g ≡ g' → r ≡ r' → d ≡ d' → IsNear t g f r d → IsNear t g' f r' d'
near_same {t} {g = g} {r = r} {r' = r'} {d = d} {d' = d'} {f = f} a b c n =
    subst (λ m. IsNear t m f r' d') a (subst (λ m. IsNear t g f m d') b (subst (λ m. IsNear t g f r m) c n))

pub IsNear-more : (t g r r' d d' : ℕ) (f : Fraction) → r ≤ r' → d ≤ d' → IsNear t g f r d → IsNear t g f r' d'
IsNear-more t g r r' d d' f a b n =
    both t g f r' d' (under_more t g g r r' f (omega arith) a (under t g f r d n))
    (over_more t g g d d' f (omega arith) b (above t g f r d n))

-- between two fractions the rise of the upper one and the fall of the lower one serve
pub IsNear-between : (t g r d r' d' : ℕ) (l f h : Fraction) → IsProper l → IsProper h → AtMost l f → AtMost f h
    → IsNear t g l r' d → IsNear t g h r d' → IsNear t g f r d
IsNear-between t g r d r' d' l f h pl ph a b nl nh =
    both t g f r d (under_of t g r f h ph b (under t g h r d' nh)) (over_of t g d f l pl a (above t g l r' d nl))

pub IsNear-lesser : (t g1 g2 r1 r2 d1 d2 : ℕ) (f1 f2 : Fraction) → IsProper f1 → IsProper f2 → IsNear t g1 f1 r1 d1
    → IsNear t g2 f2 r2 d2 → IsNear t (min g1 g2) (lesser f1 f2) (max r1 r2) (max d1 d2)
IsNear-lesser t g1 g2 r1 r2 d1 d2 f1 f2 p1 p2 n1 n2 =
    by_lesser (λ f. IsNear t (min g1 g2) f (max r1 r2) (max d1 d2)) f1 f2
    (λ l. one_of g1 g2 r1 r2 d1 d2 f1 f2 p2 n1 n2 l) (λ l. swapped (one_of g2 g1 r2 r1 d2 d1 f2 f1 p1 n2 n1 l))
  where
    one_of : (g1 g2 r1 r2 d1 d2 : ℕ) (f1 f2 : Fraction) → IsProper f2 → IsNear t g1 f1 r1 d1 → IsNear t g2 f2 r2 d2
        → AtMost f1 f2 → IsNear t (min g1 g2) f1 (max r1 r2) (max d1 d2)
    one_of g1 g2 r1 r2 d1 d2 f1 f2 p2 n1 n2 l = both t (min g1 g2) f1 (max r1 r2) (max d1 d2)
        (⊎_elim (λ (h : g2 < g1). under_more t g2 (min g1 g2) r2 (max r1 r2) f1 (omega arith) (omega arith)
        (under_of t g2 r2 f1 f2 p2 l (under t g2 f2 r2 d2 n2)))
        (λ (h : g1 ≤ g2). under_more t g1 (min g1 g2) r1 (max r1 r2) f1 (omega arith) (omega arith)
        (under t g1 f1 r1 d1 n1)) (cases_lt g2 g1))
        (over_more t g1 (min g1 g2) d1 (max d1 d2) f1 (omega arith) (omega arith) (above t g1 f1 r1 d1 n1))

    swapped : IsNear t (min g2 g1) f2 (max r2 r1) (max d2 d1) → IsNear t (min g1 g2) f2 (max r1 r2) (max d1 d2)
    swapped n = near_same (omega arith) (omega arith) (omega arith) n

pub IsNear-greater : (t g1 g2 r1 r2 d1 d2 : ℕ) (f1 f2 : Fraction) → IsProper f1 → IsProper f2 → IsNear t g1 f1 r1 d1
    → IsNear t g2 f2 r2 d2 → IsNear t (max g1 g2) (greater f1 f2) (max r1 r2) (max d1 d2)
IsNear-greater t g1 g2 r1 r2 d1 d2 f1 f2 p1 p2 n1 n2 =
    by_greater (λ f. IsNear t (max g1 g2) f (max r1 r2) (max d1 d2)) f1 f2
    (λ l. one_of g1 g2 r1 r2 d1 d2 f1 f2 p2 n1 n2 l) (λ l. swapped (one_of g2 g1 r2 r1 d2 d1 f2 f1 p1 n2 n1 l))
  where
    one_of : (g1 g2 r1 r2 d1 d2 : ℕ) (f1 f2 : Fraction) → IsProper f2 → IsNear t g1 f1 r1 d1 → IsNear t g2 f2 r2 d2
        → AtMost f2 f1 → IsNear t (max g1 g2) f1 (max r1 r2) (max d1 d2)
    one_of g1 g2 r1 r2 d1 d2 f1 f2 p2 n1 n2 l = both t (max g1 g2) f1 (max r1 r2) (max d1 d2)
        (under_more t g1 (max g1 g2) r1 (max r1 r2) f1 (omega arith) (omega arith) (under t g1 f1 r1 d1 n1))
        (⊎_elim (λ (h : g1 < g2). over_more t g2 (max g1 g2) d2 (max d1 d2) f1 (omega arith) (omega arith)
        (over_of t g2 d2 f1 f2 p2 l (above t g2 f2 r2 d2 n2)))
        (λ (h : g2 ≤ g1). over_more t g1 (max g1 g2) d1 (max d1 d2) f1 (omega arith) (omega arith)
        (above t g1 f1 r1 d1 n1)) (cases_lt g1 g2))

    swapped : IsNear t (max g2 g1) f2 (max r2 r1) (max d2 d1) → IsNear t (max g1 g2) f2 (max r1 r2) (max d1 d2)
    swapped n = near_same (omega arith) (omega arith) (omega arith) n

-- 1 minus changes rise and fall
pub IsNear-one_minus : (t g r d : ℕ) (f : Fraction) → g ≤ 255 → AtMost f one → IsNear t g f r d
    → IsNear t (255 - g) (one_minus f) d r
IsNear-one_minus t g r d f hg hf n = record {
  up = let h = n.down in omega (arith, mul-sub (255 * t) f.den f.num, mul-sub (f.den * t) 255 g, lift);
  down = let h = n.up in omega (arith, mul-sub (255 * t) f.den f.num, mul-sub (f.den * t) 255 g, lift);
}
  where
    lift : f.num * (255 * t) ≤ f.den * (255 * t)
    lift = mul-le-mul_right (255 * t) (let h = hf.cross in omega arith)

-- what is close within e is close within more
pub IsClose-more : (w e f : ℕ) (p q : Quotient) → e ≤ f → IsClose w e p q → IsClose w f p q
IsClose-more w e f p q h c =
    let m : e * (w * (p.den * q.den)) ≤ f * (w * (p.den * q.den)) = mul-le-mul_right (w * (p.den * q.den)) h in
    record { dens = c.dens; cross = (let a = c.cross in omega arith) }
