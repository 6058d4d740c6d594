-- A box's Bound, over the rows of an output's terms.
use Rattle.std.proofs.Common.{◌≡◌, ⊎_elim, ℕ, ◌+◌, ◌-◌, ◌*◌, ◌<◌, ◌≤◌, sym, subst, arith, mul-le-mul_right}
use Rattle.std.proofs.Common.{le_of_mul-le-mul_right, zero, suc, List, [], ◌∷◌, mul-pos, ap}
use Rattle.std.proofs.{lemmas.Bool.cases_lt, lemmas.Int.ints}
use Rattle.fz_num.specs.Fractions.{Fraction, IsProper, AtMost, IsNear, over, up_div, IsClose}
use Rattle.fz_num.specs.{declared.dec.Dec.Dec, Decimals.distance}
use Rattle.fz_num.proofs.Algebra.{le-up_div}
use Rattle.error_bound.specs.{Bounds.in_millionths, Bounds.offset, Errors.apart}
use Rattle.std.specs.Prelude.{ℤ, pos, ◌+ℤ◌, ◌-ℤ◌, ◌*ℤ◌, ◌<ℤ◌, unsigned_abs}
use borrow.Author.Differences.{up, down}
use Rattle.fuzzy_meaning.specs.{declared.block.Output.Output, Meaning.quotient_of, Blocks.IsWithin}
use Rattle.byte_scaling.specs.Cells.{nearest_byte, NearestIsByte, value_in}

-- two numbers differ by at most d
pub record Apart (m g d : ℕ) : Type 0 where
  pub up : m ≤ g + d
  pub down : g ≤ m + d

-- one term: (p - q) (m - g), where m is at most r above g, and at most f below
pub term_le : (p q m g r f : ℕ) → m ≤ g + r → g ≤ m + f
    → p * m + q * g ≤ q * m + p * g + (p - q) * r + (q - p) * f
term_le p q m g r f h1 h2 = ⊎_elim less more (cases_lt p q)
  where
    less : p < q → p * m + q * g ≤ q * m + p * g + (p - q) * r + (q - p) * f
    less l = let k = q - p in
        let e : q ≡ p + k = omega arith in
        let z : 0 ≡ p - q = omega arith in
        let a : g * k ≤ (m + f) * k = mul-le-mul_right k h2 in
        subst (λ n. p * m + n * g ≤ n * m + p * g + (p - q) * r + k * f) (sym e)
        (subst (λ n. p * m + (p + k) * g ≤ (p + k) * m + p * g + n * r + k * f) z (omega arith))

    more : q ≤ p → p * m + q * g ≤ q * m + p * g + (p - q) * r + (q - p) * f
    more l = let k = p - q in
        let e : p ≡ q + k = omega arith in
        let z : 0 ≡ q - p = omega arith in
        let a : m * k ≤ (g + r) * k = mul-le-mul_right k h1 in
        subst (λ n. n * m + q * g ≤ q * m + n * g + k * r + (q - p) * f) (sym e)
        (subst (λ n. (q + k) * m + q * g ≤ q * m + (q + k) * g + k * r + n * f) z (omega arith))

-- ---- the error of a quotient of sums, from the pulls of the parts, by cross products

-- what a box knows, in numbers alone:
-- pp/mm is the exact answer above lo, aa/gg the same from the machine's masses, a/gg with the singletons' bytes; the
-- first is at most u k/(gg mm) above the second, and d k/(gg mm) below
pub record Parts (w h l dl q a aa gg pp mm k u d : ℕ) : Type 0 where
  pub l_pos : 0 < l
  pub g_pos : 0 < gg
  pub above : gg * pp ≤ aa * mm + u * k
  pub below : aa * mm ≤ gg * pp + d * k
  pub mass : k * l ≤ 255 * mm
  pub singles : Apart (a * w) (aa * 255) (dl * gg)
  pub floor_low : q * gg ≤ h * a
  pub floor_high : h * a ≤ (q + 1) * gg

module _ (w h l dl q a aa gg pp mm k u d : ℕ) (p : Parts w h l dl q a aa gg pp mm k u d) (t b : ℕ) where
  -- with a bound b in parts of t
  pub within_low : t * (65025 * h * d + dl * h * (l * gg)) ≤ b * (255 * h * w * (l * gg))
      → q * w * mm * t ≤ 255 * h * pp * t + b * w * 255 * h * mm
  within_low hb =
      let s1 : (q * gg) * w ≤ (h * a) * w = mul-le-mul_right w p.floor_low in
      let s2 : (a * w) * h ≤ (aa * 255 + dl * gg) * h = mul-le-mul_right h p.singles.up in
      let s3 : (q * gg * w) * (mm * l * t) ≤ ((aa * 255 + dl * gg) * h) * (mm * l * t) =
      mul-le-mul_right (mm * l * t) (omega arith) in
      let s4 : (aa * mm) * (255 * h * l * t) ≤ (gg * pp + d * k) * (255 * h * l * t) =
      mul-le-mul_right (255 * h * l * t) p.below in
      let s5 : (k * l) * (d * 255 * h * t) ≤ (255 * mm) * (d * 255 * h * t) =
      mul-le-mul_right (d * 255 * h * t) p.mass in
      let s6 : (t * (65025 * h * d + dl * h * (l * gg))) * mm ≤ (b * (255 * h * w * (l * gg))) * mm =
      mul-le-mul_right mm hb in
      let s7 : (q * w * mm * t) * (l * gg) ≤ (255 * h * pp * t + b * w * 255 * h * mm) * (l * gg) = omega arith in
      le_of_mul-le-mul_right s7 (mul-pos p.l_pos p.g_pos)

  pub within_high : t * (65025 * h * u + (dl * h + w) * (l * gg)) ≤ b * (255 * h * w * (l * gg))
      → 255 * h * pp * t ≤ q * w * mm * t + b * w * 255 * h * mm
  within_high hb =
      let s1 : (h * a) * w ≤ ((q + 1) * gg) * w = mul-le-mul_right w p.floor_high in
      let s2 : (aa * 255) * h ≤ (a * w + dl * gg) * h = mul-le-mul_right h p.singles.down in
      let s3 : ((aa * 255) * h) * (mm * l * t) ≤ ((q + 1) * gg * w + dl * gg * h) * (mm * l * t) =
      mul-le-mul_right (mm * l * t) (omega arith) in
      let s4 : (gg * pp) * (255 * h * l * t) ≤ (aa * mm + u * k) * (255 * h * l * t) =
      mul-le-mul_right (255 * h * l * t) p.above in
      let s5 : (k * l) * (u * 255 * h * t) ≤ (255 * mm) * (u * 255 * h * t) =
      mul-le-mul_right (u * 255 * h * t) p.mass in
      let s6 : (t * (65025 * h * u + (dl * h + w) * (l * gg))) * mm ≤ (b * (255 * h * w * (l * gg))) * mm =
      mul-le-mul_right mm hb in
      let s7 : (255 * h * pp * t) * (l * gg) ≤ (q * w * mm * t + b * w * 255 * h * mm) * (l * gg) = omega arith in
      le_of_mul-le-mul_right s7 (mul-pos p.l_pos p.g_pos)

-- ---- a box's Bound, over the rows of an output's terms

-- one term of an output: how far its singleton stands above lo, the singleton's byte, its mass, the bytes' mass, how far
-- the former may be above the latter and below, in parts of t, and a number of parts of 255 t that its mass has at least
pub record Row : Type 0 where
  pub u : ℕ
  pub s : ℕ
  pub f : Fraction
  pub g : ℕ
  pub rise : ℕ
  pub fall : ℕ
  pub l : ℕ

-- the masses' common denominator
abbrev pub dens : List Row → ℕ
dens [] = 1
dens (r ∷ rs) = r.f.den * dens rs

-- over it, the sum of the masses, and of the masses by the singletons
abbrev pub mass_sum : List Row → ℕ
mass_sum [] = 0
mass_sum (r ∷ rs) = r.f.num * dens rs + r.f.den * mass_sum rs

abbrev pub weighted : List Row → ℕ
weighted [] = 0
weighted (r ∷ rs) = r.u * r.f.num * dens rs + r.f.den * weighted rs

-- the bytes' sums
abbrev pub total_g : List Row → ℕ
total_g [] = 0
total_g (r ∷ rs) = r.g + total_g rs

abbrev pub dot_u : List Row → ℕ
dot_u [] = 0
dot_u (r ∷ rs) = r.u * r.g + dot_u rs

abbrev pub dot_s : List Row → ℕ
dot_s [] = 0
dot_s (r ∷ rs) = r.s * r.g + dot_s rs

-- what they pull by at the mean aa/gg
abbrev pub pull_rows : (Row → ℕ) → (Row → ℕ) → ℕ → ℕ → List Row → ℕ
pull_rows over under gg aa [] = 0
pull_rows over under gg aa (r ∷ rs) =
    over r * (r.u * gg - aa) + under r * (aa - r.u * gg) + pull_rows over under gg aa rs

-- at that of the bytes
abbrev pub rise_pull : List Row → ℕ
rise_pull rs = pull_rows (λ r. r.rise) (λ r. r.fall) (total_g rs) (dot_u rs) rs

abbrev pub fall_pull : List Row → ℕ
fall_pull rs = pull_rows (λ r. r.fall) (λ r. r.rise) (total_g rs) (dot_u rs) rs

-- and what the masses have at least
abbrev pub lows : List Row → ℕ
lows [] = 0
lows (r ∷ rs) = r.l + lows rs

-- |s/255 - u/w| by cross product
abbrev pub off : ℕ → Row → ℕ
off w r = apart (r.s * w) (r.u * 255)

-- in parts of t, for a range of width w
pub record RowOk (t w d : ℕ) (r : Row) : Type 0 where
  pub u_in : r.u ≤ w
  pub s_in : r.s ≤ 255
  pub proper : IsProper r.f
  pub near : IsNear t r.g r.f r.rise r.fall
  pub low : AtMost (over r.l (255 * t)) r.f
  pub offset : 0 < r.g → off w r ≤ d

abbrev pub AllOk : (t w d : ℕ) → List Row → Type 0
AllOk t w d [] = Unit {0}
AllOk t w d (r ∷ rs) = RowOk t w d r × AllOk t w d rs

module _ (t w d : ℕ) where
  rows_up : (gg aa : ℕ) (rs : List Row) → AllOk t w d rs
      → gg * (weighted rs * 255 * t) + aa * (dens rs * total_g rs * t)
      ≤ aa * (mass_sum rs * 255 * t) + gg * (dens rs * dot_u rs * t)
      + pull_rows (λ r. r.rise) (λ r. r.fall) gg aa rs * (255 * dens rs)
  rows_up gg aa [] h = omega arith
  rows_up gg aa (r ∷ rs) h =
      let tail = mul-le-mul_right r.f.den (rows_up gg aa rs h.1) in
      let one = term_le (r.u * gg) aa (r.f.num * 255 * t) (r.g * r.f.den * t) (r.rise * 255 * r.f.den)
      (r.fall * 255 * r.f.den) h.0.near.up h.0.near.down in
      let head = mul-le-mul_right (dens rs) one in
      add gg aa r.u r.g r.f.num r.f.den (r.u * gg - aa) (aa - r.u * gg) r.rise r.fall (dens rs) (weighted rs) (total_g rs)
      (mass_sum rs) (dot_u rs) (pull_rows (λ r. r.rise) (λ r. r.fall) gg aa rs) tail head
    where
      add : (gg aa u g n m p q x y ds ws ts ms us ps : ℕ)
          → (gg * (ws * 255 * t) + aa * (ds * ts * t)) * m
          ≤ (aa * (ms * 255 * t) + gg * (ds * us * t) + ps * (255 * ds)) * m
          → (u * gg * (n * 255 * t) + aa * (g * m * t)) * ds
          ≤ (aa * (n * 255 * t) + u * gg * (g * m * t) + p * (x * 255 * m) + q * (y * 255 * m)) * ds
          → gg * ((u * n * ds + m * ws) * 255 * t) + aa * (m * ds * (g + ts) * t)
          ≤ aa * ((n * ds + m * ms) * 255 * t) + gg * (m * ds * (u * g + us) * t)
          + (x * p + y * q + ps) * (255 * (m * ds))
      add gg aa u g n m p q x y ds ws ts ms us ps h k = omega arith

  rows_down : (gg aa : ℕ) (rs : List Row) → AllOk t w d rs
      → gg * (dens rs * dot_u rs * t) + aa * (mass_sum rs * 255 * t)
      ≤ aa * (dens rs * total_g rs * t) + gg * (weighted rs * 255 * t)
      + pull_rows (λ r. r.fall) (λ r. r.rise) gg aa rs * (255 * dens rs)
  rows_down gg aa [] h = omega arith
  rows_down gg aa (r ∷ rs) h =
      let tail = mul-le-mul_right r.f.den (rows_down gg aa rs h.1) in
      let one = term_le (r.u * gg) aa (r.g * r.f.den * t) (r.f.num * 255 * t) (r.fall * 255 * r.f.den)
      (r.rise * 255 * r.f.den) h.0.near.down h.0.near.up in
      let head = mul-le-mul_right (dens rs) one in
      add gg aa r.u r.g r.f.num r.f.den (r.u * gg - aa) (aa - r.u * gg) r.fall r.rise (dens rs) (weighted rs) (total_g rs)
      (mass_sum rs) (dot_u rs) (pull_rows (λ r. r.fall) (λ r. r.rise) gg aa rs) tail head
    where
      add : (gg aa u g n m p q x y ds ws ts ms us ps : ℕ)
          → (gg * (ds * us * t) + aa * (ms * 255 * t)) * m
          ≤ (aa * (ds * ts * t) + gg * (ws * 255 * t) + ps * (255 * ds)) * m
          → (u * gg * (g * m * t) + aa * (n * 255 * t)) * ds
          ≤ (aa * (g * m * t) + u * gg * (n * 255 * t) + p * (x * 255 * m) + q * (y * 255 * m)) * ds
          → gg * (m * ds * (u * g + us) * t) + aa * ((n * ds + m * ms) * 255 * t)
          ≤ aa * (m * ds * (g + ts) * t) + gg * ((u * n * ds + m * ws) * 255 * t)
          + (x * p + y * q + ps) * (255 * (m * ds))
      add gg aa u g n m p q x y ds ws ts ms us ps h k = omega arith

  pub dens_pos : (rs : List Row) → AllOk t w d rs → 0 < dens rs
  dens_pos [] h = omega arith
  dens_pos (r ∷ rs) h = mul-pos h.0.proper.pos (dens_pos rs h.1)

  lows_sum : (rs : List Row) → AllOk t w d rs → lows rs * dens rs ≤ mass_sum rs * (255 * t)
  lows_sum [] h = omega arith
  lows_sum (r ∷ rs) h =
      let head = mul-le-mul_right (dens rs) h.0.low.cross in
      let tail = mul-le-mul_right r.f.den (lows_sum rs h.1) in
      omega arith

  pub mass_pos : (rs : List Row) → AllOk t w d rs → 0 < lows rs → 0 < mass_sum rs
  mass_pos rs h some = positive (mass_sum rs) (255 * t) (lows rs * dens rs) (mul-pos some (dens_pos rs h))
      (lows_sum rs h)
    where
      positive : (m n k : ℕ) → 0 < k → k ≤ m * n → 0 < m
      positive zero n k p l = absurd (omega arith)
      positive (suc m) n k p l = omega arith

  -- the singletons' bytes
  one_off : (r : Row) → (0 < r.g → off w r ≤ d) → Apart (r.s * w * r.g) (r.u * 255 * r.g) (d * r.g)
  one_off r h = ⊎_elim
      (λ (p : 0 < r.g). (
      let o = h p in
      let up : (r.s * w) * r.g ≤ (r.u * 255 + d) * r.g = mul-le-mul_right r.g (omega arith) in
      let down : (r.u * 255) * r.g ≤ (r.s * w + d) * r.g = mul-le-mul_right r.g (omega arith) in
      let both : Apart (r.s * w * r.g) (r.u * 255 * r.g) (d * r.g) =
      record { up = omega arith; down = omega arith } in
      both))
      (λ (z : r.g ≤ 0). (
      let e : r.g ≡ 0 = omega arith in
      subst (λ g. Apart (r.s * w * g) (r.u * 255 * g) (d * g)) (sym e)
      (record { up = omega arith; down = omega arith })))
      (cases_lt 0 r.g)

  offs : (rs : List Row) → AllOk t w d rs → Apart (dot_s rs * w) (dot_u rs * 255) (d * total_g rs)
  offs [] h = record { up = omega arith; down = omega arith }
  offs (r ∷ rs) h =
      let a = offs rs h.1 in
      let b = one_off r h.0.offset in
      record { up = omega (arith, a.up, b.up); down = omega (arith, a.down, b.down) }

  -- the exact answer stands within the range, and so does the bytes'
  weighted_le : (rs : List Row) → AllOk t w d rs → weighted rs ≤ w * mass_sum rs
  weighted_le [] h = omega arith
  weighted_le (r ∷ rs) h =
      let a = mul-le-mul_right r.f.den (weighted_le rs h.1) in
      let b : r.u * (r.f.num * dens rs) ≤ w * (r.f.num * dens rs) = mul-le-mul_right (r.f.num * dens rs) h.0.u_in in
      omega arith

  dot_s_le : (rs : List Row) → AllOk t w d rs → dot_s rs ≤ 255 * total_g rs
  dot_s_le [] h = omega arith
  dot_s_le (r ∷ rs) h = let a = dot_s_le rs h.1 in let p = mul-le-mul_right r.g h.0.s_in in omega arith

module _ (t w d : ℕ) (rs : List Row) (tp : 0 < t) (wp : 0 < w) (ok : AllOk t w d rs) (some : 0 < lows rs)
    (gp : 0 < total_g rs) (h q : ℕ) (hp : 0 < h) (f1 : q * total_g rs ≤ h * dot_s rs)
    (f2 : h * dot_s rs ≤ (q + 1) * total_g rs) where
  parts : Parts w h (lows rs) d q (dot_s rs) (dot_u rs) (total_g rs) (weighted rs * 255 * t) (mass_sum rs * 255 * t)
      (255 * dens rs) (rise_pull rs) (fall_pull rs)
  parts =
      let up = rows_up t w d (total_g rs) (dot_u rs) rs ok in
      let down = rows_down t w d (total_g rs) (dot_u rs) rs ok in
      let mass = mul-le-mul_right 255 (lows_sum t w d rs ok) in
      record {
        l_pos = some;
        g_pos = gp;
        above = omega (arith, up);
        below = omega (arith, down);
        mass = omega (arith, mass);
        singles = offs t w d rs ok;
        floor_low = f1;
        floor_high = f2;
      }

  q_le : q ≤ 255 * h
  q_le = le_of_mul-le-mul_right {k = total_g rs}
      (let a = dot_s_le t w d rs ok in let p = mul-le-mul_right h a in omega arith) gp

  -- value (over 255 h, from lo) against the exact answer (weighted over mass_sum, from lo), in 10^6 parts of the range,
  -- where n covers the pulls
  pub rows_near : (n : ℕ)
      → (n < 1000000
      → 1000000 * (65025 * h * rise_pull rs + (d * h + 1 * w) * (lows rs * total_g rs))
      ≤ n * (255 * h * w * (lows rs * total_g rs)))
      → (n < 1000000
      → 1000000 * (65025 * h * fall_pull rs + (d * h + 0 * w) * (lows rs * total_g rs))
      ≤ n * (255 * h * w * (lows rs * total_g rs)))
      → Apart (q * w * mass_sum rs * 1000000) (weighted rs * (255 * h) * 1000000) (n * w * (255 * h) * mass_sum rs)
  rows_near n hu hd = ⊎_elim whole capped (cases_lt n 1000000)
    where
      whole : n < 1000000 → Apart (q * w * mass_sum rs * 1000000) (weighted rs * (255 * h) * 1000000)
          (n * w * (255 * h) * mass_sum rs)
      whole l =
          let low = within_low w h (lows rs) d q (dot_s rs) (dot_u rs) (total_g rs) (weighted rs * 255 * t)
          (mass_sum rs * 255 * t) (255 * dens rs) (rise_pull rs) (fall_pull rs) parts 1000000 n (let k = hd l in omega arith) in
          let high = within_high w h (lows rs) d q (dot_s rs) (dot_u rs) (total_g rs) (weighted rs * 255 * t)
          (mass_sum rs * 255 * t) (255 * dens rs) (rise_pull rs) (fall_pull rs) parts 1000000 n (let k = hu l in omega arith) in
          let u : (q * w * mass_sum rs * 1000000) * (255 * t)
          ≤ (weighted rs * (255 * h) * 1000000 + n * w * (255 * h) * mass_sum rs) * (255 * t) = omega (arith, low) in
          let v : (weighted rs * (255 * h) * 1000000) * (255 * t)
          ≤ (q * w * mass_sum rs * 1000000 + n * w * (255 * h) * mass_sum rs) * (255 * t) = omega (arith, high) in
          let t5 : 0 < 255 * t = omega arith in
          record { up = le_of_mul-le-mul_right u t5; down = le_of_mul-le-mul_right v t5 }

      capped : 1000000 ≤ n → Apart (q * w * mass_sum rs * 1000000) (weighted rs * (255 * h) * 1000000)
          (n * w * (255 * h) * mass_sum rs)
      capped l =
          let p : q * (w * mass_sum rs) ≤ (255 * h) * (w * mass_sum rs) = mul-le-mul_right (w * mass_sum rs) q_le in
          let m : weighted rs * h ≤ (w * mass_sum rs) * h = mul-le-mul_right h (weighted_le t w d rs ok) in
          let c : 1000000 * (w * (255 * h) * mass_sum rs) ≤ n * (w * (255 * h) * mass_sum rs) =
          mul-le-mul_right (w * (255 * h) * mass_sum rs) l in
          record { up = omega arith; down = omega arith }

-- ---- from distances above the low end back to numbers

-- the same without the range, over parts of the whole range
crossed : (lo x : ℤ) (parts qw m wd e : ℕ) → x ≡ lo *ℤ pos m +ℤ pos wd → Apart (qw * m) (parts * wd) e
    → unsigned_abs ((pos parts *ℤ lo +ℤ pos qw) *ℤ pos (m * 10000) -ℤ x *ℤ pos (10000 * parts)) ≤ e * 10000
crossed lo x parts qw m wd e ex a =
    let v = pos parts *ℤ lo +ℤ pos qw in
    let r1 : up v + parts * down lo ≡ down v + parts * up lo + qw = omega (arith, ints) in
    let r2 : up x + down lo * m ≡ down x + up lo * m + wd = omega (arith, ints) in
    let s1 : (up v + parts * down lo) * m ≡ (down v + parts * up lo + qw) * m = ap (λ k. k * m) r1 in
    let s2 : (up x + down lo * m) * parts ≡ (down x + up lo * m + wd) * parts = ap (λ k. k * parts) r2 in
    omega (arith, ints, a.up, a.down)

-- a value against x/m, which stands wd/m above the low end
pub close_value : (h : ℕ) (o : Output) (n q : ℕ) (x : ℤ) (m wd : ℕ) → 0 < h → 0 < m → x ≡ o.lo.0 *ℤ pos m +ℤ pos wd
    → Apart (q * distance o.lo o.hi * m * 1000000) (wd * (255 * h) * 1000000) (n * distance o.lo o.hi * (255 * h) * m)
    → IsClose (distance o.lo o.hi) n (value_in h o q) (record { num = x; den = m * 10000 })
close_value h o n q x m wd hh hm ex a =
    let w = distance o.lo o.hi in
    let l = q * w * m in
    let r = 255 * h * wd in
    let z = apart l r in
    let c = crossed o.lo.0 x (255 * h) (q * w) m wd z ex (record { up = omega arith; down = omega arith }) in
    let e1 : z * 1000000 ≤ n * w * (255 * h) * m = omega (arith, a.up, a.down) in
    record {
      dens = mul-pos (mul-pos (omega arith) (mul-pos (omega arith) hh)) (mul-pos hm (omega arith));
      cross =
          omega arith;
    }

-- the default's byte in h parts against the default
pub close_default : NearestIsByte → (h : ℕ) (o : Output) (d : Dec) → 0 < h → o.lo.0 <ℤ o.hi.0 → IsWithin o.lo o.hi d
    → IsClose (distance o.lo o.hi) (in_millionths (over (offset o d) (255 * distance o.lo o.hi)))
    (value_in h o (h * nearest_byte o d)) (quotient_of d)
close_default is_byte h o d hh range within =
    let w = distance o.lo o.hi in
    let s = nearest_byte o d in
    let u = distance o.lo d in
    let f = offset o d in
    let n = in_millionths (over f (255 * w)) in
    let wp : 0 < w = omega (arith, ints) in
    let hu : u ≤ w = omega (arith, ints, within.low, within.high) in
    let hs : s ≤ 255 = is_byte o d range within in
    let ms : s * w ≤ 255 * w = mul-le-mul_right w hs in
    let up_le = le-up_div (1000000 * f) (255 * w) (mul-pos (omega arith) wp) in
    let small : f ≤ 255 * w = omega arith in
    let fits : 1000000 * f ≤ n * (255 * w) = ⊎_elim
    (λ (l : up_div (1000000 * f) (255 * w) < 1000000). let e : up_div (1000000 * f) (255 * w) ≡ n = omega arith in
    subst (λ k. 1000000 * f ≤ k * (255 * w)) e up_le)
    (λ (l : 1000000 ≤ up_div (1000000 * f) (255 * w)). let e : 1000000 ≡ n = omega arith in
    subst (λ k. 1000000 * f ≤ k * (255 * w)) e (omega arith))
    (cases_lt (up_div (1000000 * f) (255 * w)) 1000000) in
    let m : (1000000 * f) * h ≤ (n * (255 * w)) * h = mul-le-mul_right h fits in
    let up1 : (s * w) * h ≤ (u * 255 + f) * h = mul-le-mul_right h (omega arith) in
    let down1 : (u * 255) * h ≤ (s * w + f) * h = mul-le-mul_right h (omega arith) in
    close_value h o n (h * s) d.0 1 u hh (omega arith) (omega (arith, ints, within.low))
    (record { up = omega arith; down = omega arith })
