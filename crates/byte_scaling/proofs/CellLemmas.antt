-- Places in their cells.
use Rattle.std.proofs.Common.{◌≡◌, ℕ, ◌+◌, ◌*◌, ◌/◌, ◌<◌, ◌≤◌, min, ⊎_elim, refl, subst, arith, mul-le-mul_right}
use Rattle.std.proofs.lemmas.Bool.{cases_lt, cases_order}
use Rattle.std.proofs.lemmas.Bool.Decides.{nat_tests}
use Rattle.fz_num.specs.Fractions.{Fraction, over}
use Rattle.std.proofs.lemmas.Nat.{le-div}
use Rattle.std.proofs.lemmas.Int.{ints}
use Rattle.std.specs.Prelude.{◌==◌}
use Rattle.fz_num.specs.Decimals.{distance}
use Rattle.byte_scaling.specs.Cells.{IsFromTo, inside, at_end, cell_start, cell_end, IsInCell, IsNearest}
use Rattle.byte_scaling.specs.Cells.{NearestIsByte, CellsAreApart, NumbersLieInTheirCells, BytesAscend}

-- a place of the range lies in the cell of its part, the high end in the last
pub IsInCell-part : (w d : ℕ) → 0 < w → d ≤ w → IsInCell w (min 255 (d * 256 / w)) (over d 1)
IsInCell-part w d h le = ⊎_elim
    (λ (l : d * 256 / w < 256).
    let e : d * 256 / w ≡ min 255 (d * 256 / w) = omega arith in
    let from : d * 256 / w * w * 1 ≤ d * 256 = omega arith in
    let to : d * 256 < (d * 256 / w + 1) * w * 1 = omega arith in
    subst (λ b. IsInCell w b (over d 1)) e
    (record {
      proper = record { pos = omega arith };
      place =
          inside (record { cross = from }) (record { cross = to });
    }))
    (λ (l : 256 ≤ d * 256 / w).
    let e : 255 ≡ min 255 (d * 256 / w) = omega arith in
    let many : 256 * w ≤ d * 256 / w * w = mul-le-mul_right w l in
    let from : 255 * w * 1 ≤ d * 256 = omega arith in
    let to : d * 256 ≤ (255 + 1) * w * 1 = omega arith in
    subst (λ b. IsInCell w b (over d 1)) e
    (record {
      proper = record { pos = omega arith };
      place =
          at_end (record { cross = from }) (record { cross = to }) refl;
    }))
    (cases_lt (d * 256 / w) 256)

-- the quotient rounded to the nearest, a tie going up
pub IsNearest-quotient : (w d : ℕ) → 0 < w → IsNearest w d ((510 * d + w) / (2 * w))
IsNearest-quotient w d h = record { above = omega arith; below = omega arith }

part-mono : (w d e : ℕ) → 0 < w → d ≤ e → min 255 (d * 256 / w) ≤ min 255 (e * 256 / w)
part-mono w d e h le =
    let below : d * 256 / w * w ≤ e * 256 = omega arith in
    let q : d * 256 / w ≤ e * 256 / w = le-div (d * 256 / w) (e * 256) w h below in
    omega arith

-- a greater number has no lower byte
pub byte_of-mono : BytesAscend
byte_of-mono i x y range from le =
    part-mono (distance i.lo i.hi) (distance i.lo x) (distance i.lo y) (omega (arith, ints)) (omega (arith, ints))

nearest-small : (w d : ℕ) → 0 < w → d ≤ w → (510 * d + w) / (2 * w) ≤ 255
nearest-small w d h le = ⊎_elim
    (λ (l : (510 * d + w) / (2 * w) < 256). omega arith)
    (λ (l : 256 ≤ (510 * d + w) / (2 * w)).
    let many : 256 * (2 * w) ≤ (510 * d + w) / (2 * w) * (2 * w) = mul-le-mul_right (2 * w) l in
    absurd (omega arith))
    (cases_lt ((510 * d + w) / (2 * w)) 256)

-- the byte nearest to a number of the range is a byte
pub nearest_byte-le : NearestIsByte
nearest_byte-le o x range within =
    nearest-small (distance o.lo o.hi) (distance o.lo x) (omega (arith, ints)) (omega (arith, ints))

crossed_cells : (w b c : ℕ) (x : Fraction) → b < c → x.num * 256 < (b + 1) * w * x.den → c * w * x.den ≤ x.num * 256 → ⊥
crossed_cells w b c x lt to from =
    let m : (b + 1) * (w * x.den) ≤ c * (w * x.den) = mul-le-mul_right (w * x.den) (omega arith) in
    omega arith

abbrev IsPlaced : ℕ → ℕ → Fraction → Type 0
IsPlaced w b x = IsFromTo (cell_start w b) (cell_end w b) (b == 255) x

-- a place of a cell is below every cell after it
before-next : (w b c : ℕ) (x : Fraction) → c ≤ 255 → b < c → IsPlaced w b x → IsPlaced w c x → ⊥
before-next w b c x hc lt (at_end from to last) later = let is : b ≡ 255 = grind (arith, nat_tests) in omega arith
before-next w b c x hc lt (inside from to) (inside from' to') = crossed_cells w b c x lt to.cross from'.cross
before-next w b c x hc lt (inside from to) (at_end from' to' last) = crossed_cells w b c x lt to.cross from'.cross

pub cells_apart : CellsAreApart
cells_apart w b c x hb hc in_b in_c =
    ⊎_elim (λ e. e) (λ less. ⊎_elim (λ (l : b < c). absurd (before-next w b c x hc l in_b.place in_c.place))
    (λ (l : c < b). absurd (before-next w c b x hb l in_c.place in_b.place)) less) (cases_order b c)

pub LiesInCell-byte_of : NumbersLieInTheirCells
LiesInCell-byte_of i x range within = record {
  from_low = within.low;
  cell = IsInCell-part (distance i.lo i.hi) (distance i.lo x) (omega (arith, ints)) (omega (arith, ints));
}
