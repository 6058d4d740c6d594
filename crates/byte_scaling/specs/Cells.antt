-- Bytes of a range, and their cells.
-- Reached by the promise.
use Rattle.std.specs.Prelude.{◌≡◌, ℕ, List, [], ◌∷◌, ◌+◌, ◌*◌, ◌/◌, ◌<◌, ◌≤◌, min, Bool, IsTrue, ◌==◌, pos, ◌+ℤ◌, ◌*ℤ◌}
use Rattle.std.specs.Prelude.{◌≤ℤ◌, ◌<ℤ◌}
use Rattle.fz_num.specs.{declared.dec.Dec.Dec, Decimals.distance}
use Rattle.fz_num.specs.Fractions.{Quotient, Fraction, over, IsProper, AtMost, IsBelow}
use Rattle.fuzzy_meaning.specs.{declared.block.Input.Input, declared.block.Output.Output, Blocks.IsWithin}

-- of a range in 256 parts, the one that x lies in; the high end lies in the last
abbrev pub byte_of : Input → Dec → ℕ
byte_of i x = min 255 (distance i.lo x * 256 / distance i.lo i.hi)

-- the byte of each number in its input's range
abbrev pub bytes_of : List Input → List Dec → List ℕ
bytes_of [] xs = []
bytes_of (i ∷ is) [] = []
bytes_of (i ∷ is) (x ∷ xs) = byte_of i x ∷ bytes_of is xs

-- from s on and below e, or up to e where it is closed
pub data IsFromTo (s e : Fraction) (closed : Bool) (x : Fraction) : Type 0 where
  inside : AtMost s x → IsBelow x e → IsFromTo s e closed x
  at_end : AtMost s x → AtMost x e → IsTrue closed → IsFromTo s e closed x

-- the ends of byte b's cell, measured from the low end of a range of width w
abbrev pub cell_start : ℕ → ℕ → Fraction
cell_start w b = over (b * w) 256

abbrev pub cell_end : ℕ → ℕ → Fraction
cell_end w b = over ((b + 1) * w) 256

-- x, measured from the low end, lies in the half-open cell of byte b; the last cell has its high end
pub record IsInCell (w b : ℕ) (x : Fraction) : Type 0 where
  pub proper : IsProper x
  pub place : IsFromTo (cell_start w b) (cell_end w b) (b == 255) x

-- the number x lies in the cell of byte b of an input's range
pub record LiesInCell (i : Input) (b : ℕ) (x : Dec) : Type 0 where
  pub from_low : i.lo.0 ≤ℤ x.0
  pub cell : IsInCell (distance i.lo i.hi) b (over (distance i.lo x) 1)

-- s/255 is the nearest such fraction to d/w, and of two the higher
pub record IsNearest (w d s : ℕ) : Type 0 where
  pub above : (2 * s) * w ≤ 510 * d + w
  pub below : 510 * d < (2 * s + 1) * w

-- the number that an answer in h parts to a byte stands for, in units of 1: q/(255 h) of the range above its low end
abbrev pub value_in : ℕ → Output → ℕ → Quotient
value_in h o q = record { num = pos (255 * h) *ℤ o.lo.0 +ℤ pos (q * distance o.lo o.hi); den = 10000 * (255 * h) }

-- of a byte
abbrev pub value_of : Output → ℕ → Quotient
value_of o q = value_in 1 o q

-- of 16 bits, from 0 to 65280
abbrev pub wide_value_of : Output → ℕ → Quotient
wide_value_of o q = value_in 256 o q

-- the byte nearest to x in an output's range, a tie going up
abbrev pub nearest_byte : Output → Dec → ℕ
nearest_byte o x = (510 * distance o.lo x + distance o.lo o.hi) / (2 * distance o.lo o.hi)

-- it is a byte, where x lies in the range
abbrev pub NearestIsByte : Type 0
NearestIsByte = (o : Output) (x : Dec) → o.lo.0 <ℤ o.hi.0 → IsWithin o.lo o.hi x → nearest_byte o x ≤ 255

-- no place lies in two cells
abbrev pub CellsAreApart : Type 0
CellsAreApart = (w b c : ℕ) (x : Fraction) → b ≤ 255 → c ≤ 255 → IsInCell w b x → IsInCell w c x → b ≡ c

-- a number of the range lies in the cell of its byte
abbrev pub NumbersLieInTheirCells : Type 0
NumbersLieInTheirCells = (i : Input) (x : Dec) → i.lo.0 <ℤ i.hi.0 → IsWithin i.lo i.hi x → LiesInCell i (byte_of i x) x

-- a greater number of the range has no lower byte
abbrev pub BytesAscend : Type 0
BytesAscend = (i : Input) (x y : Dec) → i.lo.0 <ℤ i.hi.0 → i.lo.0 ≤ℤ x.0 → x.0 ≤ℤ y.0 → byte_of i x ≤ byte_of i y
