-- The least and the greatest degree of a term over a part of its input's range.
-- Beside the promise.
use Rattle.std.specs.Prelude.{ℕ, ◌-◌, ◌*◌, if◌then◌else◌, nat_le, nat_lt, Option, Some, None, Bool, true, false}
use Rattle.fz_num.specs.Fractions.{Fraction, over, lesser, one, none, IsProper, AtMost}
use Rattle.fuzzy_meaning.specs.Places.{Points, rise_at, fall_at, degree_at}
use Rattle.byte_scaling.specs.Cells.{IsFromTo}

-- the rising side's limit from below: 1 past b, 0 up to a
abbrev pub rise_until : Option ℕ → ℕ → Fraction → Fraction
rise_until None b x = one
rise_until (Some a) b x =
    if nat_lt (b * x.den) x.num then one
    else (if nat_le x.num (a * x.den) then none else over (x.num - a * x.den) ((b - a) * x.den))

-- from s on and below e, or up to e where it is closed: the rise at the start, the fall at the end
abbrev pub low : Points → Fraction → Fraction → Fraction
low t s e = lesser (rise_at t.a t.b s) (fall_at t.c t.d e)

-- the rise at the end, its limit where the end is open, and the fall at the start
abbrev pub rise_end : Bool → Option ℕ → ℕ → Fraction → Fraction
rise_end true a b e = rise_at a b e
rise_end false a b e = rise_until a b e

abbrev pub high : Points → Fraction → Fraction → Bool → Fraction
high t s e closed = lesser (rise_end closed t.a t.b e) (fall_at t.c t.d s)

-- l is the greatest lower bound of the degrees there, and h the least upper bound
pub record AreBounds (t : Points) (s e : Fraction) (closed : Bool) (l h : Fraction) : Type 0 where
  pub lower : (x : Fraction) → IsProper x → IsFromTo s e closed x → AtMost l (degree_at t x)
  pub greatest : (v : Fraction) → IsProper v
      → ((x : Fraction) → IsProper x → IsFromTo s e closed x → AtMost v (degree_at t x)) → AtMost v l
  pub upper : (x : Fraction) → IsProper x → IsFromTo s e closed x → AtMost (degree_at t x) h
  pub least : (v : Fraction) → IsProper v
      → ((x : Fraction) → IsProper x → IsFromTo s e closed x → AtMost (degree_at t x) v) → AtMost h v
