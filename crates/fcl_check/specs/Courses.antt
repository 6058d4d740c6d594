-- The course that a term's points spell: the straight lines between them, at a doubled abscissa the
-- greatest degree, and beyond the first and the last point their degrees.
-- Beside the promise.
use Rattle.std.specs.Prelude.{◌≡◌, ℕ, ◌+◌, ◌*◌, cond, true, List, [], ◌∷◌, Option, Some, None, ℤ, ◌-ℤ◌, int_lt}
use Rattle.std.specs.Prelude.{unsigned_abs}
use Rattle.std.specs.List.{filter, list_any}
use Rattle.std.specs.Ordering.{int_eq}
use Rattle.fz_num.specs.{declared.dec.Dec.Dec, Fractions.Fraction, Fractions.over, Fractions.one, Fractions.none}
use Rattle.fuzzy_meaning.specs.{declared.block.Trapezoid.Trapezoid, Degrees.degree}
use Rattle.fcl_syntax.specs.declared.{tree.Point.Point, tree.Term.Term}
use Rattle.fcl_check.specs.{Loaded.IsTermOf, Places.first, Places.last}
use Rattle.fcl_check.specs.Sections.{falling_in, has_one, has_shape, points_of, x_of}

-- the same number
pub record AreSame (f g : Fraction) : Type 0 where
  pub cross : f.num * g.den ≡ g.num * f.den

abbrev pub height : Point → Fraction
height p = cond (has_one p) one none

-- how far from one number to another that is no lower
abbrev pub width : ℤ → ℤ → ℕ
width from to = unsigned_abs (to -ℤ from)

-- at x on the straight line between two points: each degree by how far the other point is
abbrev pub on_line : Point → Point → ℤ → Fraction
on_line p q x =
    over (cond (has_one q) (width (x_of p) x) 0 + cond (has_one p) (width x (x_of q)) 0) (width (x_of p) (x_of q))

-- between the nearest point on the left and the nearest on the right
abbrev pub between : Option Point → Option Point → ℤ → Fraction
between None None x = none
between None (Some q) x = height q
between (Some p) None x = height p
between (Some p) (Some q) x = on_line p q x

-- the greatest degree of the points at x, where there are some
abbrev pub greatest_or : Fraction → List Point → Fraction
greatest_or otherwise [] = otherwise
greatest_or otherwise (p ∷ points) = cond (list_any has_one (p ∷ points)) one none

-- of points that ascend
abbrev pub course : List Point → ℤ → Fraction
course points x =
    let left = last (filter (λ (p : Point). int_lt (x_of p) x) points) in
    let right = first (filter (λ (p : Point). int_lt x (x_of p)) points) in
    greatest_or (between left right x) (filter (λ (p : Point). int_eq (x_of p) x) points)

-- the degree of a loaded term is its course
abbrev pub CourseLaw : Type 0
CourseLaw = (t : Term) (z : Trapezoid) (x : Dec) → falling_in t ≡ [] → has_shape (points_of t) ≡ true → IsTermOf t z
    → AreSame (degree z x) (course (points_of t) x.0)
