-- A term's table and the grades under it.
-- Beside the promise.
use Rattle.std.specs.Prelude.{ℕ, ◌+◌, ◌-◌, ◌*◌, ◌/◌, min, if◌then◌else◌, ◌==◌, nat_lt, ◌||◌, List, [], ◌∷◌, map, Option}
use Rattle.std.specs.Prelude.{Some, None, slice_index}
use Rattle.std.specs.List.{flat_map}
use Rattle.fz_num.specs.declared.dec.Dec.{Dec}
use Rattle.fuzzy_meaning.specs.declared.{block.Block.Block, block.Input.Input, block.Trapezoid.Trapezoid}
use Rattle.byte_scaling.specs.Cells.{byte_of}

-- of a side of w bytes: 255 over w, to the nearest and a tie going up; 0 for a vertical side
abbrev pub slope_of : ℕ → ℕ
slope_of w = if w == 0 then 0 else (510 + w) / (2 * w)

-- the first byte of the rising side, and its slope
abbrev pub left_point : Input → Option Dec → ℕ
left_point i None = 0
left_point i (Some a) = byte_of i a

abbrev pub left_slope : Input → Option Dec → Dec → ℕ
left_slope i None b = 0
left_slope i (Some a) b = slope_of (byte_of i b - byte_of i a)

-- the last byte of the falling side, and its slope
abbrev pub right_point : Input → Option Dec → ℕ
right_point i None = 255
right_point i (Some d) = byte_of i d

abbrev pub right_slope : Input → Dec → Option Dec → ℕ
right_slope i c None = 0
right_slope i c (Some d) = slope_of (byte_of i d - byte_of i c)

-- a term's two points and two slopes
abbrev pub row_of : Input → Trapezoid → List ℕ
row_of i t = left_point i t.a ∷ right_point i t.d ∷ left_slope i t.a t.b ∷ right_slope i t.c t.d ∷ []

-- the rows of an input's terms
abbrev pub rows_of : Input → List (List ℕ)
rows_of i = map (row_of i) i.terms

-- the rows of all input terms, in the order of their declaration
abbrev pub table_of : Block → List (List ℕ)
table_of b = flat_map rows_of b.inputs

-- how high a side is n bytes from its point; one without a slope does not limit
abbrev pub side : ℕ → ℕ → ℕ
side n s = if s == 0 then 255 else n * s

-- of byte v under points p and q with slopes r and s: 0 outside the points, else the lower side, at most 255
abbrev pub grade_under : ℕ → ℕ → ℕ → ℕ → ℕ → ℕ
grade_under p q r s v = if nat_lt v p || nat_lt q v then 0 else min 255 (min (side (v - p) r) (side (q - v) s))

abbrev pub grade_of : List ℕ → ℕ → ℕ
grade_of row v = grade_under (slice_index row 0) (slice_index row 1) (slice_index row 2) (slice_index row 3) v
