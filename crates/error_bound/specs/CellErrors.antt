-- A cell's rise is how far its high is above the grade, its fall how far its low is below; a term's are the greatest.
-- Beside the promise.
use Rattle.std.specs.Prelude.{ℕ, ◌+◌, ◌-◌, ◌*◌, ◌==◌, List}
use Rattle.fz_num.specs.{Fractions.over, Fractions.rise, Fractions.fall, Decimals.distance}
use Rattle.fuzzy_meaning.specs.declared.{block.Block.Block, block.Input.Input, block.Trapezoid.Trapezoid}
use Rattle.fuzzy_meaning.specs.Places.{Points, points_of}
use Rattle.point_slope.specs.Tables.{row_of, grade_of}
use Rattle.error_bound.specs.declared.boxes.Interval.{Interval}
use Rattle.error_bound.specs.{Places.low, Places.high, Boxes.at_literal, Boxes.greatest_from, Errors.billion}
use Rattle.error_bound.specs.Spans.{Span, only}

-- in parts of t, of byte b's cell in a range of width w
abbrev pub cell_fall : ℕ → Points → ℕ → (ℕ → ℕ) → ℕ → ℕ
cell_fall t k w grade b = fall t (grade b) (low k (over (b * w) 256) (over ((b + 1) * w) 256))

abbrev pub cell_rise : ℕ → Points → ℕ → (ℕ → ℕ) → ℕ → ℕ
cell_rise t k w grade b = rise t (grade b) (high k (over (b * w) 256) (over ((b + 1) * w) 256) (b == 255))

abbrev pub term_deviation : Input → Trapezoid → Interval → Span ℕ
term_deviation i t v =
    let k = points_of i t in
    let w = distance i.lo i.hi in
    let grade = grade_of (row_of i t) in
    record {
      low = greatest_from (cell_fall billion k w grade) v.from (v.to - v.from);
      high = greatest_from (cell_rise billion k w grade) v.from (v.to - v.from);
    }

-- of each term of each input over a box
abbrev pub term_errors : Block → List Interval → ℕ → ℕ → Span ℕ
term_errors b box i t = at_literal term_deviation (only 0) b box i t
