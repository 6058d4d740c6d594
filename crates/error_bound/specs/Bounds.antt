-- A leaf's Bound, in millionths of the output's range.
-- Beside the promise.
use Rattle.std.specs.Prelude.{◌≡◌, ℕ, ◌+◌, ◌*◌, ◌==◌, min, max, List, [], ◌∷◌, if◌then◌else◌}
use Rattle.std.specs.Option.{option_map_or}
use Rattle.fz_num.specs.declared.dec.Dec.{Dec}
use Rattle.fz_num.specs.{Fractions.Fraction, Fractions.over, Fractions.up_div, Decimals.distance}
use Rattle.fuzzy_meaning.specs.declared.{block.Block.Block, block.Output.Output}
use Rattle.byte_scaling.specs.Cells.{nearest_byte}
use Rattle.error_bound.specs.{declared.boxes.Interval.Interval, declared.boxes.Leaf.Leaf, Spans.Span}
use Rattle.error_bound.specs.Errors.{billion, apart, AreTermErrors, output_error}

abbrev pub plus : Fraction → Fraction → Fraction
plus f g = over (f.num * g.den + g.num * f.den) (f.den * g.den)

-- rounded up, and 1000000 at most
abbrev pub in_millionths : Fraction → ℕ
in_millionths f = min 1000000 (up_div (1000000 * f.num) f.den)

-- the sum of the eps of output o's terms from number t on
abbrev pub errors_from : Block → (ℕ → ℕ → Span ℕ) → ℕ → ℕ → List Dec → ℕ
errors_from b e o t [] = 0
errors_from b e o t (u ∷ us) = output_error b e o t + errors_from b e o (t + 1) us

-- |s/255 - u/w|, over 255 w: how far a number u above the low end is from the value of its byte s, as a part of the
-- range w
abbrev pub offset : Output → Dec → ℕ
offset x u = apart (nearest_byte x u * distance x.lo x.hi) (distance x.lo u * 255)

abbrev pub greatest_offset : Output → List Dec → ℕ
greatest_offset x [] = 0
greatest_offset x (u ∷ us) = max (offset x u) (greatest_offset x us)

-- num/den + d/(255 w) + 1/(255 h) of a range of width w, where answers come in h parts to a byte
abbrev pub ratio_bound : ℕ → ℕ → ℕ → ℕ → ℕ → ℕ
ratio_bound w h num den d = in_millionths (plus (over num den) (plus (over d (255 * w)) (over 1 (255 * h))))

-- S * 255/k + delta + 1/(255 h)
abbrev pub strong_bound : Output → ℕ → ℕ → ℕ → ℕ
strong_bound x h sum k =
    ratio_bound (distance x.lo x.hi) h (sum * 255) (billion * k) (greatest_offset x x.singletons)

-- how far the default's byte is from it; 0 with NC
abbrev pub silent_bound : Output → ℕ
silent_bound x = option_map_or (λ d. in_millionths (over (offset x d) (255 * distance x.lo x.hi))) x.default 0

abbrev pub bound : Block → (ℕ → ℕ → Span ℕ) → ℕ → Output → ℕ → Leaf → ℕ
bound b e o x h leaf =
    if leaf.k == 0 then silent_bound x else strong_bound x h (errors_from b e o 1 x.singletons) leaf.k

-- n is the Bound of a leaf on a box for output o, for answers in h parts to a byte: 1, or 256 for those of 16 bits
pub record IsBound (b : Block) (box : List Interval) (o : ℕ) (x : Output) (h : ℕ) (leaf : Leaf) (n : ℕ) : Type 0 where
  pub errors : ℕ → ℕ → Span ℕ
  pub are_errors : AreTermErrors b box errors
  pub is : n ≡ bound b errors o x h leaf
