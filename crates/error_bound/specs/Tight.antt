-- The tight Bound of a box for an output: it names no rule, and comes from how far the masses reach there.
-- Beside the promise.
use Rattle.std.specs.Prelude.{◌≡◌, ℕ, ◌+◌, ◌*◌, ◌/◌, ◌≤◌, ◌==◌, ◌&&◌, max, List, [], ◌∷◌, Bool, if◌then◌else◌}
use Rattle.cell_error.specs.declared.{ranges.MassRange.MassRange, ranges.Deviation.Deviation, means.Scale.Scale}
use Rattle.cell_error.specs.Means.{IsMeanError}
use Rattle.fz_num.specs.{declared.dec.Dec.Dec, Fractions.up_div, Decimals.distance}
use Rattle.fuzzy_meaning.specs.declared.{block.Block.Block, block.Output.Output, block.Rule.Rule}
use Rattle.fuzzy_meaning.specs.Meaning.{concludes}
use Rattle.error_bound.specs.{declared.boxes.Interval.Interval, Boxes.rule_span, Boxes.rule_byte_span, Leaves.Holds}
use Rattle.error_bound.specs.{Best.silent_leaf, Bounds.offset, Bounds.silent_bound, Spans.Span}
use Rattle.error_bound.specs.Errors.{billion, AreTermErrors, rule_rise, rule_fall}

-- the greatest that f gives for those of the rules that conclude term t of output o, or 0
abbrev pub greatest_of : (Rule → ℕ) → ℕ → ℕ → List Rule → ℕ
greatest_of f o t [] = 0
greatest_of f o t (r ∷ rs) = if concludes r o t then max (f r) (greatest_of f o t rs) else greatest_of f o t rs

-- the sum, and the greatest, of what f gives for an output's terms from number t on and their singletons
abbrev pub sum_over : (ℕ → Dec → ℕ) → ℕ → List Dec → ℕ
sum_over f t [] = 0
sum_over f t (u ∷ us) = f t u + sum_over f (t + 1) us

abbrev pub greatest_over : (ℕ → Dec → ℕ) → ℕ → List Dec → ℕ
greatest_over f t [] = 0
greatest_over f t (u ∷ us) = max (f t u) (greatest_over f (t + 1) us)

-- of singletons from place k on, where their masses have these lower and upper ends by their places
abbrev pub ranges_at : (ℕ → ℕ) → (ℕ → ℕ) → Dec → ℕ → List Dec → List MassRange
ranges_at lower upper lo k [] = []
ranges_at lower upper lo k (u ∷ us) =
    record { at = distance lo u; low = lower k; high = upper k } ∷ ranges_at lower upper lo (k + 1) us

-- and these deviations
abbrev pub deviations_at : (ℕ → ℕ) → (ℕ → ℕ) → ℕ → List Dec → List Deviation
deviations_at rises falls k [] = []
deviations_at rises falls k (u ∷ us) = record { rise = rises k; fall = falls k } ∷ deviations_at rises falls (k + 1) us

-- ---- of a rule on a box

-- its least strength in parts of 255 * 10^9, rounded down, and its greatest, rounded up
abbrev pub low_part : Block → List Interval → Rule → ℕ
low_part b box r = 255 * billion * (rule_span b box r).low.num / (rule_span b box r).low.den

abbrev pub high_part : Block → List Interval → Rule → ℕ
high_part b box r = up_div (255 * billion * (rule_span b box r).high.num) (rule_span b box r).high.den

-- whether it has no strength anywhere, over bytes neither
abbrev pub is_still : Block → List Interval → Rule → Bool
is_still b box r = ((rule_span b box r).high.num == 0) && ((rule_byte_span b box r).high == 0)

-- n, or 0 where it is still
abbrev pub if_moving : Block → List Interval → Rule → ℕ → ℕ
if_moving b box r n = if is_still b box r then 0 else n

-- ---- of term t of output o

-- its mass is at least so many parts of 255 * 10^9, and at most
abbrev pub low_of : Block → List Interval → ℕ → ℕ → ℕ
low_of b box o t = greatest_of (low_part b box) o t b.rules

abbrev pub high_of : Block → List Interval → ℕ → ℕ → ℕ
high_of b box o t = greatest_of (high_part b box) o t b.rules

-- over bytes it is at least so much, and at most
abbrev pub byte_low_of : Block → List Interval → ℕ → ℕ → ℕ
byte_low_of b box o t = greatest_of (λ r. (rule_byte_span b box r).low) o t b.rules

abbrev pub byte_high_of : Block → List Interval → ℕ → ℕ → ℕ
byte_high_of b box o t = greatest_of (λ r. (rule_byte_span b box r).high) o t b.rules

-- and the former is at most so far above the latter, and below
abbrev pub rise_of : Block → List Interval → (ℕ → ℕ → Span ℕ) → ℕ → ℕ → ℕ
rise_of b box e o t = greatest_of (λ r. if_moving b box r (rule_rise e r)) o t b.rules

abbrev pub fall_of : Block → List Interval → (ℕ → ℕ → Span ℕ) → ℕ → ℕ → ℕ
fall_of b box e o t = greatest_of (λ r. if_moving b box r (rule_fall e r)) o t b.rules

-- n where the term may have a mass over bytes, else 0
abbrev pub if_live : Block → List Interval → ℕ → ℕ → ℕ → ℕ
if_live b box o t n = if byte_high_of b box o t == 0 then 0 else n

-- ---- of output o

-- how far the singleton of a live term is at most from its byte
abbrev pub live_offset : Block → List Interval → ℕ → Output → ℕ
live_offset b box o x = greatest_over (λ t s. if_live b box o t (offset x s)) 1 x.singletons

-- the masses' sum is at least as many parts of 255 * 10^9
abbrev pub sure_sum : Block → List Interval → ℕ → Output → ℕ
sure_sum b box o x = sum_over (λ t u. low_of b box o t) 1 x.singletons

-- over bytes it is at least so much
abbrev pub sure_bytes : Block → List Interval → ℕ → Output → ℕ
sure_bytes b box o x = sum_over (λ t u. byte_low_of b box o t) 1 x.singletons

-- its masses over bytes lie between
abbrev pub byte_ranges : Block → List Interval → ℕ → Output → List MassRange
byte_ranges b box o x =
    ranges_at (λ k. byte_low_of b box o (k + 1)) (λ k. byte_high_of b box o (k + 1)) x.lo 0 x.singletons

abbrev pub deviations : Block → List Interval → (ℕ → ℕ → Span ℕ) → ℕ → Output → List Deviation
deviations b box e o x =
    deviations_at (λ k. rise_of b box e o (k + 1)) (λ k. fall_of b box e o (k + 1)) 0 x.singletons

abbrev pub scale : Block → List Interval → ℕ → Output → ℕ → Scale
scale b box o x h = record {
  width = distance x.lo x.hi;
  sum = sure_sum b box o x;
  offset = live_offset b box o x;
  parts = h;
}

-- n is the error of the mean of its singletons
abbrev pub IsSureBound : Block → List Interval → (ℕ → ℕ → Span ℕ) → ℕ → Output → ℕ → ℕ → Type 0
IsSureBound b box e o x h n = IsMeanError (scale b box o x h) (byte_ranges b box o x) (deviations b box e o x) n

-- all over the box some term has a mass, and over bytes too
pub record IsSure (b : Block) (box : List Interval) (o : ℕ) (x : Output) : Type 0 where
  pub sum : 1 ≤ sure_sum b box o x
  pub bytes : 1 ≤ sure_bytes b box o x

-- n is the tight Bound of a box for output o, for answers in h parts to a byte
pub data IsTightBound (b : Block) (box : List Interval) (o : ℕ) (x : Output) (h n : ℕ) : Type 0 where
  silent : Holds b box o silent_leaf → n ≡ silent_bound x → IsTightBound b box o x h n
  sure : (e : ℕ → ℕ → Span ℕ) → AreTermErrors b box e → IsSure b box o x → IsSureBound b box e o x h n
      → IsTightBound b box o x h n

-- where there is none it counts as 1000001
pub data IsTightCount (b : Block) (box : List Interval) (o : ℕ) (x : Output) (h n : ℕ) : Type 0 where
  of_bound : IsTightBound b box o x h n → IsTightCount b box o x h n
  of_none : (Holds b box o silent_leaf → ⊥) → (IsSure b box o x → ⊥) → n ≡ 1000001 → IsTightCount b box o x h n
