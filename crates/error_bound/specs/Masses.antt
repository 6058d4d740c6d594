-- What the code knows of the masses of an output's terms on a box.
-- Beside the promise.
use Rattle.std.specs.Prelude.{◌≡◌, ℕ, ◌+◌, ◌-◌, ◌*◌, ◌/◌, ◌<◌, ◌≤◌, ◌==◌, Bool, List, if◌then◌else◌, slice_index}
use Rattle.fz_num.specs.{declared.dec.Dec.Dec, Decimals.distance, Fractions.Fraction, Fractions.up_div}
use Rattle.fuzzy_meaning.specs.declared.{block.Block.Block, block.Output.Output, block.Rule.Rule}
use Rattle.fuzzy_meaning.specs.Conditions.{Condition, levels}
use Rattle.error_bound.specs.declared.{boxes.Interval.Interval, masses.MassEnds.MassEnds, tight.Masses.Masses}
use Rattle.error_bound.specs.declared.{tight.Deviations.Deviations}
use Rattle.cell_error.specs.declared.{ranges.MassRange.MassRange, ranges.Deviation.Deviation, means.Scale.Scale}
use Rattle.cell_error.specs.Means.{IsMeanError, most_deviation}
use Rattle.error_bound.specs.{Boxes.rule_byte_span, CellErrors.term_errors, Errors.rule_rise, Errors.rule_fall}
use Rattle.error_bound.specs.{Boxes.literal_span, Boxes.literal_byte_span, Boxes.rule_span, Errors.billion}
use Rattle.error_bound.specs.Spans.{Span, span, byte_span}
use Rattle.error_bound.specs.{Bounds.offset, Tight.greatest_of, Tight.sum_over, Tight.greatest_over, Tight.low_part}
use Rattle.error_bound.specs.Tight.{high_part, if_moving, ranges_at, deviations_at}
use Rattle.cell_error.specs.Errors.{whole_mass}

-- the ends, in whole parts, of truths from the least to the greatest, and of those over bytes
pub record AreMassEnds (s : Span Fraction) (g : Span ℕ) (m : MassEnds) : Type 0 where
  pub low : m.low ≡ 255 * billion * s.low.num / s.low.den
  pub high : m.high ≡ up_div (255 * billion * s.high.num) s.high.den
  pub byte_low : m.byte_low ≡ g.low
  pub byte_high : m.byte_high ≡ g.high
  pub low_small : m.low ≤ whole_mass
  pub high_small : m.high ≤ whole_mass
  pub byte_low_small : m.byte_low ≤ 255
  pub byte_high_small : m.byte_high ≤ 255

-- such truths reach no further than these ends
pub record AreWithin (s : Span Fraction) (g : Span ℕ) (m : MassEnds) : Type 0 where
  pub low : 255 * billion * s.low.num / s.low.den ≤ m.low
  pub high : up_div (255 * billion * s.high.num) s.high.den ≤ m.high
  pub byte_low : g.low ≤ m.byte_low
  pub byte_high : g.high ≤ m.byte_high

-- no end of m is above that of n
pub record IsAtMost (m n : MassEnds) : Type 0 where
  pub low : m.low ≤ n.low
  pub high : m.high ≤ n.high
  pub byte_low : m.byte_low ≤ n.byte_low
  pub byte_high : m.byte_high ≤ n.byte_high

-- those of an OR or an AND of no parts
pub record AreMassesOfNone (or : Bool) (m : MassEnds) : Type 0 where
  pub low : m.low ≡ (levels whole_mass).none or
  pub high : m.high ≡ (levels whole_mass).none or
  pub byte_low : m.byte_low ≡ (levels 255).none or
  pub byte_high : m.byte_high ≡ (levels 255).none or

-- each end is the greater of two for an OR, the lesser for an AND
pub record AreJoined (or : Bool) (m n o : MassEnds) : Type 0 where
  pub low : o.low ≡ (levels whole_mass).join or m.low n.low
  pub high : o.high ≡ (levels whole_mass).join or m.high n.high
  pub byte_low : o.byte_low ≡ (levels 255).join or m.byte_low n.byte_low
  pub byte_high : o.byte_high ≡ (levels 255).join or m.byte_high n.byte_high

-- of a condition on a box
abbrev pub AreEndsOfCondition : Block → List Interval → Condition → MassEnds → Type 0
AreEndsOfCondition b box c = AreMassEnds (span (literal_span b box) c) (byte_span (literal_byte_span b box) c)

abbrev pub IsConditionWithin : Block → List Interval → Condition → MassEnds → Type 0
IsConditionWithin b box c = AreWithin (span (literal_span b box) c) (byte_span (literal_byte_span b box) c)

-- of a rule
abbrev pub IsRuleMass : Block → List Interval → Rule → MassEnds → Type 0
IsRuleMass b box r = AreMassEnds (rule_span b box r) (rule_byte_span b box r)

abbrev pub IsRuleWithin : Block → List Interval → Rule → MassEnds → Type 0
IsRuleWithin b box r = AreWithin (rule_span b box r) (rule_byte_span b box r)

-- for each term the greatest that f gives for the rules that conclude it, n at most
pub record AreGreatest (f : Rule → ℕ) (n o : ℕ) (rs : List Rule) (values : List ℕ) : Type 0 where
  pub each : (t : ℕ) → t < 15 → slice_index values t ≡ greatest_of f o (t + 1) rs
  pub small : (t : ℕ) → t < 15 → slice_index values t ≤ n

-- of an output's terms
pub record AreMasses (b : Block) (box : List Interval) (o : ℕ) (m : Masses) : Type 0 where
  pub lows : AreGreatest (low_part b box) whole_mass o b.rules m.lows
  pub highs : AreGreatest (high_part b box) whole_mass o b.rules m.highs
  pub byte_lows : AreGreatest (λ r. (rule_byte_span b box r).low) 255 o b.rules m.byte_lows
  pub byte_highs : AreGreatest (λ r. (rule_byte_span b box r).high) 255 o b.rules m.byte_highs

-- and how far they may be above those over bytes, and below
pub record AreDeviations (b : Block) (box : List Interval) (o : ℕ) (d : Deviations) : Type 0 where
  pub rises : AreGreatest (λ r. if_moving b box r (rule_rise (term_errors b box) r)) most_deviation o b.rules d.rises
  pub falls : AreGreatest (λ r. if_moving b box r (rule_fall (term_errors b box) r)) most_deviation o b.rules d.falls

pub record AreSmall (n : ℕ) (values : List ℕ) : Type 0 where
  pub each : (t : ℕ) → t < 15 → slice_index values t ≤ n

-- ---- the sums over these numbers, which stand at the places of the terms

abbrev pub sum_at : List ℕ → List Dec → ℕ
sum_at values us = sum_over (λ t u. slice_index values (t - 1)) 1 us

abbrev pub if_some : List ℕ → ℕ → ℕ → ℕ
if_some highs t n = if slice_index highs (t - 1) == 0 then 0 else n

abbrev pub offset_at : List ℕ → Output → ℕ
offset_at highs x = greatest_over (λ t s. if_some highs t (offset x s)) 1 x.singletons

abbrev pub byte_ranges_at : Masses → Output → List MassRange
byte_ranges_at m x = ranges_at (slice_index m.byte_lows) (slice_index m.byte_highs) x.lo 0 x.singletons

abbrev pub deviations_of : Deviations → Output → List Deviation
deviations_of d x = deviations_at (slice_index d.rises) (slice_index d.falls) 0 x.singletons

abbrev pub scale_at : Masses → Output → ℕ → Scale
scale_at m x h = record {
  width = distance x.lo x.hi;
  sum = sum_at m.lows x.singletons;
  offset = offset_at m.byte_highs x;
  parts = h;
}

abbrev pub IsBoundAt : Masses → Deviations → Output → ℕ → ℕ → Type 0
IsBoundAt m d x h n = IsMeanError (scale_at m x h) (byte_ranges_at m x) (deviations_of d x) n
