-- The deviation of conditions.
use Rattle.std.proofs.Common.{◌≡◌, ℕ, Bool, true, false, List, refl, ap, ◌∙◌}
use Rattle.cell_error.specs.declared.ranges.Deviation.{Deviation}
use Rattle.fuzzy_meaning.specs.Conditions.{Condition, all, any, Conditions, end, also, under}
use Rattle.fuzzy_meaning.specs.{declared.block.Block.Block, Blocks.IsValidCondition}
use Rattle.error_bound.specs.{declared.boxes.Interval.Interval, Flattening.ReachesAlike}
use Rattle.error_bound.specs.{CellErrors.term_errors, Spans.Span, Spans.deviation, Spans.spans, Spans.greatest}
use Rattle.error_bound.specs.Reaches.{IsDeviationOfCondition, fall_to_rise}

pub valid_under : (b : Block) (odd : Bool) (c : Condition) → IsValidCondition b (under odd c) → IsValidCondition b c
valid_under b true c v = v
valid_under b false c v = v

-- the parts of an AND and of an OR have one greatest
all-any : (e : ℕ → ℕ → Span ℕ) (cs : Conditions) → deviation e (all cs) ≡ deviation e (any cs)
all-any e end = refl
all-any e (also c cs) = ap ((spans greatest).join false (deviation e c)) (all-any e cs)

pub deviation_of_any : (b : Block) (box : List Interval) (cs : Conditions) (d : Deviation)
    → IsDeviationOfCondition b box (all cs) d → IsDeviationOfCondition b box (any cs) d
deviation_of_any b box cs d s = record { value = s.value ∙ all-any (term_errors b box) cs; small = s.small }

-- of a condition that reaches as far as another
pub deviation_alike : (b : Block) (box : List Interval) (c e : Condition) (d : Deviation) → ReachesAlike b c e
    → IsDeviationOfCondition b box e d
    → (d.rise ≡ (deviation (term_errors b box) c).high) × (d.fall ≡ (deviation (term_errors b box) c).low)
deviation_alike b box c e d alike s =
    let same : fall_to_rise d ≡ deviation (term_errors b box) c = s.value ∙ alike.errors (term_errors b box) in
    (ap (λ x. x.high) same, ap (λ x. x.low) same)
