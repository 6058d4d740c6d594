-- Conditions in which NOT stands at literals alone, no AND right in an AND and no OR right in an OR. They say the same
-- over each box.
-- Beside the promise.
use Rattle.std.specs.Prelude.{◌≡◌, ℕ, Bool, true, false, List, if◌then◌else◌}
use Rattle.fz_num.specs.Fractions.{Fraction, IsProper, AtMost}
use Rattle.fuzzy_meaning.specs.{declared.block.Block.Block, Blocks.IsValidCondition}
use Rattle.fuzzy_meaning.specs.Conditions.{Condition, is, negation, all, any, Conditions, end, also, group, under}
use Rattle.fuzzy_meaning.specs.Conditions.{Joins, evaluate_pushed, evaluate_pushed_parts}
use Rattle.error_bound.specs.declared.{flattening.Group.Group, flattening.Group.TheVariants.Any}
use Rattle.error_bound.specs.declared.flattening.Group.TheVariants.{All}
use Rattle.error_bound.specs.{declared.boxes.Interval.Interval, Boxes.literal_span, Boxes.literal_byte_span}
use Rattle.error_bound.specs.Spans.{Span, span, byte_span, deviation}

-- whether a group is an OR
abbrev pub is_any : Group → Bool
is_any Any = true
is_any All = false

-- the second behind the first
abbrev pub followed : Conditions → Conditions → Conditions
followed end ds = ds
followed (also c cs) ds = also c (followed cs ds)

-- of an OR, or of an AND; any other condition is one part
abbrev pub parts : Bool → Condition → Conditions
parts or (is i t) = also (is i t) end
parts or (negation c) = also (negation c) end
parts or (all cs) = if or then also (all cs) end else cs
parts or (any cs) = if or then cs else also (any cs) end

-- an OR of the parts of two conditions, or an AND
abbrev pub flats : Joins Condition
flats = record {
  none = λ or. group or end;
  join = λ or c d. group or (followed (parts or c) (parts or d));
}

-- behind an odd number of NOTs, or an even one
abbrev pub flat_under : Bool → Condition → Condition
flat_under = evaluate_pushed flats (λ odd i t. under odd (is i t))

-- an OR of such parts, or an AND
abbrev pub flat_parts : Bool → Bool → Conditions → Condition
flat_parts = evaluate_pushed_parts flats (λ odd i t. under odd (is i t))

abbrev pub flat : Condition → Condition
flat c = all (parts false (flat_under false c))

-- two fractions of one value
pub record IsSame (f g : Fraction) : Type 0 where
  pub left : IsProper f
  pub right : IsProper g
  pub below : AtMost f g
  pub above : AtMost g f

-- so are both ends
pub record AreSame {A : Type 0} (Same : A → A → Type 0) (s r : Span A) : Type 0 where
  pub low : Same s.low r.low
  pub high : Same s.high r.high

-- over each box its truths, over bytes too, and the errors of its literals reach just as far
pub record ReachesAlike (b : Block) (c d : Condition) : Type 0 where
  pub valid : IsValidCondition b c → IsValidCondition b d
  pub spans : (box : List Interval) → AreSame IsSame (span (literal_span b box) d) (span (literal_span b box) c)
  pub byte_spans : (box : List Interval) → byte_span (literal_byte_span b box) d ≡ byte_span (literal_byte_span b box) c
  pub errors : (e : ℕ → ℕ → Span ℕ) → deviation e d ≡ deviation e c

abbrev pub FlatteningKeepsReaches : Type 0
FlatteningKeepsReaches = (b : Block) (c : Condition) → ReachesAlike b c (flat c)
