-- Which inputs matter on a box, and boxes that differ in the others alone.
-- Beside the promise.
use Rattle.std.specs.Prelude.{◌≡◌, ℕ, ◌+◌, ◌-◌, ◌*◌, ◌≤◌, ◌==◌, ◌&&◌, ◌||◌, Bool, true, false, not, if◌then◌else◌}
use Rattle.std.specs.Prelude.{nat_lt}
use Rattle.std.specs.Prelude.{List, [], ◌∷◌, length, slice_get}
use Rattle.std.specs.List.{list_any}
use Rattle.fuzzy_meaning.specs.declared.{block.Block.Block, block.Output.Output}
use Rattle.fuzzy_meaning.specs.{Blocks.IsValid, Conditions.Condition, Conditions.evaluate}
use Rattle.error_bound.specs.{declared.boxes.Interval.Interval, Boxes.IsBox, Boxes.literal_span, Laws.IsInside}
use Rattle.error_bound.specs.{Boxes.literal_byte_span, Tight.is_still, Tight.byte_high_of, Tight.IsTightBound}
use Rattle.error_bound.specs.{MassRanges.ranges}

-- whether some literal of a condition is so
abbrev pub some_literal : (ℕ → ℕ → Bool) → Condition → Bool
some_literal = evaluate (λ c. c) (record { none = λ any. false; join = λ any. ◌||◌ })

-- whether on the box term t of input i has degrees, or grades, of which one is below another
abbrev pub is_spread : Block → List Interval → ℕ → ℕ → Bool
is_spread b box i t =
    nat_lt ((literal_span b box i t).low.num * (literal_span b box i t).high.den)
    ((literal_span b box i t).high.num * (literal_span b box i t).low.den)
    || nat_lt (literal_byte_span b box i t).low (literal_byte_span b box i t).high

-- whether a rule asks for such a term of input i
abbrev pub asks_for : Block → List Interval → ℕ → Condition → Bool
asks_for b box i = some_literal (λ j t. (j == i) && is_spread b box j t)

-- the input matters where a rule does that has a strength somewhere on the box
abbrev pub matters : Block → List Interval → ℕ → Bool
matters b box i = list_any (λ r. asks_for b box i r.cond && not (is_still b box r)) b.rules

-- the box with the low byte alone in each interval of an input that doesn't matter, from input i on
abbrev pub narrowed_from : Block → List Interval → ℕ → List Interval → List Interval
narrowed_from b box i [] = []
narrowed_from b box i (v ∷ vs) =
    (if matters b box i then v else record { from = v.from; to = v.from }) ∷ narrowed_from b box (i + 1) vs

abbrev pub narrowed : Block → List Interval → List Interval
narrowed b box = narrowed_from b box 1 box

-- two boxes inside one have the same intervals for the inputs that matter there
pub record AreAlike (b : Block) (box small other : List Interval) : Type 0 where
  pub small_is : IsBox small
  pub other_is : IsBox other
  pub small_inside : IsInside small box
  pub other_inside : IsInside other box
  pub same : (i : ℕ) → 1 ≤ i → matters b box i ≡ true → slice_get small (i - 1) ≡ slice_get other (i - 1)

-- ---- laws

-- such boxes have one tight Bound for an output
abbrev pub AlikeBoxesHaveOneBound : Type 0
AlikeBoxesHaveOneBound =
    (b : Block) (box small other : List Interval) (o : ℕ) (x : Output) (h n : ℕ) → IsValid b
    → length box ≡ length b.inputs → AreAlike b box small other → IsTightBound b small o x h n
    → IsTightBound b other o x h n

-- and on them the masses lie between the same ends
abbrev pub AlikeBoxesHaveOneRange : Type 0
AlikeBoxesHaveOneRange =
    (b : Block) (box small other : List Interval) (o : ℕ) (x : Output) → IsValid b → length box ≡ length b.inputs
    → AreAlike b box small other → ranges b small o x ≡ ranges b other o x

-- over bytes too
abbrev pub AlikeBoxesHaveOneGrade : Type 0
AlikeBoxesHaveOneGrade =
    (b : Block) (box small other : List Interval) (o t : ℕ) → IsValid b → length box ≡ length b.inputs
    → AreAlike b box small other → byte_high_of b small o t ≡ byte_high_of b other o t
