-- What the code's reaches stand for.
-- Beside the promise.
use Rattle.std.specs.Prelude.{◌≡◌, ℕ, ◌-◌, ◌≤◌, Bool, List, Option, IfSome, Some, None, map, slice_get, slice_index}
use Rattle.std.specs.Prelude.{slice_index_or, true, false}
use Rattle.std.specs.Global.{Vec}
use Rattle.fz_num.specs.{Decimals.distance, Fractions.Fraction, Fractions.one_minus}
use Rattle.fuzzy_meaning.specs.{declared.block.Block.Block, declared.block.Input.Input, declared.block.Rule.Rule}
use Rattle.fuzzy_meaning.specs.{declared.block.Trapezoid.Trapezoid, Conditions.Condition, Places.points_of}
use Rattle.fuzzy_meaning.specs.Conditions.{is, all, conditions, under}
use Rattle.fuzzy_meaning.specs.Blocks.{IsValid}
use Rattle.byte_scaling.specs.Widths.{parts}
use Rattle.point_slope.specs.Tables.{row_of, grade_of}
use Rattle.cell_error.specs.{declared.ranges.Deviation.Deviation, Means.IsSmallDeviation}
use Rattle.error_bound.specs.declared.{boxes.Interval.Interval, cells.TermCells.TermCells, degrees.Degrees.Degrees}
use Rattle.error_bound.specs.declared.{ends.End.End, ends.Ends.Ends, reaches.Reach.Reach, reaches.Literal.Literal}
use Rattle.error_bound.specs.declared.{tables.InputCells.InputCells}
use Rattle.error_bound.specs.declared.{tables.BlockTable.BlockTable, tables.BoxTable.BoxTable, tables.Kept.Kept}
use Rattle.error_bound.specs.declared.{tables.Row.Row, ends.Side.Side}
use Rattle.error_bound.specs.{Ratios.value_of, Ratios.IsDegreeRatio, Ratios.IsStrengthRatio, Spans.Span, Spans.span}
use Rattle.error_bound.specs.{Spans.byte_span, Spans.end_of}
use Rattle.error_bound.specs.{Spans.reversed, Masses.AreMassEnds, Leaves.IsStill}
use Rattle.error_bound.specs.Boxes.{IsBoxOf, degrees_over, grades_over, literal_span, literal_byte_span, rule_span}
use Rattle.error_bound.specs.Boxes.{rule_byte_span}
use Rattle.error_bound.specs.Errors.{billion, rule_error, rule_rise, rule_fall}
use Rattle.error_bound.specs.{Flattening.IsSame, Flattening.ReachesAlike, Spans.deviation}
use Rattle.error_bound.specs.CellErrors.{cell_rise, cell_fall, term_deviation, term_errors}
use Rattle.cell_error.specs.Means.{most_deviation}

abbrev pub span_of : Degrees → Span Fraction
span_of d = record { low = value_of d.low; high = value_of d.high }

abbrev pub byte_span_of : Reach → Span ℕ
byte_span_of r = record { low = r.least; high = r.greatest }

-- between two ends
abbrev pub span_of_ends : Ends → Span Fraction
span_of_ends e = record { low = value_of e.low.truth; high = value_of e.high.truth }

abbrev pub byte_span_of_ends : Ends → Span ℕ
byte_span_of_ends e = record { low = e.low.byte; high = e.high.byte }

-- from the fall to the rise
abbrev pub fall_to_rise : Deviation → Span ℕ
fall_to_rise d = record { low = d.fall; high = d.rise }

pub record IsUnitDeviation (d : Deviation) : Type 0 where
  pub rise : d.rise ≤ 1000000000
  pub fall : d.fall ≤ 1000000000

-- a term's grades, and their rises and falls, at the bytes of an interval
pub record AreTermCells (x : Input) (term : Trapezoid) (v : Interval) (c : TermCells) : Type 0 where
  pub grades : (n : ℕ) → v.from ≤ n → n ≤ v.to → slice_index c.grades n ≡ grade_of (row_of x term) n
  pub rises : (n : ℕ) → v.from ≤ n → n ≤ v.to
      → slice_index c.rises n ≡ cell_rise billion (points_of x term) (distance x.lo x.hi) (grade_of (row_of x term)) n
  pub falls : (n : ℕ) → v.from ≤ n → n ≤ v.to
      → slice_index c.falls n ≡ cell_fall billion (points_of x term) (distance x.lo x.hi) (grade_of (row_of x term)) n
  pub rises_small : (n : ℕ) → v.from ≤ n → n ≤ v.to → slice_index c.rises n ≤ billion
  pub falls_small : (n : ℕ) → v.from ≤ n → n ≤ v.to → slice_index c.falls n ≤ billion

-- those of each term of an input
abbrev pub AreInputCells : Input → Interval → InputCells → Type 0
AreInputCells x v cells =
    (t : ℕ) (term : Trapezoid) → slice_get x.terms t ≡ Some term
    → (c : TermCells) × (slice_get cells.terms t ≡ Some c) × AreTermCells x term v c

abbrev pub all_bytes : Interval
all_bytes = record { from = 0; to = 255 }

-- of each input, at all bytes
abbrev pub AreAllCells : Block → List InputCells → Type 0
AreAllCells b cells =
    (i : ℕ) (x : Input) → slice_get b.inputs i ≡ Some x
    → (c : InputCells) × (slice_get cells i ≡ Some c) × AreInputCells x all_bytes c

-- at a place a condition that reaches as far as a rule's
abbrev pub HasAlike : Block → Rule → ℕ → List Condition → Type 0
HasAlike b r k conds = (c : Condition) × (slice_get conds k ≡ Some c) × ReachesAlike b r.cond c

-- one for each rule
abbrev pub AreRuleConditions : Block → List Condition → Type 0
AreRuleConditions b conds = (k : ℕ) (r : Rule) → slice_get b.rules k ≡ Some r → HasAlike b r k conds

abbrev pub literal_of : Literal → Condition
literal_of l = under l.negated (is l.input l.term)

-- a rule has no weight, and an AND of these reaches as far as its condition
pub record AreLiteralsOf (b : Block) (r : Rule) (ls : List Literal) : Type 0 where
  pub plain : r.weight ≡ None
  pub alike : ReachesAlike b r.cond (all (conditions (map literal_of ls)))

-- for each rule, if they are there
abbrev pub AreRuleLiterals : Block → List (Option (Vec Literal)) → Type 0
AreRuleLiterals b lists =
    (k : ℕ) (r : Rule) → slice_get b.rules k ≡ Some r
    → (o : Option (Vec Literal)) × (slice_get lists k ≡ Some o) × IfSome o (λ v. AreLiteralsOf b r v.items)

-- what is kept of a block
pub record IsKept (b : Block) (kept : Kept) : Type 0 where
  pub inputs : AreAllCells b kept.inputs.items
  pub conditions : AreRuleConditions b kept.conditions.items
  pub literals : AreRuleLiterals b kept.literals.items

-- what boxes need of their block, which is valid
pub record IsBlockTable (table : BlockTable) : Type 0 where
  pub valid : IsValid table.block.now
  pub kept : IfSome table.kept (IsKept table.block.now)

-- fractions of small denominators
pub record AreTruths (d : Degrees) : Type 0 where
  pub low : IsDegreeRatio d.low
  pub high : IsDegreeRatio d.high

pub record IsSmall (r : Reach) : Type 0 where
  pub degrees : AreTruths r.degrees
  pub deviation : IsUnitDeviation r.deviation

-- its masses are those of its truths, and of their complements
pub record HasMasses (r : Reach) : Type 0 where
  pub mass : AreMassEnds (span_of r.degrees) (byte_span_of r) r.mass
  pub opposite :
      AreMassEnds (reversed one_minus (span_of r.degrees)) (reversed (λ n. 255 - n) (byte_span_of r)) r.opposite

-- the reach of a term over an interval
pub record IsReachOfTerm (x : Input) (term : Trapezoid) (v : Interval) (r : Reach) : Type 0 where
  pub value : span_of r.degrees ≡ degrees_over x term v
  pub bytes : byte_span_of r ≡ grades_over x term v
  pub deviation : fall_to_rise r.deviation ≡ term_deviation x term v
  pub small : IsSmall r
  pub masses : HasMasses r

-- the reaches of an input's terms
abbrev pub AreInputReaches : Input → Interval → List Reach → Type 0
AreInputReaches x v rs =
    (t : ℕ) (term : Trapezoid) → slice_get x.terms t ≡ Some term
    → (r : Reach) × (slice_get rs t ≡ Some r) × IsReachOfTerm x term v r

-- of all inputs' terms over a box
abbrev pub AreRows : Block → List Interval → List Row → Type 0
AreRows b box rows =
    (i : ℕ) (x : Input) → slice_get b.inputs i ≡ Some x
    → (r : Row) × (slice_get rows i ≡ Some r)
    × ((v : Interval) → slice_get box i ≡ Some v → AreInputReaches x v r.reaches)

-- the reach of a literal over a box
pub record IsReachOfLiteral (b : Block) (box : List Interval) (i t : ℕ) (r : Reach) : Type 0 where
  pub value : span_of r.degrees ≡ literal_span b box i t
  pub bytes : byte_span_of r ≡ literal_byte_span b box i t
  pub deviation : fall_to_rise r.deviation ≡ term_errors b box i t
  pub small : IsSmall r
  pub masses : HasMasses r

-- an end of the reach of a condition
pub record IsEndOfCondition (b : Block) (box : List Interval) (c : Condition) (side : Side) (e : End) : Type 0 where
  pub value : value_of e.truth ≡ end_of side (span (literal_span b box) c)
  pub byte : e.byte ≡ end_of side (byte_span (literal_byte_span b box) c)
  pub small : IsDegreeRatio e.truth

-- a condition is true nowhere, over bytes neither
pub record IsNowhere (b : Block) (box : List Interval) (c : Condition) : Type 0 where
  pub high : (span (literal_span b box) c).high.num ≡ 0
  pub byte_high : (byte_span (literal_byte_span b box) c).high ≡ 0

-- of the reach of a rule's strength
pub record IsEndOfRule (b : Block) (box : List Interval) (r : Rule) (side : Side) (e : End) : Type 0 where
  pub value : IsSame (value_of e.truth) (end_of side (rule_span b box r))
  pub byte : e.byte ≡ end_of side (rule_byte_span b box r)
  pub small : IsStrengthRatio e.truth

-- how far a condition's truth may be above that over bytes, and below
pub record IsDeviationOfCondition (b : Block) (box : List Interval) (c : Condition) (d : Deviation) : Type 0 where
  pub value : fall_to_rise d ≡ deviation (term_errors b box) c
  pub small : IsUnitDeviation d

-- and a rule's strength
pub record IsDeviationOfRule (b : Block) (box : List Interval) (r : Rule) (d : Deviation) : Type 0 where
  pub rise : d.rise ≡ rule_rise (term_errors b box) r
  pub fall : d.fall ≡ rule_fall (term_errors b box) r
  pub small : IsSmallDeviation d

-- its eps
pub record IsErrorOfRule (b : Block) (box : List Interval) (r : Rule) (e : ℕ) : Type 0 where
  pub value : e ≡ rule_error (term_errors b box) r
  pub small : e ≤ most_deviation

-- ---- the table of a box

abbrev pub block_of : BoxTable → Block
block_of t = t.table.now.block.now

abbrev pub box_of : BoxTable → List Interval
box_of t = t.bytes.0.items

-- in how many parts of a byte its block's answers come
abbrev pub parts_of : BoxTable → ℕ
parts_of t = parts t.table.now.width

-- marked rules have no strength anywhere on a box
abbrev pub AreMarked : Block → List Interval → List Bool → Type 0
AreMarked b box marks =
    (n : ℕ) (r : Rule) → slice_index_or marks n false ≡ true → slice_get b.rules n ≡ Some r → IsStill b box r

-- what leaves need of a box
pub record IsTable (t : BoxTable) : Type 0 where
  pub table : IsBlockTable t.table.now
  pub box_is : IsBoxOf (block_of t) (box_of t)
  pub rows : AreRows (block_of t) (box_of t) t.rows
  pub still : AreMarked (block_of t) t.still.around.0.items t.still.marks

-- of a box of this table's block
pub record IsTableOf (table : BlockTable) (t : BoxTable) : Type 0 where
  pub is_table : IsTable t
  pub over : t.table.now ≡ table
