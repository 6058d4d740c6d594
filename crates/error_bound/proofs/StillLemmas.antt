-- Rules that are true nowhere on a box: none is on a part of it, and their masses are 0.
use Rattle.std.proofs.Common.{◌≡◌, ◌*◌, ◌∙◌, ℕ, List, Bool, length, arith}
use Rattle.fz_num.specs.Fractions.{Fraction, IsProper, up_div}
use Rattle.fuzzy_meaning.specs.{declared.block.Block.Block, declared.block.Rule.Rule, Blocks.IsValid}
use Rattle.error_bound.specs.{declared.boxes.Interval.Interval, Boxes.IsBox, Boxes.rule_span, Boxes.rule_byte_span}
use Rattle.error_bound.specs.{Errors.billion, Laws.IsInside, Leaves.IsStill, Reaches.AreMarked}
use Rattle.error_bound.specs.Tight.{low_part, high_part}
use Rattle.error_bound.proofs.{Nested.rule_narrow, Nested.inside_itself, RuleLemmas.none_below}
use Rattle.error_bound.proofs.{RuleLemmas.bytes_ordered, TightLemmas.rule_parts_ordered}
use Rattle.fz_num.proofs.Algebra.{up_div-le}

module _ (b : Block) (small box : List Interval) (valid : IsValid b) (count : length box ≡ length b.inputs)
    (inside : IsInside small box) (small_is : IsBox small) where
  pub IsStill-inside : (r : Rule) → IsStill b box r → IsStill b small r
  IsStill-inside r still =
      let n = rule_narrow b small box valid count inside small_is r in
      let bytes = n.byte_span.high in
      let none = still.byte_high in
      record {
        high = none_below (rule_span b small r).high (rule_span b box r).high n.span.high.right n.span.high.below still.high;
        byte_high = omega arith;
      }

  pub AreMarked-inside : (marks : List Bool) → AreMarked b box marks → AreMarked b small marks
  AreMarked-inside marks marked n r one at = IsStill-inside r (marked n r one at)

module _ (b : Block) (box : List Interval) (valid : IsValid b) (count : length box ≡ length b.inputs)
    (box_is : IsBox box) where
  pub still_parts : (r : Rule) → IsStill b box r → (low_part b box r ≡ 0) × (high_part b box r ≡ 0)
      × ((rule_byte_span b box r).low ≡ 0) × ((rule_byte_span b box r).high ≡ 0)
  still_parts r still =
      let n = rule_narrow b box box valid count (inside_itself box) box_is r in
      let top = rule_parts_ordered b box valid count box_is r in
      let bytes = bytes_ordered b box r in
      let none_high = no_part (rule_span b box r).high n.span.high.left still.high in
      let byte_high = still.byte_high in
      (omega arith, none_high, omega arith, still.byte_high)
    where
      no_part : (f : Fraction) → IsProper f → f.num ≡ 0 → up_div (255 * billion * f.num) f.den ≡ 0
      no_part f p z =
          let l = up_div-le (255 * billion * f.num) f.den 0 p.pos (omega arith) in
          omega arith
