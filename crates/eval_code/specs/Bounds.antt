-- How many instructions and steps a sample takes at most.
-- Beside the promise.
use Rattle.std.specs.Prelude.{ℕ, ◌+◌, ◌-◌, ◌*◌, ◌≤◌, length, sum_by, Option, Some, None}
use Rattle.fz_num.specs.declared.dec.Dec.{Dec}
use Rattle.fuzzy_meaning.specs.{declared.block.Block.Block, declared.block.Output.Output, Blocks.IsValid}
use Rattle.rule_layout.specs.declared.{flat.Conjunction.Conjunction, flat.RuleInstruction.RuleInstruction}
use Rattle.rule_layout.specs.declared.flat.RuleInstruction.TheVariants as instruction
use Rattle.rule_layout.specs.Slots.{slots_of, term_count, singleton_count}
use Rattle.rule_layout.specs.Layouts.{conjunctions_of, instruction_of, IsWithinLimits}
use Rattle.byte_scaling.specs.declared.{width.Width.Width, width.Width.TheVariants.Byte, width.Width.TheVariants.Word}

abbrev pub input_term_count : Block → ℕ
input_term_count b = sum_by term_count b.inputs

abbrev pub output_term_count : Block → ℕ
output_term_count b = sum_by singleton_count b.outputs

-- the slots that are neither
abbrev pub complement_count : Block → ℕ
complement_count b = length (slots_of b) - input_term_count b - output_term_count b

-- the elements of the rule list: each conjunction's literals, its conclusions and two marks
abbrev pub entry_count : Conjunction → ℕ
entry_count c = length c.literals + length c.conclusions + 2

abbrev pub element_count : Block → ℕ
element_count b = sum_by entry_count (conjunctions_of b)

-- an output takes 10 instructions where its DEFAULT is a number, and 9 with NC; for a word 13 and 12
abbrev pub output_bound : Width → Output → ℕ
output_bound w o = by_default w o.default
  where
    by_default : Width → Option Dec → ℕ
    by_default Byte (Some d) = 10
    by_default Byte None = 9
    by_default Word (Some d) = 13
    by_default Word None = 12

-- REVW takes an instruction more
abbrev pub revw_bound : RuleInstruction → ℕ
revw_bound instruction.Rev = 0
revw_bound instruction.Revw = 1

unfoldable pub instruction_bound : Width → Block → ℕ
instruction_bound w b =
    13 + length b.inputs + input_term_count b + 3 * complement_count b + output_term_count b
    + sum_by (output_bound w) b.outputs + revw_bound (instruction_of b)

-- the steps of at most so many instructions: REV or REVW takes a step an element, and WAV a step a term
unfoldable pub steps_by : Block → ℕ → ℕ
steps_by b most = most - 1 - length b.outputs + element_count b + output_term_count b

abbrev pub step_bound : Width → Block → ℕ
step_bound w b = steps_by b (instruction_bound w b)

-- The bound on a sample's instructions is 13 at least and 2000 at most; that on the steps of so many instructions is at
-- most 5 less and at most 10044 more.
abbrev pub BoundsAreFew : Type 0
BoundsAreFew =
    (b : Block) (w : Width) (most : ℕ) → IsValid b → IsWithinLimits b
    → (13 ≤ instruction_bound w b) × (instruction_bound w b ≤ 2000) × (most ≤ steps_by b most + 5)
    × (steps_by b most ≤ most + 10044)
