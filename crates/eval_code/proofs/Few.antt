-- How many instructions and steps a sample takes at least and at most.
use Rattle.eval_code.proofs.Words.{[], ◌*◌, ◌∷◌, ◌≡◌, ◌≤◌, arith, Block, Dec, instruction_bound}
use Rattle.eval_code.proofs.Words.{instruction_of, RuleInstruction, revw_bound}
use Rattle.eval_code.proofs.Words.{LayoutLaw, length, List, None, Option, Output, output_bound, refl, Some, steps_by}
use Rattle.eval_code.proofs.Words.{sum_by, sum_by-cons, Width, Word}
use Rattle.byte_scaling.specs.{declared.width.Width.TheVariants.Byte}
use Rattle.eval_code.specs.{Bounds.BoundsAreFew, Bounds.step_bound}
use Rattle.rule_layout.specs.declared.flat.RuleInstruction.TheVariants as instruction
use Rattle.eval_code.proofs.{Joins.sum_by-term_count, phases.RuleFacts.block_facts}
use Rattle.eval_code.proofs.Placement.{element_count-le, sum_by-singleton_count}

output_bound-le : (w : Width) (o : Output) → output_bound w o ≤ 13
output_bound-le w o = by_default w o.default refl
  where
    by_default : (v : Width) (d : Option Dec) → o.default ≡ d → output_bound v o ≤ 13
    by_default Byte (Some d) h = rw h (omega arith)
    by_default Byte None h = rw h (omega arith)
    by_default Word (Some d) h = rw h (omega arith)
    by_default Word None h = rw h (omega arith)

outputs_bound : (w : Width) (os : List Output) → sum_by (output_bound w) os ≤ 13 * length os
outputs_bound w [] = omega arith
outputs_bound w (o ∷ os) =
    omega (arith, sum_by-cons (output_bound w) o os, output_bound-le w o, outputs_bound w os)

revw_bound-le : (f : RuleInstruction) → revw_bound f ≤ 1
revw_bound-le instruction.Rev = omega arith
revw_bound-le instruction.Revw = omega arith

-- enough for the three steps up to the first wait
pub enough_steps : (w : Width) (b : Block) → length b.outputs ≤ 4 → 3 ≤ step_bound w b
unfolding instruction_bound steps_by
enough_steps w b few = omega arith

pub bounds_are_few : LayoutLaw → BoundsAreFew
unfolding instruction_bound steps_by
bounds_are_few law b w most valid limits =
    let facts = block_facts law b valid in
    let terms = sum_by-term_count b.inputs valid.few_inputs valid.inputs in
    let singletons = sum_by-singleton_count b.outputs valid.few_outputs valid.outputs in
    let outputs = outputs_bound w b.outputs in
    let form_is = revw_bound-le (instruction_of b) in
    let elements = element_count-le b in
    let slots = facts.few_slots in
    let few_inputs = valid.few_inputs in
    let few_outputs = valid.few_outputs in
    let list = limits.short_list in
    (omega arith, omega arith, omega arith, omega arith)
