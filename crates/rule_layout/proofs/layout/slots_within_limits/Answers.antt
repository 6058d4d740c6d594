use Rattle.rule_layout.proofs.Words.{◌∙◌, All, arith, IsCountable, subst, sym}
use Rattle.rule_layout.proofs.LayoutLemmas.{rules_countable, bytes_fit}
use Rattle.rule_layout.proofs.LayoutLemmas.{instruction_found, IsListSize-found, IsTooLong-found, IsWithinLimits-found}
use Rattle.rule_layout.proofs.layout.slots_within_limits.Goals as goal

pub size_of_rules-requires-clause-countable : goal.size_of_rules-requires-clause-countable
size_of_rules-requires-clause-countable c =
    subst (All IsCountable) (sym c.as_slice-rules.ensures) (rules_countable c.args.block.now c.requires)

pub overflow_mul-bytes : goal.overflow_mul-bytes
overflow_mul-bytes c =
    let bytes = bytes_fit c.instruction_of-instruction.result c.element_width.result c.requires c.as_slice-rules.ensures
    c.in_ok-size.ensures c.element_width.ensures in
    omega (arith, bytes)

pub returns-then-bytes-gt-MOST_LIST_BYTES-clause-fault : goal.returns-then-bytes-gt-MOST_LIST_BYTES-clause-fault
returns-then-bytes-gt-MOST_LIST_BYTES-clause-fault c =
    let instruction = instruction_found c.args.block.now c.instruction_of-instruction.ensures (c.len.ensures ∙ c.in_ok-slots.slots.ok.0)
    c.in_ok-slots.ensures c.as_slice-rules.ensures in
    IsTooLong-found (IsListSize-found c.args.block.now c.as_slice-rules.ensures c.in_ok-size.ensures instruction
    c.element_width.ensures) c.if-bytes-gt-MOST_LIST_BYTES.true

pub returns-clause-instruction : goal.returns-clause-instruction
returns-clause-instruction c =
    instruction_found c.args.block.now c.instruction_of-instruction.ensures (c.len.ensures ∙ c.in_ok-slots.slots.ok.0)
    c.in_ok-slots.ensures c.as_slice-rules.ensures

pub returns-clause-limits : goal.returns-clause-limits
returns-clause-limits c =
    let instruction = instruction_found c.args.block.now c.instruction_of-instruction.ensures (c.len.ensures ∙ c.in_ok-slots.slots.ok.0)
    c.in_ok-slots.ensures c.as_slice-rules.ensures in
    IsWithinLimits-found (IsListSize-found c.args.block.now c.as_slice-rules.ensures c.in_ok-size.ensures instruction
    c.element_width.ensures) c.if-bytes-gt-MOST_LIST_BYTES.false
