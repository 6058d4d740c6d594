use Rattle.alone_code.proofs.Words.{◌<◌, ◌^◌, ◌∙◌, ap, IsImageOf, IsRising, length, List, refl, subst, sym}
use Rattle.cpu12_asm.specs.declared.items.Item.{Item}
use Rattle.std.proofs.Common.{rules}
unfoldable use Rattle.eval_code.specs.Bounds.{steps_by}
use Rattle.alone_code.proofs.runs.Law.{main_rises, length-main_items}
use Rattle.alone_code.proofs.firmware.compile_laid_out.Goals as goal

pub image_of-requires-clause-few : goal.image_of-requires-clause-few
image_of-requires-clause-few c =
    let laid = c.args.laid_out.now in
    subst (λ (xs : List Item). length xs < 2 ^ 32) (sym (c.as_slice.ensures.value ∙ c.in_ok-items.ensures))
    (length-main_items c.blocks_are_placed.ensures.short laid.block.now c.args.width laid.valid laid.limits)

pub image_of-requires-clause-rising : goal.image_of-requires-clause-rising
image_of-requires-clause-rising c =
    let laid = c.args.laid_out.now in
    subst (λ (xs : List Item). IsRising xs) (sym (c.as_slice.ensures.value ∙ c.in_ok-items.ensures))
    (main_rises c.blocks_are_placed.ensures.rises laid.block.now c.args.width laid.valid laid.limits)

pub returns-clause-firmware : goal.returns-clause-firmware
returns-clause-firmware c =
    let b = c.args.laid_out.now.block.now in
    let e = c.as_slice.ensures.value ∙ c.in_ok-items.ensures in
    record {
      image = subst (λ (xs : List Item). IsImageOf xs c.in_ok-image.image) e c.in_ok-image.ensures;
      memory_map = refl;
      inputs = search rules;
      outputs = search rules;
      instructions = c.instruction_bound-instr_bound.ensures.value;
      steps = c.steps_by-step_bound.ensures ∙ ap (steps_by b) c.instruction_bound-instr_bound.ensures.value;
    }

pub returns-clause-answers : goal.returns-clause-answers
returns-clause-answers c =
    let laid = c.args.laid_out.now in
    c.firmware_answers.ensures laid.block.now _ laid.valid laid.limits (returns-clause-firmware c)

pub returns-clause-uninterrupted : goal.returns-clause-uninterrupted
returns-clause-uninterrupted c =
    let laid = c.args.laid_out.now in
    c.firmware_is_uninterrupted.ensures laid.block.now _ laid.valid laid.limits (returns-clause-firmware c)
