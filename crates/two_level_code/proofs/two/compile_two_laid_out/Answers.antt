use Rattle.std.proofs.Common.{List, ◌∙◌, ap, refl, rules, subst}
use Rattle.byte_scaling.specs.declared.width.Width.TheVariants.{Byte}
use Rattle.cpu12_asm.specs.declared.items.Item.{Item}
use Rattle.firmware_code.specs.Images.{IsImageOf}
use Rattle.alone_code.specs.Firmwares.{firmware_items}
use Rattle.alone_code.proofs.Algebra.{main_rises}
use Rattle.eval_code.specs.{Bounds.steps_by, MemoryMaps.main_map}
use Rattle.two_level_code.specs.Images.{alone_map}
use Rattle.two_level_code.proofs.two.compile_two_laid_out.Goals as goal

pub returns-clause-two : goal.returns-clause-two
returns-clause-two c =
    let slow = c.args.slow.now in
    let b = slow.block.now in
    let bound = c.instruction_bound-slow_bound.ensures.value in
    let fast_bound = c.instruction_bound-fast_bound.ensures.value in
    record {
      image = subst (λ (xs : List Item). IsImageOf xs c.in_ok-image.image)
          (c.as_slice.ensures.value ∙ c.in_ok-items.ensures) c.in_ok-image.ensures;
      memory_map = c.slow_map.ensures;
      alone = record {
        firmware = record {
          image = c.items_have_images.ensures (firmware_items main_map b Byte)
              (main_rises c.blocks_are_placed.ensures.rises b Byte slow.valid slow.limits);
          memory_map = ap alone_map c.slow_map.ensures;
          inputs = search rules;
          outputs = search rules;
          instructions = bound;
          steps = c.steps_by.ensures ∙ ap (steps_by b) bound;
        };
        width = refl;
      };
      fast_is = record {
        outputs = search rules;
        instructions = fast_bound;
        steps = c.steps_by-2.ensures ∙ ap (steps_by c.args.fast.now.block.now) fast_bound;
      };
    }

pub returns-clause-beside : goal.returns-clause-beside
returns-clause-beside c =
    (c.two_stand_beside.ensures _ _ _ c.args.slow.now.valid c.args.slow.now.limits c.args.fast.now.valid
    c.args.fast.now.limits (returns-clause-two c)).0

pub returns-clause-slow_answers : goal.returns-clause-slow_answers
returns-clause-slow_answers c =
    (c.two_stand_beside.ensures _ _ _ c.args.slow.now.valid c.args.slow.now.limits c.args.fast.now.valid
    c.args.fast.now.limits (returns-clause-two c)).1

pub returns-clause-fast_answers : goal.returns-clause-fast_answers
returns-clause-fast_answers c =
    c.fast_answers_entered.ensures _ _ _ c.args.slow.now.valid c.args.slow.now.limits c.args.fast.now.valid
    c.args.fast.now.limits (returns-clause-two c)
