use Rattle.std.proofs.Common.{length, refl}
use Rattle.byte_scaling.specs.declared.width.Width.TheVariants.{Byte}
use Rattle.eval_code.specs.{Bounds.instruction_bound, Bounds.step_bound, MemoryMaps.main_map}
use Rattle.firmware_code.specs.Images.{image_of}
use Rattle.firmware_code.proofs.Algebra.{firmware_with}
use Rattle.alone_code.specs.Firmwares.{firmware_items}
use Rattle.alone_code.proofs.Algebra.{alone_is, main_rises}
use Rattle.two_level_code.specs.{Images.two_items, MemoryMaps.slow_map, declared.two.FastCode.FastCode}
use Rattle.two_level_code.proofs.Places.{two_rise}
use Rattle.two_level_code.proofs.laws.blocks_have_twos.Goals as goal

pub returns : goal.returns
returns c slow fast slow_valid slow_limits fast_valid fast_limits =
    let rises = c.blocks_are_placed.ensures.rises in
    let images = c.items_have_images.ensures in
    let rise = two_rise rises slow fast record {
      slow_valid = slow_valid;
      slow_limits = slow_limits;
      fast_valid = fast_valid;
      fast_limits = fast_limits;
    } in
    let its_alone =
    images (firmware_items main_map slow Byte) (main_rises rises slow Byte slow_valid slow_limits) in
    let code : FastCode = record {
      outputs = length fast.outputs;
      instr_bound = instruction_bound Byte fast;
      step_bound = step_bound Byte fast;
    } in (
      record {
        firmware = firmware_with slow_map Byte (instruction_bound Byte slow) slow (image_of (two_items slow fast));
        fast = code;
      },
      record {
        image = images (two_items slow fast) rise;
        memory_map = refl;
        alone = record { firmware = alone_is Byte slow _ its_alone; width = refl };
        fast_is = record { outputs = refl; instructions = refl; steps = refl };
      },
    )
