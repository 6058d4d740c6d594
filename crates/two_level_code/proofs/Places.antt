-- The items of both blocks stand one above the other.
use Rattle.std.proofs.Common.{◌+◌, [], ◌∷◌, arith}
use Rattle.fuzzy_meaning.specs.{declared.block.Block.Block, Blocks.IsValid}
use Rattle.rule_layout.specs.Layouts.{IsWithinLimits}
use Rattle.cpu12_isa.specs.declared.instr.Instr.TheVariants.{Rts}
use Rattle.cpu12_asm.specs.Items.{IsRisingFrom, IsRising}
use Rattle.byte_scaling.specs.declared.width.Width.TheVariants.{Byte}
use Rattle.eval_code.specs.{MemoryMaps.main_map, Items.IsApart, Placed.IsInOrder, Placed.BlockRises}
use Rattle.firmware_code.specs.{Code.frame_code, Images.vector_items}
use Rattle.two_level_code.specs.MemoryMaps.{fast_front, fast_back, fast_map, slow_map}
use Rattle.two_level_code.specs.Images.{slow_items, two_items}
use Rattle.alone_code.proofs.Algebra.{main_in_order}

pub fast_in_order : IsInOrder fast_map fast_front fast_back
fast_in_order = search arith

pub fast_apart : IsApart fast_map
fast_apart = search arith

-- both blocks are valid and can be laid out
pub record AreAccepted (slow fast : Block) : Type 0 where
  pub slow_valid : IsValid slow
  pub slow_limits : IsWithinLimits slow
  pub fast_valid : IsValid fast
  pub fast_limits : IsWithinLimits fast

vectors_rise : IsRisingFrom (main_map.rules + 9984) (vector_items slow_map)
vectors_rise = (omega arith, (omega arith, omega arith))

slow_rise : BlockRises → (slow fast : Block) → AreAccepted slow fast
    → IsRisingFrom (fast_map.rules + 9984) (slow_items slow)
slow_rise rises slow fast h =
    rises (fast_map.rules + 9984) main_map slow Byte (frame_code main_map) (Rts ∷ [])
    (vector_items slow_map) main_in_order
    h.slow_valid h.slow_limits (omega arith) vectors_rise

pub two_rise : BlockRises → (slow fast : Block) → AreAccepted slow fast → IsRising (two_items slow fast)
two_rise rises slow fast h =
    rises 0 fast_map fast Byte fast_front fast_back (slow_items slow) fast_in_order h.fast_valid h.fast_limits
    (omega arith)
    (slow_rise rises slow fast h)
