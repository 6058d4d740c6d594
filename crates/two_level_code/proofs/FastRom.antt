-- The fast code in a memory that has its ROM.
use Rattle.std.proofs.Common.{◌≡◌, ℕ, Ok, List, [], arith}
use Rattle.fuzzy_meaning.specs.declared.block.Block.{Block}
use Rattle.cpu12_isa.specs.{declared.instr.Instr.TheVariants.Andcc, Code.decode_at, Code.DecodesEncoded}
use Rattle.byte_scaling.specs.declared.width.Width.TheVariants.{Byte}
use Rattle.eval_code.specs.Placed.{BlockRises, BlockStands, StandsBetween}
use Rattle.two_level_code.specs.{declared.two.Two.Two, Running.HasFastRom}
use Rattle.two_level_code.specs.Images.{joint_memory, slow_items, IsTwoOf}
use Rattle.two_level_code.specs.MemoryMaps.{fast_front, fast_back, fast_map}
use Rattle.two_level_code.proofs.Places.{fast_in_order, AreAccepted, two_rise}

-- the laws of lower crates
pub record CodeLaws : Type 0 where
  pub rises : BlockRises
  pub stands : BlockStands
  pub decodes : DecodesEncoded

pub standing : CodeLaws → (slow fast : Block) (two : Two) (mem : List ℕ) → AreAccepted slow fast → IsTwoOf slow fast two
    → HasFastRom (joint_memory two) mem → StandsBetween fast_map fast Byte fast_front fast_back mem
standing laws slow fast two mem h is same =
    laws.stands two.firmware.image.bytes mem [] (slow_items slow) fast_map fast Byte fast_front fast_back fast_in_order
    h.fast_valid h.fast_limits
    is.image.bytes (two_rise laws.rises slow fast h) same

-- its first instruction
pub first_decoded : CodeLaws → (fast : Block) (mem : List ℕ)
    → StandsBetween fast_map fast Byte fast_front fast_back mem
    → decode_at mem fast_map.code ≡ Ok (Andcc 0xEF)
first_decoded laws fast mem code =
    laws.decodes mem fast_map.code (Andcc 0xEF) (omega arith) (code.front.0, (code.front.1.0, tt))
