-- The command `lcompile SLOW FAST OUT`.
-- Beside the promise.
use Rattle.std.specs.Prelude.{ℕ, List, [], ◌∷◌, length, codes, Result}
use Rattle.fuzzy_meaning.specs.declared.block.Block.{Block}
use Rattle.eval_code.specs.Bounds.{instruction_bound}
use Rattle.byte_scaling.specs.declared.width.Width.TheVariants.{Byte}
use Rattle.two_level_code.specs.{Images.fast_most, declared.two.Two.Two}
use Rattle.command_parts.specs.{SeenOutputs.SeenOutput, Firmwares.GivesBlock, Lines.line}
use Rattle.command_parts.specs.{Readings.IsSettled, Readings.last, Readings.made_of, Twos.GivesTwo, Twos.twos_in}
use Rattle.build_commands.specs.Written.{WritesImage}
use Rattle.fz_status.specs.declared.status.Status.{Status}

-- SLOW and FAST
abbrev pub lcompile_inputs : List ℕ
lcompile_inputs = 2 ∷ 3 ∷ []

-- the bounds on instructions of the slow code and of the fast, and how many bytes the image of both has
abbrev pub lcompile_lines : ℕ → ℕ → ℕ → List (List ℕ)
lcompile_lines slow fast bytes =
    line (codes "instructions ") slow ∷ line (codes "fast ") fast ∷ line (codes "bytes ") bytes ∷ []

-- the texts give blocks and these the firmware of both, and OUT is to hold the records of its image
pub record LcompileGives (slow fast : List ℕ) (output : SeenOutput) : Type 0 where
  pub slow_block : Block
  pub fast_block : Block
  pub two : Two
  pub gives : GivesTwo slow fast slow_block fast_block two
  pub writes : WritesImage two.firmware.image 4
      (lcompile_lines (instruction_bound Byte slow_block) (fast_most (instruction_bound Byte fast_block))
      (length two.firmware.image.bytes)) output

abbrev pub LcompileMakes : List ℕ → List ℕ → Result SeenOutput Status → Type 0
LcompileMakes slow fast = made_of (last (twos_in slow fast)) (LcompileGives slow fast)

-- the texts give blocks
abbrev pub LcompileAccepts : List ℕ → List ℕ → Type 0
LcompileAccepts slow fast =
    (slow_block : Block) × (fast_block : Block) × GivesBlock slow slow_block × GivesBlock fast fast_block

-- texts make at most one output, and then no fault; and one where they are accepted
abbrev pub LcompileIsSettled : Type 0
LcompileIsSettled = (slow fast : List ℕ) → IsSettled (LcompileMakes slow fast) (LcompileAccepts slow fast)
