-- The blocks of two texts, and the firmware of both at two levels.
-- Beside the promise.
use Rattle.std.specs.Prelude.{ℕ, List}
use Rattle.fuzzy_meaning.specs.declared.block.Block.{Block}
use Rattle.two_level_code.specs.{Images.IsTwoOf, declared.two.Two.Two}
use Rattle.command_parts.specs.Firmwares.{GivesBlock, RefusesText}
use Rattle.command_parts.specs.{Readings.IsExact, Readings.Stage, declared.twos.CompiledTwoLevel.CompiledTwoLevel}
use Rattle.fz_status.specs.Refusals.{Refusals}
use Rattle.fz_status.specs.declared.status.FastFault.TheVariants as told
use Rattle.fz_status.specs.declared.status.Status.TheVariants as status

-- the blocks are those of the texts, they can be laid out, and the firmware is that of both
pub record GivesTwo (slow_text fast_text : List ℕ) (slow fast : Block) (two : Two) : Type 0 where
  pub slow_is : GivesBlock slow_text slow
  pub fast_is : GivesBlock fast_text fast
  pub both : IsTwoOf slow fast two

-- why the texts give none: that of the slow block first
abbrev pub two_refusals : List ℕ → List ℕ → Refusals
two_refusals slow fast (status.Fcl f) = RefusesText slow f
two_refusals slow fast (status.Fast (told.Fcl f)) = ((block : Block) × GivesBlock slow block) × RefusesText fast f
two_refusals slow fast s = ⊥

-- the blocks of two texts, the slow one first, and the firmware of both
abbrev pub twos_in : List ℕ → List ℕ → Stage CompiledTwoLevel
twos_in slow fast = record {
  gives = λ c. GivesTwo slow fast c.slow c.fast c.two;
  Seen = CompiledTwoLevel;
  seen = λ c. c;
  refuses = two_refusals slow fast;
}

abbrev pub TwosAreExact : Type 0
TwosAreExact = (slow fast : List ℕ) → IsExact (twos_in slow fast)

-- two texts that give blocks give the firmware of both
abbrev pub GivenBlocksHaveTwos : Type 0
GivenBlocksHaveTwos =
    (slow_text fast_text : List ℕ) (slow fast : Block) → GivesBlock slow_text slow → GivesBlock fast_text fast
    → (two : Two) × GivesTwo slow_text fast_text slow fast two
