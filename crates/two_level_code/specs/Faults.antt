-- Why two blocks are refused.
-- Beside the promise.
use Rattle.std.specs.Prelude.{◌≢◌}
use Rattle.fuzzy_meaning.specs.declared.block.Block.{Block}
use Rattle.rule_layout.specs.declared.flat.LayoutFault.TheVariants as memory_map
use Rattle.rule_layout.specs.Layouts.{IsWithinLimits, IsFaultOf}
use Rattle.two_level_code.specs.declared.from_blocks.TwoFault.{TwoFault}
use Rattle.two_level_code.specs.declared.from_blocks.TwoFault.TheVariants.{Slow, Fast, Memory}

-- both can be laid out
pub record AreWithinLimits (slow fast : Block) : Type 0 where
  pub slow_limits : IsWithinLimits slow
  pub fast_limits : IsWithinLimits fast

-- The slow block's fault, or else the fast one's. Want of memory is no one's, and none of these.
abbrev pub IsTwoFaultOf : Block → Block → TwoFault → Type 0
IsTwoFaultOf slow fast (Slow fault) = IsFaultOf slow fault × (fault ≢ memory_map.Memory)
IsTwoFaultOf slow fast (Fast fault) = IsWithinLimits slow × (IsFaultOf fast fault × (fault ≢ memory_map.Memory))
IsTwoFaultOf slow fast Memory = Unit {0}
