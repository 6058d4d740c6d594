-- What a block within its limits has no part in.
-- Beside the promise.
use Rattle.std.specs.Prelude.{◌≢◌}
use Rattle.fuzzy_meaning.specs.declared.block.Block.{Block}
use Rattle.rule_layout.specs.Layouts.{IsFaultOf, IsWithinLimits}
use Rattle.rule_layout.specs.declared.{flat.LayoutFault.LayoutFault, flat.LayoutFault.TheVariants.Memory}

-- A block within its limits has no fault.
abbrev pub LimitsHaveNoFault : Type 0
LimitsHaveNoFault = (b : Block) (f : LayoutFault) → IsWithinLimits b → f ≢ Memory → IsFaultOf b f → ⊥
