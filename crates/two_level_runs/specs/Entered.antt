-- The fast code is entered.
-- Beside the promise.
use Rattle.std.specs.Prelude.{◌≡◌, ℕ, List}
use Rattle.fuzzy_meaning.specs.{declared.block.Block.Block, Blocks.IsValid}
use Rattle.rule_layout.specs.Layouts.{IsWithinLimits}
use Rattle.cpu12_parts.specs.State.{State}
use Rattle.eval_code.specs.Firing.{AreInputBytes}
use Rattle.two_level_code.specs.{declared.two.Two.Two, Images.joint_memory, Images.IsTwoOf, Running.IsEntered}
use Rattle.two_level_runs.specs.Runs.{entered}

-- There is a state over memory as the image makes it from which an interrupt enters the fast code, with any sample and
-- with all outputs 0.
abbrev pub FastIsEntered : Type 0
FastIsEntered =
    (slow fast : Block) (two : Two) (bytes : List ℕ) → IsValid slow → IsWithinLimits slow → IsValid fast
    → IsWithinLimits fast → IsTwoOf slow fast two → AreInputBytes fast bytes
    → (v : State) × ((v.mem ≡ joint_memory two)
    × IsEntered fast (joint_memory two) bytes (λ o. 0) (entered bytes v))
