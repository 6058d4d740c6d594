-- Levels are requests in order, and make a plan.
-- Beside the promise.
use Rattle.std.specs.Prelude.{ℕ, List}
use Rattle.interrupt_plan.specs.{declared.levels.Level.Level, Levels.AreGoodLevels, Plans.IsGood}
use Rattle.run_forms.specs.Slices.{IsInOrder}
use Rattle.two_level_runs.specs.{Answering.plan_of, Rows.place_of_level}

-- Good levels are few, and their samples do not fall.
abbrev pub LevelsAreInOrder : Type 0
LevelsAreInOrder = (fast : ℕ) (levels : List Level) → AreGoodLevels fast levels → IsInOrder place_of_level levels

-- The plan at good levels' places is good.
abbrev pub LevelsMakeAPlan : Type 0
LevelsMakeAPlan = (fast : ℕ) (levels : List Level) → AreGoodLevels fast levels → IsGood (plan_of levels)
