-- The samples of good levels do not fall.
use Rattle.two_level_runs.proofs.Words.{[], ◌∷◌, ◌≤◌, arith, inl, inr, Level, LevelNotAfter, List, place_of_level, ℕ}
use Rattle.interrupt_plan.specs.{Rows.Ascend}
use Rattle.two_level_runs.specs.{Order.LevelsAreInOrder}
use Rattle.run_forms.specs.Slices.{Follow}

sample_le : (a b : Level) → LevelNotAfter a b → a.sample ≤ b.sample
sample_le a b (inl less) = omega arith
sample_le a b (inr same) = omega (arith, same.0)

follow_from : (k : ℕ) (l : Level) (ls : List Level) → k ≤ l.sample → Ascend LevelNotAfter (l ∷ ls)
    → Follow place_of_level k (l ∷ ls)
follow_from k l [] le ascend = (le, tt)
follow_from k l (next ∷ ls) le ascend = (le, follow_from l.sample next ls (sample_le l next ascend.0) ascend.1)

pub levels_are_in_order : LevelsAreInOrder
levels_are_in_order fast [] good = record { few = good.few; follow = tt }
levels_are_in_order fast (l ∷ ls) good =
    let first = good.each 0 l (omega arith) in
    record { few = good.few; follow = follow_from 1 l ls first.sample_from good.ascends }
