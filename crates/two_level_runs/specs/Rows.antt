-- The rows of a slow firmware over a list of samples, with fast runs inside its interrupts.
-- Beside the promise.
use Rattle.std.specs.Prelude.{ℕ, zero, suc, Option, None, List, slice_get}
use Rattle.cpu12_parts.specs.State.{State}
use Rattle.run_law.specs.Forms.{Form, RowSeen, Rows, rows_from}
use Rattle.interrupt_plan.specs.declared.levels.Level.{Level}
use Rattle.run_forms.specs.{Forms.FormParts, Forms.plan_form, Rows.of_sample, Rows.arrived_at, Rows.shown}
use Rattle.alone_runs.specs.Forms.{stand_alone}
use Rattle.two_level_code.specs.{declared.two.Two.Two, Images.fast_most}
use Rattle.two_level_runs.specs.Runs.{FastSeen, Outer, served, told}

-- the bytes of a fast sample, counted from 1, and none for 0
abbrev pub sample_of : List (List ℕ) → ℕ → Option (List ℕ)
sample_of fast zero = None
sample_of fast (suc j) = slice_get fast j

-- the outer request of a level
abbrev pub outer_of : List (List ℕ) → Level → Outer
outer_of fast l = record { moment = l.moment; number = l.fast; sample = sample_of fast l.fast; inner = l.inner.items }

abbrev pub place_of_level : Level → ℕ × ℕ
place_of_level l = (l.sample, l.moment)

-- The parts of the form: the slow firmware as it stands alone, whose interrupts serve outer requests.
abbrev pub two_level_parts : Two → List (List ℕ) → FormParts (List ℕ) Level (Option FastSeen)
two_level_parts two fast =
    stand_alone two.firmware place_of_level
    (λ flags l v. served flags two.fast.outputs (fast_most two.fast.step_bound) (outer_of fast l) v)
    (λ flags l v. told flags two.fast.outputs (fast_most two.fast.step_bound) (outer_of fast l) v)

abbrev pub two_level_form : ℕ → Two → List (List ℕ) → Form (List ℕ) Level (Option FastSeen)
two_level_form flags two fast = plan_form flags (two_level_parts two fast)

abbrev pub levels_of : ℕ → List Level → List Level
levels_of k levels = of_sample place_of_level k levels

-- the state in which the slow firmware waits for its first sample, with the fast block beside it
abbrev pub first_two : Two → ℕ → State
first_two two flags = arrived_at flags two.firmware.memory_map.wait two.firmware.step_bound two.firmware.image.bytes

-- the run over a list of slow samples under levels over a list of fast ones
abbrev pub two_rows : Two → List (List ℕ) → List (List ℕ) → List Level → ℕ → Rows (List ℕ) Level (Option FastSeen)
two_rows two slow fast levels flags =
    rows_from (two_level_form flags two fast) two.firmware.step_bound (λ k. levels_of k levels) 1 slow
    (first_two two flags)

-- a row, and what its outer requests told of their fast runs
pub record TwoLevelSeen : Type 0 where
  pub row : RowSeen (List ℕ)
  pub fast : List (Option FastSeen)

abbrev pub with_fast : RowSeen (List ℕ) → List (Option FastSeen) → TwoLevelSeen
with_fast row fast = record { row = row; fast = fast }

abbrev pub two_level_seen : Two → List (List ℕ) → List (List ℕ) → List Level → ℕ → List TwoLevelSeen
two_level_seen two slow fast levels flags = shown with_fast (two_rows two slow fast levels flags)
